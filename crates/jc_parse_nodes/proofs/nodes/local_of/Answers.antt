use Rattle.std.proofs.Common.{List, rules}
use Rattle.jc_tree.specs.declared.statement.Modifier.{Modifier}
use Rattle.jc_tree.specs.declared.statement.Stmt.TheVariants as stmt_of
use Rattle.jc_parse_nodes.specs.Nodes.{locals_of}
use Rattle.jc_parse_nodes.specs.declared.pieces.Typed.{Typed}
use Rattle.jc_parse_nodes.proofs.nodes.local_of.Goals as goal

pub returns : goal.returns
returns c = c.join.ensures (λ (a : List Modifier) (b : Typed). stmt_of.Local (locals_of a b)) (λ a b r p. search rules)
