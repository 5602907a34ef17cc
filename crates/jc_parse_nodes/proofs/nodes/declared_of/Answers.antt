use Rattle.std.proofs.Common.{List, rules}
use Rattle.jc_tree.specs.declared.statement.Modifier.{Modifier}
use Rattle.jc_tree.specs.declared.statement.Stmt.TheVariants as stmt_of
use Rattle.jc_parse_nodes.specs.Nodes.{declaration_of}
use Rattle.jc_parse_nodes.specs.declared.pieces.Body.{Body}
use Rattle.jc_parse_nodes.proofs.nodes.declared_of.Goals as goal

pub returns : goal.returns
returns c = c.join.ensures (λ (a : List Modifier) (b : Body). stmt_of.Declared (declaration_of a b)) (λ a b r p. search rules)
