use Rattle.std.proofs.Common.{rules}
use Rattle.jc_tree.specs.declared.statement.Stmt.{Stmt}
use Rattle.jc_tree.specs.declared.statement.Stmt.TheVariants as stmt_of
use Rattle.jc_parse_nodes.specs.declared.pieces.Tested.{Tested}
use Rattle.jc_parse_nodes.proofs.nodes.while_of.Goals as goal

pub returns : goal.returns
returns c = c.join.ensures (λ (a : Tested) (b : Stmt). stmt_of.While a.at a.test b) (λ a b r p. search rules)
