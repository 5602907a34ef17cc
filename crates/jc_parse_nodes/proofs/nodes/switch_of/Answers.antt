use Rattle.std.proofs.Common.{List, rules}
use Rattle.jc_tree.specs.declared.statement.Clause.{Clause}
use Rattle.jc_tree.specs.declared.statement.Stmt.TheVariants as stmt_of
use Rattle.jc_parse_nodes.specs.declared.pieces.Tested.{Tested}
use Rattle.jc_parse_nodes.proofs.nodes.switch_of.Goals as goal

pub returns : goal.returns
returns c = c.join.ensures (λ (a : Tested) (b : List Clause). stmt_of.Switch a.at a.test b) (λ a b r p. search rules)
