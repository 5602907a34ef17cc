use Rattle.std.proofs.Common.{List, rules}
use Rattle.jc_tree.specs.declared.statement.ClauseHead.TheVariants as clause_head_of
use Rattle.jc_tree.specs.declared.statement.Stmt.{Stmt}
use Rattle.jc_parse_nodes.specs.Nodes.{clause_made}
use Rattle.jc_parse_nodes.specs.declared.pieces.Tested.{Tested}
use Rattle.jc_parse_nodes.proofs.nodes.arm_of.Goals as goal

pub returns : goal.returns
returns c = c.join.ensures (λ (a : Tested) (b : List Stmt). clause_made (record { at = a.at; head = clause_head_of.If a.test }, b)) (λ a b r p. search rules)
