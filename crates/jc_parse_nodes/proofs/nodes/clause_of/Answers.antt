use Rattle.std.proofs.Common.{List, rules}
use Rattle.jc_tree.specs.declared.statement.Stmt.{Stmt}
use Rattle.jc_parse_nodes.specs.Nodes.{clause_made}
use Rattle.jc_parse_nodes.specs.declared.pieces.Opening.{Opening}
use Rattle.jc_parse_nodes.proofs.nodes.clause_of.Goals as goal

pub returns : goal.returns
returns c = c.join.ensures (λ (a : Opening) (b : List Stmt). clause_made (a, b)) (λ a b r p. search rules)
