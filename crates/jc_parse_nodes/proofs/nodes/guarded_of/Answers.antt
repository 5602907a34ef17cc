use Rattle.std.proofs.Common.{List, rules}
use Rattle.jc_tree.specs.declared.statement.Clause.{Clause}
use Rattle.jc_tree.specs.declared.statement.Stmt.{Stmt}
use Rattle.jc_parse_nodes.proofs.nodes.guarded_of.Goals as goal

pub returns : goal.returns
returns c = c.join.ensures (λ (a : List Stmt) (b : List Clause). record { items = a; clauses = b }) (λ a b r p. search rules)
