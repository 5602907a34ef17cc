use Rattle.std.proofs.Common.{ℕ, List, rules}
use Rattle.jc_tree.specs.declared.statement.Stmt.{Stmt}
use Rattle.jc_tree.specs.declared.statement.Stmt.TheVariants as stmt_of
use Rattle.jc_parse_nodes.proofs.nodes.block_of.Goals as goal

pub returns : goal.returns
returns c = c.join.ensures (λ (a : ℕ) (b : List Stmt). stmt_of.Block a b) (λ a b r p. search rules)
