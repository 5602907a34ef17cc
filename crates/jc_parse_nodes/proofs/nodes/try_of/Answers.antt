use Rattle.std.proofs.Common.{ℕ, None, rules}
use Rattle.jc_tree.specs.declared.statement.Stmt.TheVariants as stmt_of
use Rattle.jc_parse_nodes.specs.declared.pieces.Guarded.{Guarded}
use Rattle.jc_parse_nodes.proofs.nodes.try_of.Goals as goal

pub returns : goal.returns
returns c = c.join.ensures (λ (a : ℕ) (b : Guarded). stmt_of.Try a None b.items b.clauses) (λ a b r p. search rules)
