use Rattle.std.proofs.Common.{ℕ, rules}
use Rattle.jc_tree.specs.declared.expression.Expr.{Expr}
use Rattle.jc_tree.specs.declared.statement.Stmt.TheVariants as stmt_of
use Rattle.jc_parse_nodes.proofs.nodes.throw_of.Goals as goal

pub returns : goal.returns
returns c = c.join.ensures (λ (a : ℕ) (b : Expr). stmt_of.Throw a b) (λ a b r p. search rules)
