use Rattle.std.proofs.Common.{ℕ, Option, rules}
use Rattle.jc_tree.specs.declared.expression.Expr.{Expr}
use Rattle.jc_tree.specs.declared.statement.Stmt.TheVariants as stmt_of
use Rattle.jc_parse_nodes.proofs.nodes.return_of.Goals as goal

pub returns : goal.returns
returns c = c.join.ensures (λ (a : ℕ) (b : Option Expr). stmt_of.Return a b) (λ a b r p. search rules)
