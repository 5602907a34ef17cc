use Rattle.std.proofs.Common.{rules}
use Rattle.jc_tree.specs.declared.expression.Expr.{Expr}
use Rattle.jc_tree.specs.declared.statement.Stmt.{Stmt}
use Rattle.jc_tree.specs.declared.statement.Stmt.TheVariants as stmt_of
use Rattle.jc_parse_nodes.proofs.nodes.do_of.Goals as goal

pub returns : goal.returns
returns c = c.join.ensures (λ (a : Stmt) (b : Expr). stmt_of.Do c.args.at a b) (λ a b r p. search rules)
