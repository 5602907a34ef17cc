use Rattle.jc_expr_laws.proofs.ExprTold.{expressions_are_told}
use Rattle.jc_expr_laws.proofs.laws.expressions_are_told.Goals as goal

pub returns : goal.returns
returns c = expressions_are_told
