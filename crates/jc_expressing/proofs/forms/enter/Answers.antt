use Rattle.std.proofs.Common.{ap, sym, arith}
use Rattle.jc_pending.proofs.Entering.{expr_at, expr_none, expr_spent}
use Rattle.jc_expressing.proofs.forms.enter.Goals as goal

pub returns-then-depth-eq0 : goal.returns-then-depth-eq0
returns-then-depth-eq0 c = λ k coherent. sym (ap k.value (expr_none _ _ _ _ _ c.if-depth-eq0.true))

pub returns-then-run-eq0 : goal.returns-then-run-eq0
returns-then-run-eq0 c = λ k coherent. sym (ap k.value (expr_spent _ _ _ _ _ c.if-run-eq0.true))

pub returns : goal.returns
returns c = λ k coherent. sym (ap k.value (expr_at _ _ _ _ _ (omega arith) (omega arith)))
