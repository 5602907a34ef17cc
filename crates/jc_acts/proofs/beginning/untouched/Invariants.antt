use Rattle.std.proofs.Common.{◌≡◌, replicate}
use Rattle.jc_running.specs.declared.value.Readiness.TheVariants.{Untouched}
use Rattle.jc_acts.proofs.beginning.untouched.Given as goal

abbrev pub invariant-loop-i : goal.invariant-loop-i
invariant-loop-i l = l.out ≡ replicate l.i Untouched
