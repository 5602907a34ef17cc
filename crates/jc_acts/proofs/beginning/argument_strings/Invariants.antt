use Rattle.std.proofs.Common.{◌≡◌, ◌++◌, length}
use Rattle.jc_running.specs.Outcomes.{give, on_both, throw}
use Rattle.jc_meaning.specs.Meaning.{argument_strings}
use Rattle.jc_acts.proofs.beginning.argument_strings.Given as goal

abbrev pub invariant-loop-rest : goal.invariant-loop-rest
invariant-loop-rest l = argument_strings l.program l.fn.texts l.fn.run.units l.fn.run.state ≡ on_both (argument_strings l.program l.rest l.run.units l.run.state) (λ vs. give (l.out ++ vs)) throw

abbrev pub decreases-loop-rest : goal.decreases-loop-rest
decreases-loop-rest l = length l.rest
