use Rattle.std.proofs.Common.{◌≡◌, ◌++◌, length}
use Rattle.jc_running.specs.Outcomes.{give, on_both, throw}
use Rattle.jc_meaning.specs.Expressions as e
use Rattle.jc_acts.proofs.making.lengths_of.Given as goal

abbrev pub invariant-loop-rest : goal.invariant-loop-rest
invariant-loop-rest l = (inner : e.Inner) → e.lengths_of l.program inner l.fn.values l.fn.run.units l.fn.run.state ≡ on_both (e.lengths_of l.program inner l.rest l.run.units l.run.state) (λ vs. give (l.out ++ vs)) throw

abbrev pub decreases-loop-rest : goal.decreases-loop-rest
decreases-loop-rest l = length l.rest
