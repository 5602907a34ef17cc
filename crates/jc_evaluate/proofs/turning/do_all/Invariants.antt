use Rattle.std.proofs.Common.{◌≡◌}
use Rattle.jc_running.specs.declared.value.Value.{Value}
use Rattle.jc_running.specs.Outcomes.{Out}
use Rattle.jc_meaning.specs.Kept.{TypedState}
use Rattle.jc_pending.specs.Frames.{all_to_do, at_the_end}
use Rattle.jc_pending.specs.Leads.{GivenLeads, given_on}
use Rattle.jc_evaluate.proofs.turning.do_all.Given as goal

abbrev pub invariant-loop-turn : goal.invariant-loop-turn
invariant-loop-turn l = (w : Out TypedState Value) → given_on (all_to_do l.program at_the_end l.fn.entries) l.fn.given l.fn.run ≡ w → GivenLeads (all_to_do l.program at_the_end l.stack) l.now l.run w
