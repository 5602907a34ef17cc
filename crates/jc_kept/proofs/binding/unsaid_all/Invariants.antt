use Rattle.std.proofs.Common.{◌≡◌, length}
use Rattle.jc_meaning.specs.Kept.{unsaid_on, unsaid_all}
use Rattle.jc_kept.proofs.binding.unsaid_all.Given as goal

abbrev pub invariant-loop-rest : goal.invariant-loop-rest
invariant-loop-rest l = unsaid_on l.vars l.env l.captured l.rest ≡ unsaid_all l.vars l.env

abbrev pub decreases-loop-rest : goal.decreases-loop-rest
decreases-loop-rest l = length l.rest
