use Rattle.std.proofs.Common.{◌≡◌, length}
use Rattle.jc_meaning.specs.Programs.{selected_in}
use Rattle.jc_acts.proofs.frames.selected_in.Given as goal

abbrev pub invariant-loop-rest : goal.invariant-loop-rest
invariant-loop-rest l = selected_in l.m l.fn.selections ≡ selected_in l.m l.rest

abbrev pub decreases-loop-rest : goal.decreases-loop-rest
decreases-loop-rest l = length l.rest
