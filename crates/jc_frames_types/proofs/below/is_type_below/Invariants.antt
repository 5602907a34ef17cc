use Rattle.std.proofs.Common.{◌≡◌, length}
use Rattle.jc_frames_types.specs.Names.{is_type_below}
use Rattle.jc_frames_types.proofs.below.is_type_below.Given as goal

-- the elements tell it as the arrays do
abbrev pub invariant-loop-from : goal.invariant-loop-from
invariant-loop-from l = is_type_below l.types l.from l.to ≡ is_type_below l.types l.fn.from l.fn.to

abbrev pub decreases-loop-from : goal.decreases-loop-from
decreases-loop-from l = length l.from
