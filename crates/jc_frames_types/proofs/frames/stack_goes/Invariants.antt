use Rattle.std.proofs.Common.{◌≡◌, length, map}
use Rattle.jc_frames_types.specs.Items.{item_of}
use Rattle.jc_frames_types.specs.States.{is_stack_assignable}
use Rattle.jc_frames_types.proofs.frames.stack_goes.Given as goal

-- what is left tells it as all do
abbrev pub invariant-loop-rest : goal.invariant-loop-rest
invariant-loop-rest l = is_stack_assignable l.types (map item_of l.left) l.rest ≡ is_stack_assignable l.types (map item_of l.stack) l.items

abbrev pub decreases-loop-rest : goal.decreases-loop-rest
decreases-loop-rest l = length l.rest
