use Rattle.std.proofs.Common.{◌≡◌, length, map}
use Rattle.jc_frames_types.specs.Items.{item_of}
use Rattle.jc_frames_types.specs.States.{are_locals_assignable}
use Rattle.jc_frames_types.proofs.frames.locals_go.Given as goal

-- what is left tells it as all do
abbrev pub invariant-loop-rest : goal.invariant-loop-rest
invariant-loop-rest l = are_locals_assignable l.types (map item_of l.left) l.rest ≡ are_locals_assignable l.types (map item_of l.locals) l.items

abbrev pub decreases-loop-rest : goal.decreases-loop-rest
decreases-loop-rest l = length l.rest
