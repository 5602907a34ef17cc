use Rattle.std.proofs.Common.{◌≡◌, length, map}
use Rattle.std.specs.List.{list_any}
use Rattle.jc_class_out.specs.Forms.{same_item}
use Rattle.jc_frames_types.specs.Items.{item_of}
use Rattle.jc_frames_types.proofs.states.has_unit.Given as goal

-- what is left tells it as all do
abbrev pub invariant-loop-rest : goal.invariant-loop-rest
invariant-loop-rest l = list_any (same_item (item_of l.unit)) (map item_of l.rest) ≡ list_any (same_item (item_of l.unit)) (map item_of l.units)

abbrev pub decreases-loop-rest : goal.decreases-loop-rest
decreases-loop-rest l = length l.rest
