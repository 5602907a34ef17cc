use Rattle.std.proofs.Common.{◌≡◌, map, vec_capacity}
use Rattle.jc_frames_types.specs.Items.{item_of}
use Rattle.jc_frames_types.proofs.Swapping.{SwappedTo}
use Rattle.jc_frames_types.proofs.states.replace.Given as goal

-- those before the place are swapped
abbrev pub invariant-loop-at : goal.invariant-loop-at
invariant-loop-at l =
    (vec_capacity l.units ≡ vec_capacity l.initial.units)
    × SwappedTo (item_of l.old) (item_of l.new) l.at (map item_of l.initial.units.items) (map item_of l.units.items)
