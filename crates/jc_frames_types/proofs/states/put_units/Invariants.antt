use Rattle.std.proofs.Common.{◌≡◌, ◌≤◌, ◌++◌, length, map, vec_capacity}
use Rattle.jc_frames_types.specs.Items.{item_of}
use Rattle.jc_frames_types.specs.States.{all_units}
use Rattle.jc_frames_types.proofs.states.put_units.Given as goal

-- the units that are there, and those of what is left, are those of all
abbrev pub invariant-loop-rest : goal.invariant-loop-rest
invariant-loop-rest l =
    (vec_capacity l.units ≡ vec_capacity l.initial.units)
    × (length l.units.items ≤ l.most)
    × (map item_of l.units.items ++ all_units l.rest ≡ all_units l.items)

abbrev pub decreases-loop-rest : goal.decreases-loop-rest
decreases-loop-rest l = length l.rest
