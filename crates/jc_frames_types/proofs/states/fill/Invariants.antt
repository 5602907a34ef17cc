use Rattle.std.proofs.Common.{◌≡◌, ◌+◌, ◌++◌, length, map, replicate, vec_capacity}
use Rattle.jc_class_out.specs.declared.model.Item.TheVariants.{Top}
use Rattle.jc_frames_types.specs.Items.{item_of}
use Rattle.jc_frames_types.proofs.states.fill.Given as goal

-- so many Tops are there
abbrev pub invariant-loop-filled : goal.invariant-loop-filled
invariant-loop-filled l =
    (vec_capacity l.units ≡ vec_capacity l.initial.units)
    × (length l.units.items ≡ length l.initial.units.items + l.filled)
    × (map item_of l.units.items ≡ map item_of l.initial.units.items ++ replicate l.filled Top)
