use Rattle.std.proofs.Common.{◌≡◌, ◌++◌, length, map}
use Rattle.jc_frames_types.specs.Items.{item_of}
use Rattle.jc_frames_check.proofs.entries.add_items.Given as goal

-- the types so far, and those of what is left
abbrev pub invariant-loop-rest : goal.invariant-loop-rest
invariant-loop-rest l = l.items ++ map item_of l.rest ≡ l.initial.items ++ map item_of l.units

abbrev pub decreases-loop-rest : goal.decreases-loop-rest
decreases-loop-rest l = length l.rest
