use Rattle.std.proofs.Common.{◌≡◌, take}
use Rattle.jc_class_in.proofs.frames.copy_of.Given as goal

abbrev pub invariant-loop-item : goal.invariant-loop-item
invariant-loop-item l = l.list ≡ take l.item-index l.items
