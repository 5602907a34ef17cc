use Rattle.std.proofs.Common.{◌≡◌, take, map}
use Rattle.jc_class_in.specs.Sorts.{sort_of}
use Rattle.jc_class_in.proofs.sorts.sorts.Given as goal

abbrev pub invariant-loop-slot : goal.invariant-loop-slot
invariant-loop-slot l = l.sorts.items ≡ map sort_of (take l.slot-index l.pool)
