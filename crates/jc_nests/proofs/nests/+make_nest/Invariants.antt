use Rattle.std.proofs.Common.{◌≡◌, ◌-◌, ◌++◌, length}
use Rattle.jc_jvm.specs.Objects.{arrays_within, cells_of, nest}
use Rattle.jc_nests.proofs.nests.+make_nest.Given as goal

abbrev pub decreases-make_nest : goal.decreases-make_nest
decreases-make_nest l = length l.lengths.now

-- what is still to come, behind what was made
abbrev pub invariant-loop-made : goal.invariant-loop-made
invariant-loop-made l =
    l.heap ++ cells_of (l.many - l.made) (arrays_within l.rest) (length l.heap) (nest l.rest l.inner) ≡ l.fn.heap ++ nest l.fn.lengths l.fn.of (length l.fn.heap)
