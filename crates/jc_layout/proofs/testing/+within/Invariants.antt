use Rattle.std.proofs.Common.{◌≡◌, ◌+◌, ◌*◌, length}
use Rattle.jc_heaps.specs.Classes.{any_of, is_within}
use Rattle.jc_layout.proofs.testing.+within.Given as goal

abbrev pub decreases-is_within : goal.decreases-is_within
decreases-is_within l = 3 * l.steps

abbrev pub decreases-class_within : goal.decreases-class_within
decreases-class_within l = 3 * l.steps + 1

abbrev pub decreases-any_within : goal.decreases-any_within
decreases-any_within l = 3 * l.steps + 2

abbrev pub invariant-any_within-loop-rest : goal.invariant-any_within-loop-rest
invariant-any_within-loop-rest l = any_of (is_within l.table l.steps l.c) l.types ≡ any_of (is_within l.table l.steps l.c) l.rest

abbrev pub decreases-any_within-loop-rest : goal.decreases-any_within-loop-rest
decreases-any_within-loop-rest l = length l.rest
