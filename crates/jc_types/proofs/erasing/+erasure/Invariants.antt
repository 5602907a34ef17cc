use Rattle.std.proofs.Common.{◌+◌, ◌*◌}
use Rattle.jc_types.proofs.erasing.+erasure.Given as goal

abbrev pub decreases-erased_within : goal.decreases-erased_within
decreases-erased_within l = 3 * l.steps + 2

abbrev pub decreases-inner_erasure : goal.decreases-inner_erasure
decreases-inner_erasure l = 3 * l.steps + 1

abbrev pub decreases-leftmost_within : goal.decreases-leftmost_within
decreases-leftmost_within l = 3 * l.steps
