use Rattle.std.proofs.Common.{◌*◌, ◌+◌}
use Rattle.jc_convert.proofs.casting.+bound.Given as goal

abbrev pub decreases-bound_within : goal.decreases-bound_within
decreases-bound_within l = 2 * l.steps

abbrev pub decreases-bound_of_all : goal.decreases-bound_of_all
decreases-bound_of_all l = 2 * l.steps + 1
