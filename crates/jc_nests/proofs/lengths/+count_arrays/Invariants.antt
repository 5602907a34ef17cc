use Rattle.std.proofs.Common.{length}
use Rattle.jc_nests.proofs.lengths.+count_arrays.Given as goal

abbrev pub decreases-count_arrays : goal.decreases-count_arrays
decreases-count_arrays l = length l.lengths.now
