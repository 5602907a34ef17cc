use Rattle.std.proofs.Common.{◌≡◌, length}
use Rattle.jc_resolve.specs.Choosing.{fits_all}
use Rattle.jc_resolve.proofs.sorting.fits_all.Given as goal

abbrev pub invariant-loop-rest : goal.invariant-loop-rest
invariant-loop-rest l = fits_all l.table l.env.bounds l.a l.rest ≡ fits_all l.table l.env.bounds l.a l.candidates

abbrev pub decreases-loop-rest : goal.decreases-loop-rest
decreases-loop-rest l = length l.rest
