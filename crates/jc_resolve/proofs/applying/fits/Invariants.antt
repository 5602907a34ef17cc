use Rattle.std.proofs.Common.{◌≡◌, length}
use Rattle.jc_resolve.specs.Applying.{fits, unchecked_before}
use Rattle.jc_resolve.proofs.applying.fits.Given as goal

abbrev pub invariant-loop-rest : goal.invariant-loop-rest
invariant-loop-rest l = unchecked_before l.unchecked (fits l.table l.env.bounds l.phase l.rest l.others) ≡ fits l.table l.env.bounds l.phase l.args l.params

abbrev pub decreases-loop-rest : goal.decreases-loop-rest
decreases-loop-rest l = length l.rest
