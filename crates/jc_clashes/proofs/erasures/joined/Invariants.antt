use Rattle.std.proofs.Common.{◌≡◌, length}
use Rattle.jc_clashes.specs.Erasures.{joined}
use Rattle.jc_clashes.proofs.erasures.joined.Given as goal

abbrev pub invariant-loop-rest : goal.invariant-loop-rest
invariant-loop-rest l = joined l.out l.rest ≡ joined l.fn.es l.fn.fs

abbrev pub decreases-loop-rest : goal.decreases-loop-rest
decreases-loop-rest l = length l.rest
