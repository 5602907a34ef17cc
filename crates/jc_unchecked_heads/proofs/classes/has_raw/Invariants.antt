use Rattle.std.proofs.Common.{◌≡◌, ◌<◌, length}
use Rattle.jc_unchecked_spec.specs.Heads.{has_raw}
use Rattle.jc_unchecked_heads.proofs.classes.has_raw.Given as goal

abbrev pub invariant-loop-rest : goal.invariant-loop-rest
invariant-loop-rest l = has_raw l.table l.rest ≡ has_raw l.table l.types

abbrev pub decreases-loop-rest : goal.decreases-loop-rest
decreases-loop-rest l = length l.rest
