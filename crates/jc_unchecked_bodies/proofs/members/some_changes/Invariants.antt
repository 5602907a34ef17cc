use Rattle.std.proofs.Common.{◌≡◌, ◌<◌, length}
use Rattle.jc_unchecked_spec.specs.Bodies.{some_erased}
use Rattle.jc_unchecked_bodies.proofs.members.some_changes.Given as goal

abbrev pub invariant-loop-rest : goal.invariant-loop-rest
invariant-loop-rest l = some_erased l.walk.table.now l.rest ≡ some_erased l.walk.table.now l.types

abbrev pub decreases-loop-rest : goal.decreases-loop-rest
decreases-loop-rest l = length l.rest
