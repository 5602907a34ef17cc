use Rattle.std.proofs.Common.{◌≡◌, ◌++◌, ◌+◌, length}
use Rattle.jc_front.specs.Stages.{numbered_from}
use Rattle.jc_front.proofs.units.add_numbered.Given as goal

abbrev pub invariant-loop-unit : goal.invariant-loop-unit
invariant-loop-unit l =
    (l.units ++ numbered_from (l.file + 1) l.unit-iterator.rest.items ≡ l.initial.units ++ numbered_from 1 l.initial.unit-iterator.rest.items) × (l.file + length l.unit-iterator.rest.items ≡ l.count)
