use Rattle.std.proofs.Common.{◌≡◌, take}
use Rattle.std.specs.List.{flat_map}
use Rattle.jc_heap.specs.Signatures.{marked}
use Rattle.jc_heap.proofs.signatures.join.Given as goal

abbrev pub invariant-loop-unit : goal.invariant-loop-unit
invariant-loop-unit l = l.text ≡ flat_map marked (take l.unit-index l.name)
