use Rattle.std.proofs.Common.{◌≡◌, drop}
use Rattle.jc_jvm.specs.Types.{shape_of_descriptor}
use Rattle.jc_lookups.specs.Deepened.{deepened}
use Rattle.jc_lookups.proofs.shapes.shape_by_descriptor.Given as goal

-- what is left, with the dimensions before it
abbrev pub invariant-loop-dims : goal.invariant-loop-dims
invariant-loop-dims l = deepened l.dims (shape_of_descriptor l.classes (drop l.dims l.descriptor)) ≡ shape_of_descriptor l.classes l.descriptor
