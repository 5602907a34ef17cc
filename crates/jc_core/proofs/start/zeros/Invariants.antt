use Rattle.std.proofs.Common.{◌≡◌, map, take}
use Rattle.jc_jvm.specs.Types.{zero_of_field}
use Rattle.jc_core.proofs.start.zeros.Given as goal

abbrev pub invariant-loop-field : goal.invariant-loop-field
invariant-loop-field l = l.found.items ≡ map zero_of_field (take l.field-index l.fields)
