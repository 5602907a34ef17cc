use Rattle.std.proofs.Common.{◌≡◌, length}
use Rattle.jc_types.specs.Breaks.{least}
use Rattle.jc_header_rules.specs.Types.{class_types_broken}
use Rattle.jc_type_rules.proofs.written.class_types_broken.Given as goal

abbrev pub invariant-loop-rest : goal.invariant-loop-rest
invariant-loop-rest l = least l.found (class_types_broken l.table l.rest l.left) ≡ least l.fn.found (class_types_broken l.table l.types l.places)

abbrev pub decreases-loop-rest : goal.decreases-loop-rest
decreases-loop-rest l = length l.rest
