use Rattle.std.proofs.Common.{◌≡◌, length}
use Rattle.jc_types.specs.Breaks.{least}
use Rattle.jc_header_rules.specs.Places.{of_written}
use Rattle.jc_header_rules.specs.Types.{supertype_broken}
use Rattle.jc_type_rules.proofs.written.supertypes_broken.Given as goal

abbrev pub invariant-loop-rest : goal.invariant-loop-rest
invariant-loop-rest l = least l.found (of_written supertype_broken l.rest l.left) ≡ least l.fn.found (of_written supertype_broken l.written.types l.written.places)

abbrev pub decreases-loop-rest : goal.decreases-loop-rest
decreases-loop-rest l = length l.rest
