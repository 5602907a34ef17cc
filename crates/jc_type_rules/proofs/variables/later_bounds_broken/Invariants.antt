use Rattle.std.proofs.Common.{◌≡◌, length}
use Rattle.jc_types.specs.Breaks.{least}
use Rattle.jc_header_rules.specs.Places.{of_written}
use Rattle.jc_header_rules.specs.Types.{later_bound_broken}
use Rattle.jc_type_rules.proofs.variables.later_bounds_broken.Given as goal

abbrev pub invariant-loop-rest : goal.invariant-loop-rest
invariant-loop-rest l = least l.found (of_written (later_bound_broken l.table l.behind_variable) l.rest l.left) ≡ least l.fn.found (of_written (later_bound_broken l.table l.behind_variable) l.types l.places)

abbrev pub decreases-loop-rest : goal.decreases-loop-rest
decreases-loop-rest l = length l.rest
