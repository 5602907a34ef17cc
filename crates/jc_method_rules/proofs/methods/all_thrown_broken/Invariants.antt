use Rattle.std.proofs.Common.{◌≡◌, length}
use Rattle.jc_types.specs.Breaks.{least}
use Rattle.jc_header_rules.specs.Headers.{thrown_broken}
use Rattle.jc_header_rules.specs.Places.{of_written}
use Rattle.jc_method_rules.proofs.methods.all_thrown_broken.Given as goal

abbrev pub invariant-loop-rest : goal.invariant-loop-rest
invariant-loop-rest l = least l.found (of_written (thrown_broken l.table l.m) l.rest l.left) ≡ least l.fn.found (of_written (thrown_broken l.table l.m) l.fn.types l.fn.places)

abbrev pub decreases-loop-rest : goal.decreases-loop-rest
decreases-loop-rest l = length l.rest
