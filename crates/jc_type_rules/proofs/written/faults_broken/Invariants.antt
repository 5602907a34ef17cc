use Rattle.std.proofs.Common.{◌≡◌, length}
use Rattle.jc_types.specs.Breaks.{least}
use Rattle.jc_header_rules.specs.Types.{faults_broken}
use Rattle.jc_type_rules.proofs.written.faults_broken.Given as goal

abbrev pub invariant-loop-rest : goal.invariant-loop-rest
invariant-loop-rest l = least l.found (faults_broken l.place l.rest) ≡ least l.fn.found (faults_broken l.place l.faults)

abbrev pub decreases-loop-rest : goal.decreases-loop-rest
decreases-loop-rest l = length l.rest
