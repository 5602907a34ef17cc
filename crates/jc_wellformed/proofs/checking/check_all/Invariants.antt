use Rattle.std.proofs.Common.{Option, length}
use Rattle.jc_judge.specs.declared.faults.TypeFault.{TypeFault}
use Rattle.jc_judge.specs.WellFormed.{AllChecked}
use Rattle.jc_wellformed.proofs.checking.check_all.Given as goal

abbrev pub invariant-loop-rest : goal.invariant-loop-rest
invariant-loop-rest l = (found : Option TypeFault) → AllChecked l.table l.env l.rest found → AllChecked l.table l.env l.fn.types found

abbrev pub decreases-loop-rest : goal.decreases-loop-rest
decreases-loop-rest l = length l.rest
