use Rattle.std.proofs.Common.{◌≡◌, ◌++◌, Option, length}
use Rattle.jc_judge.specs.declared.faults.TypeFault.{TypeFault}
use Rattle.jc_judge.specs.WellFormed.{ArgsChecked}
use Rattle.jc_wellformed.proofs.checking.check_args.Given as goal

abbrev pub invariant-loop-left : goal.invariant-loop-left
invariant-loop-left l =
    ((found : Option TypeFault) → ArgsChecked l.table (l.env ++ l.full) (l.env ++ l.plain) l.vars l.by l.i l.left l.types l.rest found → ArgsChecked l.table (l.env ++ l.fn.full) (l.env ++ l.fn.plain) l.vars l.by 0 l.vars l.by l.args found)
    × (l.full ≡ l.fn.full) × (l.plain ≡ l.fn.plain)

abbrev pub decreases-loop-left : goal.decreases-loop-left
decreases-loop-left l = length l.left
