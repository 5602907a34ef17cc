use Rattle.std.proofs.Common.{◌≡◌, ◌++◌, length}
use Rattle.jc_judge.specs.Forming.{args_faults}
use Rattle.jc_wellformed.proofs.faults.args_faults.Given as goal

abbrev pub invariant-loop-left : goal.invariant-loop-left
invariant-loop-left l =
    (l.out ++ args_faults l.table (l.env ++ l.full) (l.env ++ l.plain) l.vars l.by l.i l.left l.types l.rest ≡ args_faults l.table (l.env ++ l.fn.full) (l.env ++ l.fn.plain) l.vars l.by 0 l.vars l.by l.args)
    × (l.full ≡ l.fn.full) × (l.plain ≡ l.fn.plain)

abbrev pub decreases-loop-left : goal.decreases-loop-left
decreases-loop-left l = length l.left
