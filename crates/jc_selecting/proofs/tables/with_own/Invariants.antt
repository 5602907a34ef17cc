use Rattle.std.proofs.Common.{◌≤◌, length}
use Rattle.jc_selecting.proofs.Lines.{Holds}
use Rattle.jc_selecting.proofs.tables.with_own.Given as goal

-- the methods from this place on are in the map
abbrev pub invariant-methods : goal.invariant-methods
invariant-methods l = record { holds : Holds l.class l.row l.fn.map l.grown l.at; within : l.at ≤ length l.row }

abbrev pub decreases-methods : goal.decreases-methods
decreases-methods l = l.at
