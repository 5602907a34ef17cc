use Rattle.std.proofs.Common.{◌≡◌, drop}
use Rattle.jc_jvm.specs.Table.{case_of}
use Rattle.jc_stepping.proofs.switches.case_for.Given as goal

-- what is left gives the same
abbrev pub invariant-loop-case : goal.invariant-loop-case
invariant-loop-case l = case_of (drop l.case-index l.cases) l.n l.otherwise ≡ case_of l.cases l.n l.otherwise
