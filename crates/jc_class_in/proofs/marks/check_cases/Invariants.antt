use Rattle.std.proofs.Common.{◌≡◌, drop}
use Rattle.jc_class_out.specs.Code.{cases_land}
use Rattle.jc_class_in.proofs.marks.check_cases.Given as goal

abbrev pub invariant-loop-case : goal.invariant-loop-case
invariant-loop-case l = cases_land l.marks l.left (drop l.case-index l.cases) ≡ cases_land l.marks l.fn.left l.cases
