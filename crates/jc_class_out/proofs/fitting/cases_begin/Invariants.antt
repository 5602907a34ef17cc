use Rattle.std.proofs.Common.{◌≡◌, drop}
use Rattle.std.specs.List.{list_all}
use Rattle.jc_class_out.specs.Fitting.{case_lands}
use Rattle.jc_class_out.proofs.fitting.cases_begin.Given as goal

abbrev pub invariant-loop-case : goal.invariant-loop-case
invariant-loop-case l = list_all (case_lands l.marks) (drop l.case-index l.cases) ≡ list_all (case_lands l.marks) l.cases
