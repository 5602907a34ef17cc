use Rattle.std.proofs.Common.{◌≡◌, drop, None}
use Rattle.jc_class_out.specs.Fitting.{cases_ascend}
use Rattle.jc_class_out.proofs.fitting.ascending.Given as goal

abbrev pub invariant-loop-case : goal.invariant-loop-case
invariant-loop-case l = cases_ascend l.before (drop l.case-index l.cases) ≡ cases_ascend None l.cases
