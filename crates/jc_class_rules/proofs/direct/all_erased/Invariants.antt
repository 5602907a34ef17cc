use Rattle.std.proofs.Common.{◌≡◌, take, map}
use Rattle.jc_judge.specs.Views.{erased}
use Rattle.jc_class_rules.proofs.direct.all_erased.Given as goal

abbrev pub invariant-loop-i : goal.invariant-loop-i
invariant-loop-i l = l.out ≡ map erased (take l.i l.types)
