use Rattle.std.proofs.Common.{◌≡◌, ◌++◌, length}
use Rattle.jc_class_rules.specs.Grouping.{with_name}
use Rattle.jc_class_rules.proofs.grouping.with_name.Given as goal

abbrev pub invariant-loop-rest : goal.invariant-loop-rest
invariant-loop-rest l = l.out ++ with_name l.table l.name l.rest ≡ with_name l.table l.name l.fn.ids

abbrev pub decreases-loop-rest : goal.decreases-loop-rest
decreases-loop-rest l = length l.rest
