use Rattle.std.proofs.Common.{◌≡◌, ◌++◌, length}
use Rattle.jc_class_rules.specs.Climbing.{all_supers}
use Rattle.jc_class_rules.proofs.direct.all_supers.Given as goal

abbrev pub invariant-loop-rest : goal.invariant-loop-rest
invariant-loop-rest l = l.out ++ all_supers l.table l.rest ≡ all_supers l.table l.fn.types

abbrev pub decreases-loop-rest : goal.decreases-loop-rest
decreases-loop-rest l = length l.rest
