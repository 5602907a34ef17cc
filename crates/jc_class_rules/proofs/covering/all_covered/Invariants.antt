use Rattle.std.proofs.Common.{◌≡◌, length}
use Rattle.jc_class_rules.specs.Grouping.{all_covered}
use Rattle.jc_class_rules.proofs.covering.all_covered.Given as goal

abbrev pub invariant-loop-rest : goal.invariant-loop-rest
invariant-loop-rest l = all_covered l.table l.k l.own l.rest ≡ all_covered l.table l.k l.own l.fn.ids

abbrev pub decreases-loop-rest : goal.decreases-loop-rest
decreases-loop-rest l = length l.rest
