use Rattle.std.proofs.Common.{◌≡◌, ◌++◌, length}
use Rattle.jc_class_rules.specs.Grouping.{own_ids}
use Rattle.jc_class_rules.proofs.covering.own_ids.Given as goal

abbrev pub invariant-loop-rest : goal.invariant-loop-rest
invariant-loop-rest l = l.out ++ own_ids l.table l.k l.rest ≡ own_ids l.table l.k l.fn.ids

abbrev pub decreases-loop-rest : goal.decreases-loop-rest
decreases-loop-rest l = length l.rest
