use Rattle.std.proofs.Common.{◌≡◌, length}
use Rattle.jc_judge.specs.declared.question.Answer.TheVariants.{No}
use Rattle.jc_class_rules.specs.Grouping.{one_at, one_from}
use Rattle.jc_class_rules.proofs.agreeing.one_of_each.Given as goal

abbrev pub invariant-loop-rest : goal.invariant-loop-rest
invariant-loop-rest l = one_from (one_at l.table l.k l.v l.members) l.answer l.rest ≡ one_from (one_at l.table l.k l.v l.members) No l.members

abbrev pub decreases-loop-rest : goal.decreases-loop-rest
decreases-loop-rest l = length l.rest
