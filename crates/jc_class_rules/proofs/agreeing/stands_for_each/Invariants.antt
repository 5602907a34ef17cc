use Rattle.std.proofs.Common.{◌≡◌, length}
use Rattle.jc_judge.specs.declared.question.Answer.TheVariants.{Yes}
use Rattle.jc_class_rules.specs.Grouping.{all_from, stands_at}
use Rattle.jc_class_rules.proofs.agreeing.stands_for_each.Given as goal

abbrev pub invariant-loop-rest : goal.invariant-loop-rest
invariant-loop-rest l = all_from (stands_at l.table l.k l.v) l.answer l.rest ≡ all_from (stands_at l.table l.k l.v) Yes l.fn.members

abbrev pub decreases-loop-rest : goal.decreases-loop-rest
decreases-loop-rest l = length l.rest
