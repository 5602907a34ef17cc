use Rattle.std.proofs.Common.{◌≡◌, length}
use Rattle.jc_judge.specs.declared.question.Answer.TheVariants.{Yes}
use Rattle.jc_class_rules.specs.Grouping.{all_from, fitting}
use Rattle.jc_class_rules.proofs.agreeing.members_agree.Given as goal

abbrev pub invariant-loop-rest : goal.invariant-loop-rest
invariant-loop-rest l = all_from (fitting l.table l.k l.members) l.answer l.rest ≡ all_from (fitting l.table l.k l.members) Yes l.members

abbrev pub decreases-loop-rest : goal.decreases-loop-rest
decreases-loop-rest l = length l.rest
