use Rattle.std.proofs.Common.{◌≡◌, length, nat_eq}
use Rattle.std.specs.HashSet.{contains}
use Rattle.jc_judge.specs.declared.question.Answer.TheVariants.{Yes}
use Rattle.jc_class_rules.specs.Grouping.{HasSeen, all_from, name_agrees}
use Rattle.jc_class_rules.proofs.grouping.names_agree.Given as goal

abbrev pub invariant-loop-rest : goal.invariant-loop-rest
invariant-loop-rest l = record {
  answer : all_from (name_agrees l.table l.k) l.answer l.rest ≡ all_from (name_agrees l.table l.k) Yes l.fn.all;
  seen : HasSeen l.table l.k l.index.groups l.answer (λ y. contains nat_eq l.seen y);
}

abbrev pub decreases-loop-rest : goal.decreases-loop-rest
decreases-loop-rest l = length l.rest
