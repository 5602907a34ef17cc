use Rattle.std.proofs.Common.{rules, nat_eq, refl}
use Rattle.std.specs.HashSet.{contains}
use Rattle.jc_judge.specs.declared.question.Answer.TheVariants.{Yes}
use Rattle.jc_class_rules.proofs.Grouped.{none_seen}
use Rattle.jc_class_rules.proofs.grouping.names_agree.Goals as goal

pub loop-rest-init : goal.loop-rest-init
loop-rest-init c = record {
  answer = refl;
  seen = none_seen c.args.table.now c.args.k c.args.index.now.groups Yes (λ y. contains nat_eq c.new-seen.result y) (λ g. search rules);
}
