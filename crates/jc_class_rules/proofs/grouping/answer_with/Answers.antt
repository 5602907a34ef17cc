use Rattle.std.proofs.Common.{nat_eq}
use Rattle.std.specs.HashSet.{contains}
use Rattle.jc_class_rules.proofs.Grouped.{seen_before, seen_more}
use Rattle.jc_class_rules.proofs.grouping.answer_with.Goals as goal

pub joined-requires-clause-seen : goal.joined-requires-clause-seen
joined-requires-clause-seen c =
    seen_before c.args.table.now c.args.k c.args.index.now c.requires.index c.args.m c.args.answer (λ y. contains nat_eq c.args.seen.now y) c.group_of-group.result c.is_marked-has.result
    c.requires.seen c.group_of-group.ensures c.is_marked-has.ensures

pub returns-clause-seen : goal.returns-clause-seen
returns-clause-seen c =
    seen_more c.args.table.now c.args.k c.args.index.now c.requires.index c.args.m c.args.answer (λ y. contains nat_eq c.args.seen.now y) (λ y. contains nat_eq c.mark.new.seen y) c.group_of-group.result c.in_ok-joined.joined
    c.requires.seen c.group_of-group.ensures c.in_ok-joined.ensures c.in_ok-mark.ensures
