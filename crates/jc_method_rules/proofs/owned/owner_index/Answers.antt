use Rattle.std.proofs.Common.{length, refl, ap, ◌∙◌}
use Rattle.jc_types.specs.declared.ids.ClassId.{ClassId}
use Rattle.jc_method_rules.specs.Owned.{numbers_at, pushed_at}
use Rattle.jc_method_rules.proofs.Gathered.{as_many_groups, no_numbers, owned_more, pushed_length}
use Rattle.jc_method_rules.proofs.owned.owner_index.Goals as goal

pub loop-i-init : goal.loop-i-init
loop-i-init c = record {
  groups = ap length c.in_ok-groups.ensures ∙ as_many_groups (length c.args.table.now.classes);
  ids = λ k lt. ap (λ gs. numbers_at gs k) c.in_ok-groups.ensures ∙ no_numbers (length c.args.table.now.classes) k;
}

pub loop-i-preserved : goal.loop-i-preserved
loop-i-preserved c = record {
  groups = ap length c.in_ok-push_at.ensures ∙ pushed_length _ c.loop-i.i c.loop-i.groups.items ∙ c.loop-i.invariant.groups;
  ids = owned_more c.args.table.now c.loop-i.i _ c.loop-i.groups.items _ refl
      (c.in_ok-push_at.ensures ∙ ap (λ (k : ClassId). pushed_at k.0 c.loop-i.i c.loop-i.groups.items) c.owner-class.ensures) c.loop-i.invariant.ids;
}
