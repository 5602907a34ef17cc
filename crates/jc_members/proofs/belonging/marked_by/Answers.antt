use Rattle.std.proofs.Common.{ap, ◌∙◌}
use Rattle.jc_overriding.specs.Viewing.{own_type, view_of_method}
use Rattle.jc_members.proofs.belonging.marked_by.Goals as goal

pub marked_in-requires-clause-is : goal.marked_in-requires-clause-is
marked_in-requires-clause-is c =
    let T = c.args.table.now in
    c.as_ref.ensures.value ∙ c.in_ok-a.ensures ∙ ap (λ t. view_of_method T t c.args.w) c.in_ok-above.ensures.same ∙ ap (λ k. view_of_method T (own_type T k) c.args.w) c.owner.ensures
