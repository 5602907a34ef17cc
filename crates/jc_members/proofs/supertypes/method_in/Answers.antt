use Rattle.std.proofs.Common.{Some, sym, ap, ◌∙◌}
use Rattle.jc_overriding.specs.Viewing.{viewed_in, view_of_owner}
use Rattle.jc_members.proofs.supertypes.method_in.Goals as goal

pub returns-in-Some-get : goal.returns-in-Some-get
returns-in-Some-get c =
    let T = c.args.table.now in
    ap Some c.in_ok-viewed.ensures ∙ ap (viewed_in T c.args.m) (sym (c.requires.kept c.in-Some.k.0 c.in-Some-get.v.now (sym c.in-Some-get.ensures.value)))
    ∙ ap (λ o. viewed_in T c.args.m (view_of_owner T c.args.above.now.of o)) c.in-Some.ensures
