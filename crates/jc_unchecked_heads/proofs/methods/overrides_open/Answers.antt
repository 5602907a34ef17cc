use Rattle.std.proofs.Common.{ap, ◌∙◌}
use Rattle.jc_members.specs.Named.{ids_in}
use Rattle.jc_overriding.specs.Viewing.{view_of_method}
use Rattle.jc_unchecked_heads.proofs.Standing.{either_over}
use Rattle.jc_unchecked_heads.proofs.methods.overrides_open.Goals as goal

pub overrides_open_one-requires-clause-is : goal.overrides_open_one-requires-clause-is
overrides_open_one-requires-clause-is c =
    let T = c.args.table.now in c.as_ref.ensures.value ∙ c.in_ok-a.ensures ∙ ap (λ t. view_of_method T t c.args.m) c.requires.own

pub overrides_open_one-requires-clause-enough : goal.overrides_open_one-requires-clause-enough
overrides_open_one-requires-clause-enough c =
    let T = c.args.table.now in
    let d = c.args.method.now in
    either_over T c.args.m d c.named-named.result.now c.args.all.now c.shorter-ids.result.now c.requires.at
    (c.named-named.ensures ∙ ap (ids_in c.args.index.now.names c.args.index.now.groups) c.str.ensures ∙ c.requires.index.ids d.name) c.requires.all c.shorter-ids.ensures
