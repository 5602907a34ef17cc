use Rattle.std.proofs.Common.{ap, ◌∙◌}
use Rattle.jc_members.specs.Named.{ids_in}
use Rattle.jc_overriding.specs.Viewing.{view_of_method}
use Rattle.jc_method_rules.proofs.Paired.{either_enough}
use Rattle.jc_method_rules.proofs.methods.method_broken.Goals as goal

pub method_broken_in-requires-clause-is : goal.method_broken_in-requires-clause-is
method_broken_in-requires-clause-is c =
    let T = c.args.table.now in c.as_ref.ensures.value ∙ c.in_ok-a.ensures ∙ ap (λ t. view_of_method T t c.args.m) c.requires.own

pub method_broken_in-requires-clause-enough : goal.method_broken_in-requires-clause-enough
method_broken_in-requires-clause-enough c =
    let T = c.args.table.now in
    let d = c.args.method.now in
    either_enough T c.args.m d c.named-named.result.now c.args.all.now c.shorter-ids.result.now c.requires.at
    (c.named-named.ensures ∙ ap (ids_in c.args.index.now.names c.args.index.now.groups) c.str.ensures ∙ c.requires.index.ids d.name) c.requires.all c.shorter-ids.ensures
