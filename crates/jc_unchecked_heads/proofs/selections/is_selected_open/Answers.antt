use Rattle.std.proofs.Common.{ap, ◌∙◌}
use Rattle.jc_types.specs.Accessors.{method_name_of}
use Rattle.jc_members.specs.Named.{ids_in}
use Rattle.jc_unchecked_heads.proofs.Rivals.{among}
use Rattle.jc_unchecked_heads.proofs.selections.is_selected_open.Goals as goal

pub is_one_open-requires-clause-among : goal.is_one_open-requires-clause-among
is_one_open-requires-clause-among c =
    among c.args.table.now c.args.k c.args.m c.named-named.result.now c.args.all.now c.shorter-ids.result.now
    (c.named-named.ensures ∙ ap (ids_in c.args.index.now.names c.args.index.now.groups) c.method_name.ensures ∙ c.requires.index.ids (method_name_of c.args.table.now c.args.m)) c.requires.all c.shorter-ids.ensures
