use Rattle.std.proofs.Common.{ap, ◌∙◌}
use Rattle.std.specs.String.{string_bytes}
use Rattle.jc_types.specs.Names.{named}
use Rattle.jc_types.proofs.Finds.{found}
use Rattle.jc_types.proofs.index.Names.add.Goals as goal

pub insert_new-requires : goal.insert_new-requires
insert_new-requires c = found string_bytes (string_bytes c.args.name) c.self.inside.entries_by_name.entries ∙ ap (named (string_bytes c.args.name)) c.self.view_is ∙ c.requires
