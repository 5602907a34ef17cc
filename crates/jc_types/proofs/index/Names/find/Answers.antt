use Rattle.std.proofs.Common.{ap, ◌∙◌}
use Rattle.std.specs.String.{string_bytes}
use Rattle.jc_types.specs.Names.{named}
use Rattle.jc_types.proofs.Finds.{found}
use Rattle.jc_types.proofs.index.Names.find.Goals as goal

pub returns : goal.returns
returns c = c.look_up.ensures ∙ found string_bytes c.args.name.now c.self.inside.entries_by_name.entries ∙ ap (named c.args.name.now) c.self.view_is
