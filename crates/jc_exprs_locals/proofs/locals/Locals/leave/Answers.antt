use Rattle.std.proofs.Common.{ap, ◌∙◌, take}
use Rattle.jc_exprs_locals.specs.Links.{locals_in}
use Rattle.jc_exprs_locals.proofs.Linked.{locals_taken}
use Rattle.jc_exprs_locals.proofs.locals.Locals.leave.Goals as goal

pub returns : goal.returns
returns c = ap locals_in c.cut.ensures.items ∙ locals_taken c.args.size c.self.inside.entries.items ∙ ap (take c.args.size) c.self.view_is
