use Rattle.std.proofs.Common.{ap, ◌∙◌}
use Rattle.jc_jvm.specs.Worlds.{interned_in}
use Rattle.jc_jvm.proofs.Finds.{interned_by}
use Rattle.jc_jvm.proofs.literals.Literals.find.Goals as goal

pub returns : goal.returns
returns c = c.find.ensures ∙ interned_by c.args.text.now c.self.inside.texts ∙ ap (λ ls. interned_in ls c.args.text.now) c.self.view_is
