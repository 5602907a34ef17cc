use Rattle.std.proofs.Common.{ap, ◌∙◌}
use Rattle.jc_jvm.specs.Numbered.{numbered}
use Rattle.jc_jvm.proofs.Finds.{found}
use Rattle.jc_jvm.proofs.texts.Texts.find.Goals as goal

pub returns : goal.returns
returns c = c.look_up.ensures ∙ found (λ k. k.items) c.args.text.now c.self.inside.numbers.entries ∙ ap (numbered c.args.text.now) c.self.view_is
