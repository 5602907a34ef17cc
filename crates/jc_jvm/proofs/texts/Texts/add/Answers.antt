use Rattle.std.proofs.Common.{ap, ◌∙◌}
use Rattle.jc_jvm.specs.Numbered.{numbered}
use Rattle.jc_jvm.proofs.Finds.{found}
use Rattle.jc_jvm.proofs.texts.Texts.add.Goals as goal

pub insert_new-requires : goal.insert_new-requires
insert_new-requires c = found (λ k. k.items) c.args.text.items c.self.inside.numbers.entries ∙ ap (numbered c.args.text.items) c.self.view_is ∙ c.requires
