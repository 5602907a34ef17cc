use Rattle.std.proofs.Common.{ap, ◌∙◌}
use Rattle.jc_jvm.specs.Worlds.{interned_in}
use Rattle.jc_jvm.proofs.Finds.{interned_by}
use Rattle.jc_jvm.proofs.literals.Literals.add.Goals as goal

pub add-requires : goal.add-requires
add-requires c =
    interned_by c.into_vec.result.items c.self.inside.texts
    ∙ ap (λ ls. interned_in ls c.into_vec.result.items) c.self.view_is
    ∙ ap (λ text. interned_in c.args.self.now text) c.into_vec.ensures
    ∙ c.requires
