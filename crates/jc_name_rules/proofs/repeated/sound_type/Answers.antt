use Rattle.std.proofs.Common.{Some, sym, ap, ◌∙◌}
use Rattle.jc_types.specs.declared.declarations.Written.{Written}
use Rattle.jc_declares.specs.Writing.{Wrote, wrote_class}
use Rattle.jc_looking.specs.Members.{known_in}
use Rattle.jc_written.specs.At.{reading_at}
use Rattle.jc_name_rules.proofs.Twice.{sound_told}
use Rattle.jc_name_rules.proofs.repeated.sound_type.Goals as goal

pub returns-in_ok-ty-in-None : goal.returns-in_ok-ty-in-None
returns-in_ok-ty-in-None c =
    let H = c.args.scene.now.declared.heads.now in let K = known_in c.args.scene.now.known.now in let w : Wrote = wrote_class H K (reading_at H K c.args.reading) c.args.tree.now in
    ap (λ (x : Written). Some x.ty) c.in_ok-ty-in-None.ensures ∙ sym (sound_told w c.args.file (sym c.in_ok-class_broken.ensures ∙ c.in-None.is))
