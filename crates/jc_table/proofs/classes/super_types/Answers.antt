use Rattle.std.proofs.Common.{ap, ◌∙◌}
use Rattle.jc_declares.specs.Making.{types}
use Rattle.jc_declares.specs.Writing.{Reading}
use Rattle.jc_looking.specs.Members.{known_in}
use Rattle.jc_table.specs.Filling.{supers_read}
use Rattle.jc_table.proofs.classes.super_types.Goals as goal

pub returns : goal.returns
returns c =
    let H = c.args.scene.now.declared.heads.now in let K = known_in c.args.scene.now.known.now in
    c.in_ok-supers.ensures ∙ ap (λ (r : Reading). types (supers_read H K r c.args.number c.args.file c.args.head.now)) (c.head_reading-reading.ensures H K)
