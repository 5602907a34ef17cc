use Rattle.std.proofs.Common.{ap, ◌∙◌}
use Rattle.jc_types.specs.Breaks.{least}
use Rattle.jc_declares.specs.Breaks.{in_file}
use Rattle.jc_declares.specs.Readings.{body_reading}
use Rattle.jc_declares.specs.Writing.{Reading, wrote_type}
use Rattle.jc_looking.specs.Members.{known_in}
use Rattle.jc_name_rules.proofs.sites.body_type_broken.Goals as goal

pub returns : goal.returns
returns c =
    let H = c.args.scene.now.declared.heads.now in let K = known_in c.args.scene.now.known.now in
    c.in_ok-found.ensures
    ∙ ap (λ (r : Reading). least c.args.found (in_file c.class_file-file.result (wrote_type H K r c.args.ty.now).broken)) (c.body_reading-reading.ensures H K)
    ∙ ap (λ f. least c.args.found (in_file f (wrote_type H K (body_reading H K c.args.class c.args.is_static) c.args.ty.now).broken)) c.class_file-file.ensures
