use Rattle.std.proofs.Common.{ap, ◌∙◌}
use Rattle.jc_types.specs.Breaks.{least}
use Rattle.jc_declares.specs.Breaks.{in_file}
use Rattle.jc_declares.specs.Writing.{Reading}
use Rattle.jc_looking.specs.Members.{known_in}
use Rattle.jc_name_rules.specs.HeadTypes.{class_types}
use Rattle.jc_name_rules.proofs.sites.class_head_broken.Goals as goal

pub returns : goal.returns
returns c =
    let H = c.args.scene.now.declared.heads.now in let K = known_in c.args.scene.now.known.now in
    c.in_ok-found.ensures ∙ ap (λ (r : Reading). least c.args.found (in_file c.args.file (class_types H K r c.args.head.now))) (c.head_reading-reading.ensures H K)
