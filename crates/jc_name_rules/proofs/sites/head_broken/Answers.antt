use Rattle.std.proofs.Common.{List, ap, ◌∙◌}
use Rattle.jc_tree.specs.declared.statement.Modifier.{Modifier}
use Rattle.jc_types.specs.Breaks.{least}
use Rattle.jc_declares.specs.Breaks.{in_file}
use Rattle.jc_declares.specs.Readings.{method_reading}
use Rattle.jc_declares.specs.Words.{says_static}
use Rattle.jc_declares.specs.Writing.{Reading}
use Rattle.jc_looking.specs.Members.{known_in}
use Rattle.jc_name_rules.specs.HeadTypes.{head_types}
use Rattle.jc_name_rules.proofs.sites.head_broken.Goals as goal

pub returns : goal.returns
returns c =
    let H = c.args.scene.now.declared.heads.now in let K = known_in c.args.scene.now.known.now in
    λ has_block.
    c.in_ok-found.ensures
    ∙ ap (λ (r : Reading). least c.args.found (in_file c.class_file-file.result (head_types H K r c.args.head.now)))
    (c.method_reading-reading.ensures H K ∙ ap (λ b. method_reading H K c.args.method c.args.class b) (c.says-is_static.ensures ∙ ap (λ (l : List Modifier). says_static l) c.slice.ensures))
    ∙ ap (λ f. least c.args.found (in_file f (head_types H K (method_reading H K c.args.method c.args.class (says_static c.args.head.now.modifiers)) c.args.head.now))) c.class_file-file.ensures
