use Rattle.std.proofs.Common.{ℕ, List, ap, ◌∙◌}
use Rattle.jc_tree.specs.declared.statement.Modifier.{Modifier}
use Rattle.jc_declares.specs.Readings.{method_reading}
use Rattle.jc_declares.specs.Words.{says_static}
use Rattle.jc_declares.specs.Writing.{Reading}
use Rattle.jc_looking.specs.Members.{known_in}
use Rattle.jc_declared.specs.Parts.{method_in}
use Rattle.jc_declared.proofs.methods.headed_method.Goals as goal

pub returns : goal.returns
returns c =
    let H = c.args.scene.now.declared.heads.now in let K = known_in c.args.scene.now.known.now in
    let r : Reading = method_reading H K c.args.number c.args.at.class (says_static c.args.head.now.modifiers) in
    c.in_ok-method.ensures
    ∙ ap (λ (q : Reading). method_in H K q c.class_file-file.result c.args.number c.args.at.class c.args.at.scope c.args.head.now c.args.has_block)
    (c.method_reading-reading.ensures H K ∙ ap (λ b. method_reading H K c.args.number c.args.at.class b) (c.says-is_static.ensures ∙ ap (λ (l : List Modifier). says_static l) c.slice.ensures))
    ∙ ap (λ (f : ℕ). method_in H K r f c.args.number c.args.at.class c.args.at.scope c.args.head.now c.args.has_block) c.class_file-file.ensures
