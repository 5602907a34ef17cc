use Rattle.std.proofs.Common.{ℕ, Bool, List, ap, ◌∙◌}
use Rattle.jc_tree.specs.declared.statement.Modifier.{Modifier}
use Rattle.jc_types.specs.declared.declarations.Modifiers.{Modifiers}
use Rattle.jc_declares.specs.Breaks.{is_static_field}
use Rattle.jc_declares.specs.HeadBreaks.{class_file}
use Rattle.jc_declares.specs.Heads.{is_interface}
use Rattle.jc_declares.specs.Modifiers.{field_modifiers}
use Rattle.jc_declares.specs.Readings.{body_reading}
use Rattle.jc_declares.specs.Sites as site
use Rattle.jc_declares.specs.Writing.{Reading}
use Rattle.jc_looking.specs.Members.{known_in}
use Rattle.jc_declared.specs.Parts.{field_in}
use Rattle.jc_declared.proofs.fields.field_decl.Goals as goal

pub returns : goal.returns
returns c =
    λ k.
    let H = c.args.scene.now.declared.heads.now in let K = known_in c.args.scene.now.known.now in
    let s : site.FieldSite = record { class = c.args.class; scope = c.args.scope; vars = c.args.vars.now; var = c.args.var.now } in
    let r : Reading = body_reading H K c.args.class (is_static_field H s) in
    c.in_ok-field.ensures
    ∙ ap (λ (q : Reading). field_in H K q c.class_file-file.result c.args.class c.args.scope c.field_modifiers-modifiers.result c.args.vars.now c.args.var.now)
    (c.body_reading-reading.ensures H K ∙ ap (λ b. body_reading H K c.args.class b) c.is_static_field-is_static.ensures)
    ∙ ap (λ (f : ℕ). field_in H K r f c.args.class c.args.scope c.field_modifiers-modifiers.result c.args.vars.now c.args.var.now) c.class_file-file.ensures
    ∙ ap (λ (ms : Modifiers). field_in H K r (class_file H c.args.class) c.args.class c.args.scope ms c.args.vars.now c.args.var.now)
    (c.field_modifiers-modifiers.ensures ∙ ap (λ (b : Bool). field_modifiers b c.slice.result.now) c.is_interface-of_interface.ensures ∙ ap (λ (l : List Modifier). field_modifiers (is_interface H c.args.class) l) c.slice.ensures)
