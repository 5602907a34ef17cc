use Rattle.std.proofs.Common.{ap, ◌∙◌}
use Rattle.jc_types.specs.Breaks.{least}
use Rattle.jc_declares.specs.Sites as site
use Rattle.jc_declares.specs.Breaks.{in_file, field_modifier_breaks, field_broken, is_static_field}
use Rattle.jc_declares.specs.HeadBreaks.{class_file}
use Rattle.jc_declares.specs.Readings.{body_reading}
use Rattle.jc_declares.specs.Writing.{wrote_type}
use Rattle.jc_looking.specs.Members.{known_in}
use Rattle.jc_name_rules.proofs.Counting.{two}
use Rattle.jc_name_rules.proofs.sites.field_site_broken.Goals as goal

pub returns : goal.returns
returns c =
    let H = c.args.scene.now.declared.heads.now in let K = known_in c.args.scene.now.known.now in
    λ k.
    two (field_modifier_breaks H c.args.site.now) (field_broken H K c.args.site.now) c.args.found c.field_modifiers_broken-found.result c.in_ok-found.found c.field_modifiers_broken-found.ensures
    (c.in_ok-found.ensures
    ∙ ap (λ b. least c.field_modifiers_broken-found.result (in_file (class_file H c.site.inside.class) (wrote_type H K (body_reading H K c.site.inside.class b) c.site.inside.vars.now.ty).broken)) c.is_static_field-is_static.ensures
    ∙ ap (λ (s : site.FieldSite). least c.field_modifiers_broken-found.result (in_file (class_file H s.class) (wrote_type H K (body_reading H K s.class (is_static_field H c.args.site.now)) s.vars.ty).broken)) c.site.view_is)
