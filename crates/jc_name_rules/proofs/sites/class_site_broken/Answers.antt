use Rattle.std.proofs.Common.{[], ap, ◌∙◌}
use Rattle.jc_types.specs.Breaks.{least}
use Rattle.jc_declares.specs.Sites as site
use Rattle.jc_declares.specs.Breaks.{in_file, class_repeated_breaks, class_modifier_breaks, class_broken, repeated_breaks}
use Rattle.jc_declares.specs.Heads.{interface_trees}
use Rattle.jc_declares.specs.Readings.{head_reading}
use Rattle.jc_looking.specs.Members.{known_in}
use Rattle.jc_name_rules.specs.HeadTypes.{class_types}
use Rattle.jc_name_rules.proofs.Counting.{three}
use Rattle.jc_name_rules.proofs.sites.class_site_broken.Goals as goal

pub returns : goal.returns
returns c =
    let H = c.args.scene.now.declared.heads.now in let K = known_in c.args.scene.now.known.now in
    three (class_repeated_breaks H K c.args.number c.args.site.now) (class_modifier_breaks c.args.site.now) (class_broken H K c.args.number c.args.site.now)
    c.args.found c.in_ok-found.found c.class_modifiers_broken-found.result c.in_ok-found-2.found
    (c.in_ok-found.ensures ∙ ap (λ (s : site.ClassSite). least c.args.found (repeated_breaks H K (head_reading H K c.args.number) s.file [] (interface_trees s.head))) c.site.view_is)
    c.class_modifiers_broken-found.ensures
    (c.in_ok-found-2.ensures
    ∙ ap (λ (s : site.ClassSite). least c.class_modifiers_broken-found.result (in_file s.file (class_types H K (head_reading H K c.args.number) s.head))) c.site.view_is)
