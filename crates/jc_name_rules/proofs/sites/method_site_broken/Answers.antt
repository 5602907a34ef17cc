use Rattle.std.proofs.Common.{sym, ap, ◌∙◌}
use Rattle.jc_types.specs.Breaks.{least}
use Rattle.jc_tree.specs.declared.statement.Formal.{Formal}
use Rattle.std.specs.Prelude.{List}
use Rattle.jc_declares.specs.Sites as site
use Rattle.jc_declares.specs.Breaks.{formals_twice, method_repeated_breaks, method_modifier_breaks, method_broken, method_site_breaks}
use Rattle.jc_declares.specs.HeadBreaks.{class_file}
use Rattle.jc_looking.specs.Members.{known_in}
use Rattle.jc_sites.specs.declared.parts.MethodForm.{MethodForm}
use Rattle.jc_sites.specs.Seen.{form_seen}
use Rattle.jc_name_rules.proofs.Counting.{three}
use Rattle.jc_name_rules.proofs.sites.method_site_broken.Goals as goal

pub returns-in_ok-found-in-Headed-2 : goal.returns-in_ok-found-in-Headed-2
returns-in_ok-found-in-Headed-2 c =
    let H = c.args.scene.now.declared.heads.now in let K = known_in c.args.scene.now.known.now in let form : site.MethodForm = site.Headed c.in-Headed.head.now c.in-Headed.has_block in
    three (method_repeated_breaks H c.site.inside.class form) (method_modifier_breaks H c.site.inside.class form) (method_broken H K c.args.number c.site.inside.class form)
    c.args.found c.in_ok-found-in-Headed.found c.head_modifiers_broken-found.result c.in_ok-found-in-Headed-2.found
    (c.in_ok-found-in-Headed.ensures ∙ ap (λ (l : List Formal). least c.args.found (formals_twice c.class_file-file.result l)) c.slice.ensures
    ∙ ap (λ f. least c.args.found (formals_twice f c.in-Headed.head.now.formals)) c.class_file-file.ensures)
    (c.head_modifiers_broken-found.ensures c.in-Headed.has_block) (c.in_ok-found-in-Headed-2.ensures c.in-Headed.has_block)
    ∙ ap (λ (m : site.MethodSite). least c.args.found (method_site_breaks H K c.args.number m))
    (ap (λ (f : MethodForm). let m : site.MethodSite = record { class = c.site.inside.class; scope = c.site.inside.scope; form = form_seen f } in m) (sym c.in-Headed.is) ∙ c.site.view_is)
