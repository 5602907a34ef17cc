use Rattle.std.proofs.Common.{sym, ap, ◌∙◌}
use Rattle.jc_declares.specs.Sites as site
use Rattle.jc_declares.specs.Making.{method_decl}
use Rattle.jc_looking.specs.Members.{known_in}
use Rattle.jc_sites.specs.declared.parts.MethodForm.{MethodForm}
use Rattle.jc_sites.specs.Seen.{form_seen}
use Rattle.jc_declared.proofs.methods.method_decl.Goals as goal

pub returns-in_ok-decl-in-Headed : goal.returns-in_ok-decl-in-Headed
returns-in_ok-decl-in-Headed c =
    let H = c.args.scene.now.declared.heads.now in let K = known_in c.args.scene.now.known.now in
    c.in_ok-decl-in-Headed.ensures
    ∙ ap (λ (m : site.MethodSite). method_decl H K c.args.method m)
    (ap (λ (f : MethodForm). let m : site.MethodSite = record { class = c.site.inside.class; scope = c.site.inside.scope; form = form_seen f } in m) (sym c.in-Headed.is) ∙ c.site.view_is)

pub returns-in_ok-decl-in-ImpliedConstructor : goal.returns-in_ok-decl-in-ImpliedConstructor
returns-in_ok-decl-in-ImpliedConstructor c =
    let H = c.args.scene.now.declared.heads.now in let K = known_in c.args.scene.now.known.now in
    c.in_ok-decl-in-ImpliedConstructor.ensures K c.args.method
    ∙ ap (λ (m : site.MethodSite). method_decl H K c.args.method m)
    (ap (λ (f : MethodForm). let m : site.MethodSite = record { class = c.site.inside.class; scope = c.site.inside.scope; form = form_seen f } in m) (sym c.in-ImpliedConstructor.is) ∙ c.site.view_is)

pub returns-in_ok-decl-in-StaticInitialiser : goal.returns-in_ok-decl-in-StaticInitialiser
returns-in_ok-decl-in-StaticInitialiser c =
    let H = c.args.scene.now.declared.heads.now in let K = known_in c.args.scene.now.known.now in
    c.in_ok-decl-in-StaticInitialiser.ensures K c.args.method
    ∙ ap (λ (m : site.MethodSite). method_decl H K c.args.method m)
    (ap (λ (f : MethodForm). let m : site.MethodSite = record { class = c.site.inside.class; scope = c.site.inside.scope; form = form_seen f } in m) (sym c.in-StaticInitialiser.is) ∙ c.site.view_is)
