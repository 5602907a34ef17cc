use Rattle.std.proofs.Common.{◌∷◌, ◌++◌, [], ap, ◌∙◌}
use Rattle.jc_types.specs.declared.declarations.FieldDecl.{FieldDecl}
use Rattle.jc_declares.specs.Making.{field_decl}
use Rattle.jc_declares.specs.Sites as site
use Rattle.jc_looking.specs.Members.{known_in}
use Rattle.jc_declared.proofs.fields.push_field.Goals as goal

pub returns : goal.returns
returns c =
    λ k.
    let H = c.args.scene.now.declared.heads.now in let K = known_in c.args.scene.now.known.now in
    c.in_ok-push.ensures.ok
    ∙ ap (λ (d : FieldDecl). c.args.list.now ++ d ∷ []) (c.in_ok-field.ensures k ∙ ap (λ (s : site.FieldSite). field_decl H K k s) c.site.view_is)
