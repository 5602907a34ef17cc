use Rattle.std.proofs.Common.{◌∷◌, ◌++◌, [], ap, ◌∙◌}
use Rattle.jc_types.specs.declared.declarations.VariableDecl.{VariableDecl}
use Rattle.jc_declares.specs.Making.{variable_decl}
use Rattle.jc_declares.specs.Sites as site
use Rattle.jc_looking.specs.Members.{known_in}
use Rattle.jc_declared.proofs.variables.push_variable.Goals as goal

pub returns : goal.returns
returns c =
    λ k.
    let H = c.args.scene.now.declared.heads.now in let K = known_in c.args.scene.now.known.now in
    c.in_ok-push.ensures.ok
    ∙ ap (λ (d : VariableDecl). c.args.list.now ++ d ∷ []) (c.in_ok-variable.ensures k ∙ ap (λ (s : site.VariableSite). variable_decl H K k s) c.site.view_is)
