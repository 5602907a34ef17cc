use Rattle.std.proofs.Common.{ℕ, List, ap, ◌∙◌}
use Rattle.std.specs.Prelude.{codes}
use Rattle.jc_types.specs.declared.declarations.MethodKind.TheVariants as method_kind
use Rattle.jc_types.specs.declared.declarations.Modifiers.{Modifiers}
use Rattle.jc_declares.specs.Making.{implied_method}
use Rattle.jc_declares.specs.Sites as site
use Rattle.jc_declared.proofs.methods.static_initialiser.Goals as goal

pub returns : goal.returns
returns c =
    λ K m.
    let H = c.args.heads.now in
    let s : site.MethodSite = record { class = c.args.at.class; scope = c.args.at.scope; form = site.StaticInitialiser } in
    c.implied_method.ensures site.StaticInitialiser
    ∙ ap (λ (n : List ℕ). implied_method H s n method_kind.StaticInitialiser c.static_initialiser_modifiers-modifiers.result) c.in_ok-name.ensures.value
    ∙ ap (λ (ms : Modifiers). implied_method H s (codes "<clinit>") method_kind.StaticInitialiser ms) c.static_initialiser_modifiers-modifiers.ensures
