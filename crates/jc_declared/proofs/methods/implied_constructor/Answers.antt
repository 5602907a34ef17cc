use Rattle.std.proofs.Common.{ℕ, List, [], ap, ◌∙◌}
use Rattle.jc_types.specs.declared.declarations.Access.{Access}
use Rattle.jc_types.specs.declared.declarations.MethodKind.TheVariants as method_kind
use Rattle.jc_types.specs.declared.declarations.Modifiers.{Modifiers}
use Rattle.jc_declares.specs.Heads.{name_of}
use Rattle.jc_declares.specs.Making.{implied_method}
use Rattle.jc_declares.specs.Modifiers.{written_modifiers}
use Rattle.jc_declares.specs.Sites as site
use Rattle.jc_declared.proofs.methods.implied_constructor.Goals as goal

pub returns : goal.returns
returns c =
    λ K m.
    let H = c.args.heads.now in
    let s : site.MethodSite = record { class = c.args.at.class; scope = c.args.at.scope; form = site.ImpliedConstructor } in
    c.implied_method.ensures site.ImpliedConstructor
    ∙ ap (λ (n : List ℕ). implied_method H s n method_kind.ImpliedConstructor c.implied_constructor_modifiers-modifiers.result) (c.in_ok-name.ensures.value ∙ c.class_name.ensures)
    ∙ ap (λ (ms : Modifiers). implied_method H s (name_of H c.args.at.class) method_kind.ImpliedConstructor ms)
    (c.implied_constructor_modifiers-modifiers.ensures ∙ ap (λ (a : Access). let ms : Modifiers = record (written_modifiers []) { access = a } in ms) c.access_of.ensures)
