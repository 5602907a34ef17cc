use Rattle.std.proofs.Common.{◌≡◌, ap, sym, ◌∙◌, List, [], ◌∷◌, ◌++◌}
use Rattle.jc_typed.specs.Parts.{names_of}
use Rattle.jc_typed.specs.Trees.{Named}
use Rattle.jc_typed.proofs.Growing.{grows_both}
use Rattle.jc_exprs_constants.specs.declared.lists.NamedLocal.{NamedLocal}
use Rattle.jc_exprs_constants.specs.Knowing.{named_of, unstacked_names}
use Rattle.jc_exprs_constants.proofs.Stacking.{append_more, names_more}
use Rattle.jc_exprs_constants.proofs.lists.push_stacked_names.Goals as goal

pub loop-named-preserved : goal.loop-named-preserved
loop-named-preserved c =
    let x : NamedLocal = c.in-Some.named in
    let left : List NamedLocal = c.pop.new.self in
    let names : List Named = names_of c.loop-named.nodes c.loop-named.list in
    let more : c.loop-named.left ≡ left ++ x ∷ [] = c.in-Some.ensures in (
      ap (λ (y : List Named). y ++ unstacked_names left []) c.in_ok-list.ensures.value
          ∙ append_more names (unstacked_names left []) (named_of x)
          ∙ ap (λ (y : List Named). names ++ y) (sym (names_more left [] x))
          ∙ ap (λ (y : List NamedLocal). names ++ unstacked_names y []) (sym more)
          ∙ c.loop-named.invariant.0,
      c.in_ok-list.ensures.within,
      grows_both c.args.nodes.now c.loop-named.nodes c.push_names.new.self c.loop-named.invariant.2 c.in_ok-list.ensures.grows,
    )
