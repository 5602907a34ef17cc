-- The type behind steps, one step more at their end.
use Rattle.std.proofs.Common.{◌≡◌, refl, List, [], ◌∷◌, ◌++◌}
use Rattle.jc_types.specs.declared.form.Ty.{Ty}
use Rattle.jc_typed.specs.Trees.{Step}
use Rattle.jc_exprs_nodes_spec.specs.Typeds.{behind, up_by}

pub behind_more : (t : Ty) (ss : List Step) (s : Step) → behind t (ss ++ s ∷ []) ≡ up_by (behind t ss) s
behind_more t [] s = refl
behind_more t (r ∷ ss) s = behind_more (up_by t r) ss s
