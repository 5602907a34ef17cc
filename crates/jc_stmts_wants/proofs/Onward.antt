-- A rule behind a part, where it is known what a walk has of the part.
use Rattle.std.proofs.Common.{◌≡◌, refl, ◌∙◌, Some, None}
use Rattle.jc_exprs_nodes_spec.specs.Told.{Run, Standing, onward, ran}
use Rattle.jc_exprs_nodes_spec.specs.Gates.{stopped}
use Rattle.jc_exprs_nodes_spec.proofs.Runs.{ran_onward}

module _ {A B : Type 0} (f : A → Run B) (m : Run A) where
  pub onward_some : (a : A) (s r : Standing) → (ran m s).state ≡ r → (ran m s).has ≡ Some a → ran (onward m f) s ≡ ran (f a) r
  onward_some a s r e h = ran_onward f m s ∙ rw (e, h) refl

  pub onward_none : (s r : Standing) → (ran m s).state ≡ r → (ran m s).has ≡ None → ran (onward m f) s ≡ stopped r
  onward_none s r e h = ran_onward f m s ∙ rw (e, h) refl
