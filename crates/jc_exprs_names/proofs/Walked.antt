-- A rule that is asked of what a walk found before.
use Rattle.std.proofs.Common.{◌≡◌, refl, ◌∙◌, Option, None, Some, option_map}
use Rattle.jc_exprs_nodes_spec.specs.Gates.{gated}
use Rattle.jc_exprs_nodes_spec.specs.Told.{Run, Standing, fine, onward, ran}
use Rattle.jc_exprs_nodes_spec.proofs.Runs.{ran_onward}

module _ {A B : Type 0} where
  pub behind : (f : A → Run B) (m : Run A) (s r : Standing) (o : Option A) → (ran m s).state ≡ r → (ran m s).has ≡ o → ran (onward m f) s ≡ gated f o r
  behind f m s r o p q = ran_onward f m s ∙ rw (q, p) refl

  pub behind_fine : (f : A → Run B) (a : A) (s : Standing) → ran (onward (fine a) f) s ≡ ran (f a) s
  unfolding ran
  behind_fine f a s = ran_onward f (fine a) s

  pub mapped : (g : A → B) (o : Option A) (s : Standing) → gated (λ a. fine (g a)) o s ≡ record { state = s; has = option_map g o }
  unfolding ran
  mapped g None s = refl
  mapped g (Some a) s = refl
