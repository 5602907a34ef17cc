-- What is known of a tree that was read with its height.
use Rattle.std.proofs.Common.{◌≡◌, ℕ, List, refl, ap, ◌∙◌, sym, subst}
use Rattle.jc_lexer.specs.declared.token.Token.{Token}
use Rattle.jc_tree.specs.Heights.{capped}
use Rattle.jc_reading.specs.declared.reading.Halt.{Halt}
use Rattle.jc_reading.specs.declared.reading.Halt.TheVariants as halt_of
use Rattle.jc_reading.specs.Giving.{Halts}
use Rattle.jc_reading.specs.Reading.{Read, Found, Stopped, becoming}
use Rattle.jc_parse_expr.specs.declared.measured.Measured.{Measured}
use Rattle.jc_parse_expr.specs.Measuring.{of_height}

-- what halts one reader halts the other too
pub halts_by : {A B : Type 0} (m : Read A) (n : Read B) → ((l : ℕ) → m ≡ Stopped l → n ≡ Stopped l) → (e : Halt) → Halts e m → Halts e n
halts_by m n f (halt_of.Stopped l) h = f l h
halts_by m n f halt_of.WantOfMemory h = tt

module _ {A : Type 0} (height : A → ℕ) where
  abbrev pub with_height : A → Measured A
  with_height a = of_height a (height a)

  Kept : Read A → Read (Measured A) → Type 0
  Kept m (Found v r l) = (m ≡ Found v.tree r l) × (v.height ≡ capped (height v.tree))
  Kept m (Stopped l) = m ≡ Stopped l

  kept : (m : Read A) → Kept m (becoming with_height m)
  unfolding Kept
  kept (Found a r l) = (refl, refl)
  kept (Stopped l) = refl

  pub measured_found : (m : Read A) (v : Measured A) (r : List Token) (l : ℕ) → becoming with_height m ≡ Found v r l → (m ≡ Found v.tree r l) × (v.height ≡ capped (height v.tree))
  unfolding Kept
  measured_found m v r l e = subst (λ (x : Read (Measured A)). Kept m x) e (kept m)

  pub measured_stopped : (m : Read A) (l : ℕ) → becoming with_height m ≡ Stopped l → m ≡ Stopped l
  unfolding Kept
  measured_stopped m l e = subst (λ (x : Read (Measured A)). Kept m x) e (kept m)

  pub measured_halts : (m : Read A) (e : Halt) → Halts e (becoming with_height m) → Halts e m
  measured_halts m e h = halts_by (becoming with_height m) m (measured_stopped m) e h

  pub halts_measured : (m : Read A) (e : Halt) → Halts e m → Halts e (becoming with_height m)
  halts_measured m e h = halts_by m (becoming with_height m) (λ l s. ap (becoming with_height) s) e h

  pub found_measured : (m : Read A) (a : A) (v : Measured A) (r : List Token) (l : ℕ) → m ≡ Found a r l → v ≡ with_height a → becoming with_height m ≡ Found v r l
  found_measured m a v r l e f = ap (becoming with_height) e ∙ ap (λ (w : Measured A). Found w r l) (sym f)
