-- Smooth computations of one bound on units, put together.
use Rattle.std.proofs.Common.{ℕ, arith}
use Rattle.jc_running.specs.declared.seen.Shown.{Shown}
use Rattle.jc_running.specs.Outcomes.{Run, bind, both_ways}
use Rattle.jc_running.proofs.Smooth.{Smooth, smooth_less, smooth_both, smooth_bind}

-- a computation and the same one with more room
abbrev pub Goes : {S A : Type 0} → (S → Shown) → ℕ → Run S A → Run S A → Type 0
Goes {S} shown D m m' = Smooth S shown D 0 m m'

module _ (S : Type 0) (shown : S → Shown) (D : ℕ) where
  pub seq : {A B : Type 0} {m m' : Run S A} {f f' : A → Run S B} → Smooth S shown D 0 m m' → ((a : A) → Smooth S shown D 0 (f a) (f' a)) → Smooth S shown D 0 (bind m f) (bind m' f')
  seq {m = m} {m' = m'} {f = f} {f' = f'} sm sf = smooth_bind S shown D 0 D m m' f f' (omega arith) sm sf

  pub both : {A B : Type 0} {m m' : Run S A} {f f' : A → Run S B} {g g' : ℕ → Run S B} → Smooth S shown D 0 m m' → ((a : A) → Smooth S shown D 0 (f a) (f' a)) → ((v : ℕ) → Smooth S shown D 0 (g v) (g' v)) → Smooth S shown D 0 (both_ways m f g) (both_ways m' f' g')
  both {m = m} {m' = m'} {f = f} {f' = f'} {g = g} {g' = g'} sm sf sg = smooth_both S shown D 0 D m m' f f' g g' (omega arith) sm sf sg

  pub soft : {A : Type 0} {m m' : Run S A} → Smooth S shown D 1 m m' → Smooth S shown D 0 m m'
  soft {m = m} {m' = m'} sm = smooth_less S shown D 1 D 0 m m' (omega arith) (omega arith) sm
