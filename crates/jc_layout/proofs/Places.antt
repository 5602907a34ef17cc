-- The place of a field, counted from a place on.
use Rattle.std.proofs.Common.{◌≡◌, ℕ, suc, ◌+◌, refl, ap, arith, Option, Some, None}
use Rattle.jc_heaps.specs.Layout.{one_further}

abbrev pub further : ℕ → Option ℕ → Option ℕ
further n None = None
further n (Some k) = Some (n + k)

pub further_next : (n : ℕ) (o : Option ℕ) → further n (one_further o) ≡ further (n + 1) o
further_next n None = refl
further_next n (Some k) = let e : n + suc k ≡ n + 1 + k = omega arith in ap Some e

pub further_none : (o : Option ℕ) → o ≡ further 0 o
further_none None = refl
further_none (Some k) = let e : k ≡ 0 + k = omega arith in ap Some e
