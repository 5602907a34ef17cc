-- Places of tokens, counted from the front.
use Rattle.std.proofs.Common.{◌≡◌, ℕ, suc, ◌+◌, Option, Some, None, refl, ap, arith}
use Rattle.jc_left_out.specs.LeftOut.{one_further}

abbrev pub moved : ℕ → Option ℕ → Option ℕ
moved n None = None
moved n (Some k) = Some (n + k)

pub moved_zero : (o : Option ℕ) → moved 0 o ≡ o
moved_zero None = refl
moved_zero (Some k) = ap (λ i. Some i) (same k)
  where
    same : (k : ℕ) → 0 + k ≡ k
    same k = omega arith

pub moved_further : (n : ℕ) (o : Option ℕ) → moved n (one_further o) ≡ moved (n + 1) o
moved_further n None = refl
moved_further n (Some k) = ap (λ i. Some i) (same n k)
  where
    same : (n k : ℕ) → n + suc k ≡ n + 1 + k
    same n k = omega arith

pub ruleset places = (moved_zero, moved_further)
