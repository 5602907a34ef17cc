-- Without a cycle a path to a number below n has fewer steps than n.
use Rattle.std.proofs.Common.{◌≡◌, ◌≢◌, ◌⊎◌, inl, inr, ℕ, ◌+◌, ◌<◌, ◌≤◌, List, [], ◌∷◌, ◌++◌, length, length-append, arith, refl, sym, subst}
use Rattle.jc_judge.specs.Supers.{Path, IsAcyclic}
use Rattle.jc_judge.proofs.ShortPaths.{path_is_short}

module _ (E : ℕ → ℕ → Type 0) (n : ℕ) (bounded : (a b : ℕ) → E a b → a < n) where
  -- a further step, to n
  abbrev Further : ℕ → ℕ → Type 0
  Further a b = E a b ⊎ ((a < n) × (b ≡ n))

  below : (a b : ℕ) → Further a b → a < n
  below a b (inl e) = bounded a b e
  below a b (inr e) = e.0

  stuck : (xs : List ℕ) (b : ℕ) → Path Further xs n b → b ≡ n
  stuck [] b p = sym p
  stuck (x ∷ xs) b p = absurd (let lt : n < n = below n p.1 p.2 in omega arith)

  plain : (xs : List ℕ) (a b : ℕ) → Path Further xs a b → b ≢ n → Path E xs a b
  plain [] a b p ne = p
  plain (x ∷ xs) a b p ne = by_edge (plain xs p.1 b p.3 ne) p.2
    where
      by_edge : Path E xs p.1 b → Further a p.1 → Path E (x ∷ xs) a b
      by_edge rest (inl e) = (p.0, p.1, e, rest)
      by_edge rest (inr e) = absurd (ne (stuck xs b (subst (λ c. Path Further xs c b) e.1 p.3)))

  extended : (xs : List ℕ) (a b : ℕ) → Path E xs a b → b < n → Path Further (xs ++ b ∷ []) a n
  extended [] a b p lt = let up : a < n = subst (λ c. c < n) (sym p) lt in (sym p, n, inr (up, refl), refl)
  extended (x ∷ xs) a b p lt = (p.0, p.1, inl p.2, extended xs p.1 b p.3 lt)

  further_acyclic : IsAcyclic E → IsAcyclic Further
  further_acyclic acyclic x xs a p =
      let lt : a < n = below a p.1 p.2 in
      let ne : a ≢ n = omega arith in
      acyclic x xs a (plain (x ∷ xs) a a p ne)

  pub path_is_shorter : IsAcyclic E → (xs : List ℕ) (a b : ℕ) → Path E xs a b → b < n → length xs < n
  path_is_shorter acyclic xs a b p lt =
      let short : length (xs ++ b ∷ []) ≤ n = path_is_short Further (further_acyclic acyclic) n below (xs ++ b ∷ []) a n (extended xs a b p lt) in
      let more : length (xs ++ b ∷ []) ≡ length xs + length (b ∷ []) = length-append xs (b ∷ []) in
      omega arith
