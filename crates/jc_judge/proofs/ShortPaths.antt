-- Without a cycle a path passes each number once.
use Rattle.std.proofs.Common.{◌≡◌, ◌⊎◌, inl, inr, ℕ, ◌<◌, ◌≤◌, Bool, true, false, ◌||◌, List, [], ◌∷◌, length, arith, refl, sym, subst, ◌∙◌}
use Rattle.std.specs.List.{IsDistinct, list_any, AllByRecursion}
use Rattle.std.proofs.lemmas.Bool.Decides.{nat_tests}
use Rattle.std.proofs.lemmas.Map.Steps.{length-le_from_distinct_below}
use Rattle.std.proofs.Math.Dec.{eqb}
use Rattle.jc_judge.specs.Supers.{Path, IsAcyclic}

abbrev Member : ℕ → List ℕ → Type 0
Member q [] = ⊥
Member q (x ∷ xs) = (q ≡ x) ⊎ Member q xs

same_number : (m n : ℕ) → eqb m n ≡ true → m ≡ n
same_number m n e = grind (arith, nat_tests)

differ : (x y : ℕ) → (x ≡ y → ⊥) → eqb x y ≡ false
differ x y ne = by_test (eqb x y) (same_number x y)
  where
    by_test : (t : Bool) → (t ≡ true → x ≡ y) → t ≡ false
    by_test true f = absurd (ne (f refl))
    by_test false f = refl

listed : (q : ℕ) (xs : List ℕ) → list_any (eqb q) xs ≡ true → Member q xs
listed q [] e = cc
listed q (x ∷ xs) e = by_test (eqb q x) (same_number q x) e (listed q xs)
  where
    by_test : (t : Bool) → (t ≡ true → q ≡ x) → (t || list_any (eqb q) xs) ≡ true → (list_any (eqb q) xs ≡ true → Member q xs) → Member q (x ∷ xs)
    by_test true f e g = inl (f refl)
    by_test false f e g = inr (g e)

apart : (x : ℕ) (xs : List ℕ) → (Member x xs → ⊥) → AllByRecursion (λ y. eqb x y ≡ false) xs
apart x [] no_member = tt
apart x (y ∷ ys) no_member = (differ x y (λ e. no_member (inl e)), apart x ys (λ m. no_member (inr m)))

module _ (E : ℕ → ℕ → Type 0) where
  reaches : (xs : List ℕ) (c b q : ℕ) → Path E xs c b → Member q xs → (ys : List ℕ) × Path E ys c q
  reaches [] c b q p m = absurd m
  reaches (x ∷ xs) c b q p (inl e) = ([], sym p.0 ∙ sym e)
  reaches (x ∷ xs) c b q p (inr m) = let r = reaches xs p.1 b q p.3 m in (x ∷ r.0, (p.0, p.1, p.2, r.1))

  module _ (acyclic : IsAcyclic E) where
    no_return : (x : ℕ) (xs : List ℕ) (a b : ℕ) → Path E (x ∷ xs) a b → Member x xs → ⊥
    no_return x xs a b p m =
        let r = reaches xs p.1 b x p.3 m in
        acyclic x r.0 a (p.0, p.1, p.2, subst (λ q. Path E r.0 p.1 q) p.0 r.1)

    distinct : (xs : List ℕ) (a b : ℕ) → Path E xs a b → IsDistinct eqb xs
    unfolding IsDistinct
    distinct [] a b p = tt
    distinct (x ∷ xs) a b p = (apart x xs (no_return x xs a b p), distinct xs p.1 b p.3)

    module _ (n : ℕ) (bounded : (a b : ℕ) → E a b → a < n) where
      within : (xs : List ℕ) (a b q : ℕ) → Path E xs a b → Member q xs → q < n
      within [] a b q p m = absurd m
      within (x ∷ xs) a b q p (inl e) = let same : q ≡ a = e ∙ p.0 in let lt : a < n = bounded a p.1 p.2 in omega arith
      within (x ∷ xs) a b q p (inr m) = within xs p.1 b q p.3 m

      pub path_is_short : (xs : List ℕ) (a b : ℕ) → Path E xs a b → length xs ≤ n
      path_is_short xs a b p = length-le_from_distinct_below xs n (distinct xs a b p) (λ q e. within xs a b q p (listed q xs e))
