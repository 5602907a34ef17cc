-- Distinct constants stand at distinct places, so there are no more of them than places.
use Rattle.std.proofs.Common.{◌≡◌, ◌<◌, ◌≤◌, ℕ, suc, Bool, true, false, cond, List, [], ◌∷◌, ◌++◌, length, Option, Some, None, refl, sym, ap, subst, ◌∙◌, arith, inl, inr}
use lib.Dec.{eqb}
use Rattle.std.specs.List.{IsDistinct, list_any, AllByRecursion}
use Rattle.std.proofs.lemmas.Bool.{eqb-true, or_cases, true≢false, or_parts}
use Rattle.std.proofs.lemmas.Map.Steps.{length-le_from_distinct_below}
use Rattle.jc_class_out.specs.Pool.{Known}
use Rattle.jc_class_out.specs.Spelling.{same_known, has, add, adds}
use Rattle.jc_class_out.specs.Fitting.{places}
use Rattle.jc_class_out.proofs.Known.{same_true, same_refl, has_append, has_pool, has_first, has_later}

-- each constant stands once
unfoldable Once : List Known → Type 0
Once [] = Unit {0}
Once (k ∷ ks) = (has ks k ≡ false) × Once ks

no_self : (x k : Known) → k ≡ x → same_known x k ≡ false → ⊥
no_self x k e h = true≢false (sym (same_refl x) ∙ subst (λ (y : Known). same_known x y ≡ false) e h)

not_same_by : (x k : Known) (b : Bool) → same_known k x ≡ b → same_known x k ≡ false → b ≡ false
not_same_by x k false e h = refl
not_same_by x k true e h = absurd (no_self x k (same_true k x e) h)

not_same : (x k : Known) → same_known k x ≡ false → same_known x k ≡ false
not_same x k h = not_same_by k x (same_known x k) refl h

once_push : (p : List Known) (k : Known) → Once p → has p k ≡ false → Once (p ++ k ∷ [])
unfolding Once has
once_push [] k o h = (refl, o)
once_push (x ∷ p) k o h =
    let n = or_parts (same_known k x) (has p k) h in
    (has_append p (k ∷ []) x ∙ rw (o.0, not_same x k n.0) refl, once_push p k o.1 n.1)

once_add : (p : List Known) (k : Known) (b : Bool) → has p k ≡ b → Once p → Once (cond b p (p ++ k ∷ []))
once_add p k true h o = o
once_add p k false h o = once_push p k o h

once_adds : (p us : List Known) → Once p → Once (adds p us)
unfolding adds
once_adds p [] o = o
once_adds p (k ∷ ks) o = once_adds (add p k) ks (once_add p k (has p k) refl o)

-- places below n at which f finds the constants
record Found (f : ℕ → Option Known) (n : ℕ) (ks : List Known) : Type 0 where
  at : List ℕ
  len : length at ≡ length ks
  below : (q : ℕ) → list_any (eqb q) at ≡ true → q < n
  from : (q : ℕ) → list_any (eqb q) at ≡ true → (k : Known) × (f q ≡ Some k) × (has ks k ≡ true)
  distinct : IsDistinct eqb at

abbrev pub Reached : (ℕ → Option Known) → ℕ → Known → Type 0
Reached f n k = (i : ℕ) × (i < n) × (f i ≡ Some k)

none_of : (a : ℕ) (ys : List ℕ) → list_any (eqb a) ys ≡ false → AllByRecursion (λ (y : ℕ). eqb a y ≡ false) ys
none_of a [] h = tt
none_of a (y ∷ ys) h = let p = or_parts (eqb a y) (list_any (eqb a) ys) h in (p.0, none_of a ys p.1)

some_is : (x y : Known) (o : Option Known) → o ≡ Some x → o ≡ Some y → x ≡ y
some_is x y None h g = absurd cc
some_is x y (Some z) h g = cc

not_there : (f : ℕ → Option Known) (n : ℕ) (ks : List Known) (w : Found f n ks) (k : Known) (i : ℕ) (b : Bool) → has ks k ≡ false → f i ≡ Some k → list_any (eqb i) w.at ≡ b → b ≡ false
not_there f n ks w k i false h g e = refl
not_there f n ks w k i true h g e =
    let p = w.from i e in
    let same : p.0 ≡ k = some_is p.0 k (f i) p.1 g in
    absurd (true≢false (sym (subst (λ (x : Known). has ks x ≡ true) same p.2) ∙ h))

found : (f : ℕ → Option Known) (n : ℕ) (ks : List Known) → Once ks → ((k : Known) → has ks k ≡ true → Reached f n k) → Found f n ks
unfolding Once IsDistinct
found f n [] o r = record { at = []; len = refl; below = λ q h. absurd (true≢false (sym h)); from = λ q h. absurd (true≢false (sym h)); distinct = tt }
found f n (k ∷ ks) o r =
    let ih = found f n ks o.1 (λ x h. r x (has_later k x ks h)) in
    let here = r k (has_first k ks) in
    record {
      at = here.0 ∷ ih.at;
      len = ap (λ (m : ℕ). suc m) ih.len;
      below = λ q h. elim (or_cases (eqb q here.0) (list_any (eqb q) ih.at) h) [
        | inl e ↦ rw (eqb-true q here.0 e) here.1
        | inr e ↦ ih.below q e
      ];
      from = λ q h. elim (or_cases (eqb q here.0) (list_any (eqb q) ih.at) h) [
        | inl e ↦ (k, ap f (eqb-true q here.0 e) ∙ here.2, has_first k ks)
        | inr e ↦ (let p = ih.from q e in (p.0, p.1, has_later k p.0 ks p.2))
      ];
      distinct = (none_of here.0 ih.at (not_there f n ks ih k here.0 (list_any (eqb here.0) ih.at) o.0 here.2 refl), ih.distinct);
    }

-- what is reached at places below n takes at most n places
pub few_places : (f : ℕ → Option Known) (n : ℕ) (us : List Known) → ((k : Known) → has us k ≡ true → Reached f n k) → places us ≤ n
unfolding Once
few_places f n us r =
    let w = found f n (adds [] us) (once_adds [] us tt) (λ k h. r k (sym (has_pool us k) ∙ h)) in
    omega (arith, w.len, length-le_from_distinct_below w.at n w.distinct w.below)
