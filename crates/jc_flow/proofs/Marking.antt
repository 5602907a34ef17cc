-- Marks of numbers.
use Rattle.std.proofs.Common.{◌≡◌, ◌≢◌, ◌⊎◌, inl, inr, ◌||◌, ◌==◌, ℕ, zero, suc, Bool, true, false, List, [], ◌∷◌, ◌++◌, Some, refl, sym, ap, subst, ◌∙◌, arith, set, replicate}
use Rattle.std.specs.List.{slice_get}
use Rattle.std.proofs.lemmas.Bool.Decides.{nat_tests}
use Rattle.std.proofs.lemmas.List.{set_past}
use Rattle.jc_typed.specs.Trees.{Case}
use Rattle.jc_typed.specs.Copies.{is_among}
use Rattle.jc_flow_spec.specs.Statements.{is_labelled}
use Rattle.jc_flow_parts.proofs.Labels.{any_more}
use Rattle.jc_flow.specs.Marks.{AreMarks, marked}

-- marks tell a test, with what a further test tells
abbrev pub Fits : List Bool → (ℕ → Bool) → (ℕ → Bool) → Type 0
Fits marks more test = (i : ℕ) → (b : Bool) → slice_get marks i ≡ Some b → (b || more i) ≡ test i

pub falses : (n i : ℕ) (b : Bool) → slice_get (replicate n false) i ≡ Some b → b ≡ false
falses zero i b e = cc
falses (suc n) zero b e = cc
falses (suc n) (suc i) b e = falses n i b e

-- before the first number
pub none_marked : (n : ℕ) (test : ℕ → Bool) → Fits (replicate n false) test test
none_marked n test i b e = ap (λ c. c || test i) (falses n i b e)

-- a mark that was set, or another one
got : (xs : List Bool) (x i : ℕ) (b : Bool) → slice_get (set xs x true) i ≡ Some b → ((b ≡ true) × (x ≡ i) × ((c : Bool) × (slice_get xs i ≡ Some c))) ⊎ ((x ≢ i) × (slice_get xs i ≡ Some b))
got [] x i b e = cc
got (y ∷ ys) zero zero b e = inl (cc, refl, (y, refl))
got (y ∷ ys) zero (suc i) b e = inr ((λ h. omega arith), e)
got (y ∷ ys) (suc x) zero b e = inr ((λ h. omega arith), e)
got (y ∷ ys) (suc x) (suc i) b e = by (got ys x i b e)
  where
    by : ((b ≡ true) × (x ≡ i) × ((c : Bool) × (slice_get ys i ≡ Some c))) ⊎ ((x ≢ i) × (slice_get ys i ≡ Some b)) → ((b ≡ true) × (suc x ≡ suc i) × ((c : Bool) × (slice_get ys i ≡ Some c))) ⊎ ((suc x ≢ suc i) × (slice_get ys i ≡ Some b))
    by (inl h) = inl (h.0, ap suc h.1, h.2)
    by (inr h) = inr ((λ w. h.0 (omega arith)), h.1)

-- one number further
pub set_marked : (xs : List Bool) (x : ℕ) (test more : ℕ → Bool) → Fits xs (λ i. (i == x) || more i) test → Fits (set xs x true) more test
set_marked xs x test more h i b e = by (got xs x i b e)
  where
    by : ((b ≡ true) × (x ≡ i) × ((c : Bool) × (slice_get xs i ≡ Some c))) ⊎ ((x ≢ i) × (slice_get xs i ≡ Some b)) → (b || more i) ≡ test i
    by (inl w) = let f = h i w.2.0 w.2.1 in grind (arith, nat_tests, f)
    by (inr w) = let f = h i b w.1 in grind (arith, nat_tests, f)

pub all_marked : (xs : List Bool) (test more : ℕ → Bool) → ((i : ℕ) → more i ≡ false) → Fits xs more test → AreMarks xs test
all_marked xs test more none h i b e = let f = h i b e in let g = none i in grind (arith, f, g)

-- a number at the end of a list
pub among_more : (i : ℕ) (xs : List ℕ) (x : ℕ) → is_among i (xs ++ x ∷ []) ≡ (is_among i xs || (i == x))
among_more i [] x = elim (i == x) as (λ b. (b || false) ≡ b) [ true ↦ refl | false ↦ refl ]
among_more i (y ∷ ys) x = elim (i == y) as (λ b. (b || is_among i (ys ++ x ∷ [])) ≡ ((b || is_among i ys) || (i == x))) [ true ↦ refl | false ↦ among_more i ys x ]

-- all numbers of a list
fitting : (xs : List Bool) (ys : List ℕ) (test : ℕ → Bool) → Fits xs (λ i. is_among i ys) test → Fits (marked xs ys) (λ i. false) test
fitting xs [] test h = h
fitting xs (y ∷ ys) test h = fitting (set xs y true) ys test (set_marked xs y test (λ i. is_among i ys) h)

pub are_marks : (n : ℕ) (ys : List ℕ) → AreMarks (marked (replicate n false) ys) (λ i. is_among i ys)
are_marks n ys = all_marked (marked (replicate n false) ys) (λ i. is_among i ys) (λ i. false) (λ i. refl) (fitting (replicate n false) ys (λ i. is_among i ys) (none_marked n (λ i. is_among i ys)))

pub are_marks_of : (marks : List Bool) (n : ℕ) (ys : List ℕ) → marks ≡ marked (replicate n false) ys → AreMarks marks (λ i. is_among i ys)
are_marks_of marks n ys e = subst (λ m. AreMarks m (λ i. is_among i ys)) (sym e) (are_marks n ys)

equal_turn : (a b : ℕ) → (a == b) ≡ (b == a)
equal_turn a b = grind (arith, nat_tests)

or_turn : (a b c d : Bool) → c ≡ d → (a || (b || d)) ≡ ((a || c) || b)
or_turn true b c d e = refl
or_turn false true true d e = refl
or_turn false true false d e = refl
or_turn false false true d e = sym e
or_turn false false false d e = sym e

-- one label further, from the last one on
pub label_step : (i : ℕ) (before all : List Case) (last : Case) (out new : List ℕ) (whole : Bool) → all ≡ before ++ last ∷ [] → new ≡ out ++ last.skips ∷ [] → (is_labelled all i || is_among i out) ≡ whole → (is_labelled before i || is_among i new) ≡ whole
label_step i before all last out new whole e f g =
    let p : is_labelled all i ≡ (is_labelled before i || (last.skips == i)) = ap (λ cs. is_labelled cs i) e ∙ any_more (λ c. c.skips == i) before last in
    let q : is_among i new ≡ (is_among i out || (i == last.skips)) = ap (is_among i) f ∙ among_more i out last.skips in
    ap (λ x. is_labelled before i || x) q ∙ or_turn (is_labelled before i) (is_among i out) (last.skips == i) (i == last.skips) (equal_turn last.skips i) ∙ ap (λ x. x || is_among i out) (sym p) ∙ g

pub ruleset marking = (set_past)
