-- Lists of a row for each number below another one.
use Rattle.std.proofs.Common.{◌≡◌, ◌≤◌, ◌+◌, ◌⊎◌, ℕ, zero, suc, List, [], ◌∷◌, ◌++◌, map, length, slice_get, inl, inr, refl, ap, arith}
use Rattle.std.proofs.lemmas.List.FromFn.{map-range_with_len_more}
use Rattle.std.specs.List.{range_with_len}
use Rattle.std.specs.declared.option.Option.TheVariants.{Some, None}
use Rattle.jc_class_out.specs.declared.model.ClassModel.{ClassModel}
use Rattle.jc_rows.specs.Laid.{method_rows, class_rows}

pub method_rows_more : (classes : List ClassModel) (k n : ℕ) → map (method_rows classes k) (range_with_len 0 (n + 1)) ≡ map (method_rows classes k) (range_with_len 0 n) ++ method_rows classes k n ∷ []
method_rows_more classes k n = map-range_with_len_more (method_rows classes k) 0 n n (omega arith)

pub class_rows_more : (classes : List ClassModel) (n : ℕ) → map (class_rows classes) (range_with_len 0 (n + 1)) ≡ map (class_rows classes) (range_with_len 0 n) ++ class_rows classes n ∷ []
class_rows_more classes n = map-range_with_len_more (class_rows classes) 0 n n (omega arith)

-- the row of a number among rows of all numbers below n
pub at_number : {A : Type 0} (f : ℕ → A) (a n k j : ℕ) → a + k ≡ j → (slice_get (map f (range_with_len a n)) k ≡ Some (f j)) ⊎ ((slice_get (map f (range_with_len a n)) k ≡ None) × (n ≤ k))
at_number f a zero k j e = inr (refl, omega arith)
at_number f a (suc n) zero j e = inl (let same : a ≡ j = omega arith in ap (λ (m : ℕ). Some (f m)) same)
at_number f a (suc n) (suc k) j e = elim (at_number f (a + 1) n k j (omega arith)) [
  | inl x ↦ inl x
  | inr x ↦ inr (x.0, let below : n ≤ k = x.1 in omega arith)
]

pub beyond : {A : Type 0} (xs : List A) (k : ℕ) → length xs ≤ k → slice_get xs k ≡ None
beyond [] k h = refl
beyond (x ∷ xs) zero h = absurd (omega arith)
beyond (x ∷ xs) (suc k) h = beyond xs k (omega arith)
