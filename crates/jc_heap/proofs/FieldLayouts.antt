-- Lists of classes and of fields, as loops make them.
use Rattle.std.proofs.Common.{◌≡◌, ℕ, zero, suc, ◌+◌, ◌-◌, ◌<◌, ◌≤◌, List, [], ◌∷◌, ◌++◌, Bool, cond, nat_lt, map, filter, position, reverse, length, slice_get, take, option_and_then, not, ◌⊎◌, inl, inr, refl, sym, ap, ◌∙◌, arith, append_assoc}
use Rattle.std.proofs.lemmas.List.{append-nil, take_all, length-map}
use Rattle.std.proofs.lemmas.List.FromFn.{map-range_with_len_more}
use Rattle.std.specs.List.{flat_map, range_with_len, position_or_len}
use Rattle.std.specs.declared.option.Option.{Option}
use Rattle.std.specs.declared.option.Option.TheVariants.{Some, None}
use Rattle.jc_class_out.specs.declared.model.ClassModel.{ClassModel}
use Rattle.jc_class_out.specs.declared.model.FieldModel.{FieldModel}
use Rattle.jc_jvm.specs.Classes.{class_named, line_on, line_of, super_of, own_fields, fields_of, is_static_field}
use Rattle.jc_jvm.specs.Types.{zero_of_field, new_fields}
use Rattle.jc_jvm.specs.declared.value.Value.{Value}
use Rattle.jc_heap.specs.Layouts.{own_zeros, all_fields}
use Rattle.jc_heap.specs.Strings.{is_chars, own_marks}

pub line_on-none : (classes : List ClassModel) (n : ℕ) → line_on classes n None ≡ []
unfolding line_on
line_on-none classes zero = refl
line_on-none classes (suc n) = refl

pub line_on-zero : (classes : List ClassModel) (here : Option ℕ) → line_on classes 0 here ≡ []
unfolding line_on
line_on-zero classes None = refl
line_on-zero classes (Some k) = refl

pub line_on-suc : (classes : List ClassModel) (n k : ℕ) → line_on classes (suc n) (Some k) ≡ k ∷ line_on classes n (super_of classes k)
unfolding line_on
line_on-suc classes n k = refl

line_on-at : (classes : List ClassModel) (m n k : ℕ) → m ≡ suc n → line_on classes m (Some k) ≡ k ∷ line_on classes n (super_of classes k)
line_on-at classes m n k e = rw e (line_on-suc classes n k)

-- one class more of a line
pub line_on-more : (classes : List ClassModel) (found : List ℕ) (n i k : ℕ) → i < n → (found ++ k ∷ []) ++ line_on classes (n - (i + 1)) (super_of classes k) ≡ found ++ line_on classes (n - i) (Some k)
line_on-more classes found n i k below =
    rw append_assoc (ap (λ rest. found ++ rest) (sym (line_on-at classes (n - i) (n - (i + 1)) k (omega arith))))

-- marks of instance fields
position-marks : (k : ℕ) (fields : List FieldModel) (rest : List (ℕ × FieldModel)) → map (λ (s : ℕ × FieldModel). is_chars s.1) (map (λ (f : FieldModel). (k, f)) fields ++ rest) ≡ map is_chars fields ++ map (λ (s : ℕ × FieldModel). is_chars s.1) rest
position-marks k [] rest = refl
position-marks k (f ∷ fs) rest = ap (λ more. is_chars f ∷ more) (position-marks k fs rest)

marks-flat : (classes : List ClassModel) (ks : List ℕ) → flat_map (λ k. own_marks (fields_of classes k)) ks ≡ map (λ (s : ℕ × FieldModel). is_chars s.1) (flat_map (own_fields classes) ks)
marks-flat classes [] = refl
marks-flat classes (k ∷ ks) =
    ap (λ more. own_marks (fields_of classes k) ++ more) (marks-flat classes ks)
    ∙ sym (position-marks k (filter (λ f. not (is_static_field f)) (fields_of classes k)) (flat_map (own_fields classes) ks))

marks-place : {A : Type 0} (f : A → Bool) (xs : List A) → position_or_len (λ (b : Bool). b) (map f xs) ≡ position_or_len f xs
marks-place f [] = refl
marks-place f (x ∷ xs) = ap (λ (n : ℕ). cond (not (f x)) (1 + n) 0) (marks-place f xs)

position-by : {A : Type 0} (f : A → Bool) (xs : List A) → position (λ (b : Bool). b) (map f xs) ≡ position f xs
position-by f xs =
    ap (λ (n : ℕ). cond (nat_lt n (length (map f xs))) (Some n) None) (marks-place f xs)
    ∙ ap (λ (n : ℕ). cond (nat_lt (position_or_len f xs) n) (Some (position_or_len f xs)) None) (length-map xs f)

-- the first mark is where the first such field is
pub marks_flat : (classes : List ClassModel) (ks : List ℕ) → position (λ (b : Bool). b) (flat_map (λ k. own_marks (fields_of classes k)) ks) ≡ position (λ (s : ℕ × FieldModel). is_chars s.1) (flat_map (own_fields classes) ks)
marks_flat classes ks = ap (λ (marks : List Bool). position (λ (b : Bool). b) marks) (marks-flat classes ks) ∙ position-by (λ (s : ℕ × FieldModel). is_chars s.1) (flat_map (own_fields classes) ks)

map-append-zeros : (k : ℕ) (fields : List FieldModel) (rest : List (ℕ × FieldModel)) → map (λ (s : ℕ × FieldModel). zero_of_field s.1) (map (λ (f : FieldModel). (k, f)) fields ++ rest) ≡ map zero_of_field fields ++ map (λ (s : ℕ × FieldModel). zero_of_field s.1) rest
map-append-zeros k [] rest = refl
map-append-zeros k (f ∷ fs) rest = ap (λ more. zero_of_field f ∷ more) (map-append-zeros k fs rest)

-- the zeros of the fields of some classes
pub zeros_flat : (classes : List ClassModel) (ks : List ℕ) → flat_map (λ k. own_zeros (fields_of classes k)) ks ≡ map (λ (s : ℕ × FieldModel). zero_of_field s.1) (flat_map (own_fields classes) ks)
zeros_flat classes [] = refl
zeros_flat classes (k ∷ ks) =
    ap (λ more. own_zeros (fields_of classes k) ++ more) (zeros_flat classes ks)
    ∙ sym (map-append-zeros k (filter (λ f. not (is_static_field f)) (fields_of classes k)) (flat_map (own_fields classes) ks))

super_of-none : (classes : List ClassModel) (k : ℕ) → slice_get classes k ≡ None → super_of classes k ≡ None
super_of-none classes k e = ap (λ (c : Option ClassModel). option_and_then (λ (x : ClassModel). option_and_then (class_named classes) x.superclass) c) e

fields_of-none : (classes : List ClassModel) (k : ℕ) → slice_get classes k ≡ None → fields_of classes k ≡ []
fields_of-none classes k e = ap (λ (c : Option ClassModel). elim c [ Some x ↦ x.fields | None ↦ [] ]) e

line_on-only : (classes : List ClassModel) (n k : ℕ) → super_of classes k ≡ None → line_on classes (suc n) (Some k) ≡ k ∷ []
line_on-only classes n k e = line_on-suc classes n k ∙ ap (λ (s : Option ℕ). k ∷ line_on classes n s) e ∙ ap (λ (rest : List ℕ). k ∷ rest) (line_on-none classes n)

no_fields : (classes : List ClassModel) (m k : ℕ) → slice_get classes k ≡ None → flat_map (own_fields classes) (reverse (line_on classes m (Some k))) ≡ []
no_fields classes zero k e = ap (λ (line : List ℕ). flat_map (own_fields classes) (reverse line)) (line_on-zero classes (Some k))
no_fields classes (suc m) k e =
    ap (λ (line : List ℕ). flat_map (own_fields classes) (reverse line)) (line_on-only classes m k (super_of-none classes k e))
    ∙ ap (λ (fields : List FieldModel). map (λ (f : FieldModel). (k, f)) (filter (λ f. not (is_static_field f)) fields) ++ []) (fields_of-none classes k e)

new_fields-none : (classes : List ClassModel) (k : ℕ) → slice_get classes k ≡ None → new_fields classes k ≡ []
new_fields-none classes k e = ap (λ (fields : List (ℕ × FieldModel)). map (λ (s : ℕ × FieldModel). zero_of_field s.1) fields) (no_fields classes (length classes) k e)

-- the row of a number among rows of all numbers below n
at_number : {A : Type 0} (f : ℕ → A) (a n k j : ℕ) → a + k ≡ j → (slice_get (map f (range_with_len a n)) k ≡ Some (f j)) ⊎ ((slice_get (map f (range_with_len a n)) k ≡ None) × (n ≤ k))
at_number f a zero k j e = inr (refl, omega arith)
at_number f a (suc n) zero j e = inl (let same : a ≡ j = omega arith in ap (λ (m : ℕ). Some (f m)) same)
at_number f a (suc n) (suc k) j e = elim (at_number f (a + 1) n k j (omega arith)) [
  | inl x ↦ inl x
  | inr x ↦ inr (x.0, let below : n ≤ k = x.1 in omega arith)
]

beyond : {A : Type 0} (xs : List A) (k : ℕ) → length xs ≤ k → slice_get xs k ≡ None
beyond [] k h = refl
beyond (x ∷ xs) zero h = absurd (omega arith)
beyond (x ∷ xs) (suc k) h = beyond xs k (omega arith)

-- the row of a class, or nothing where there is no such class
pub all_fields-at : (classes : List ClassModel) (k : ℕ) → (slice_get (all_fields classes) k ≡ Some (new_fields classes k)) ⊎ ((slice_get (all_fields classes) k ≡ None) × (new_fields classes k ≡ []))
unfolding all_fields
all_fields-at classes k = elim (at_number (new_fields classes) 0 (length classes) k k (omega arith)) [
  | inl e ↦ inl e
  | inr e ↦ inr (e.0, new_fields-none classes k (beyond classes k e.1))
]

pub row_is : (classes : List ClassModel) (rows : List (List Value)) (k : ℕ) (row : List Value) → rows ≡ all_fields classes → slice_get rows k ≡ Some row → row ≡ new_fields classes k
row_is classes rows k row all e = elim (all_fields-at classes k) [
  | inl at ↦ let same : Some row ≡ Some (new_fields classes k) = sym e ∙ ap (λ (xs : List (List Value)). slice_get xs k) all ∙ at in cc
  | inr at ↦ let same : Some row ≡ None = sym e ∙ ap (λ (xs : List (List Value)). slice_get xs k) all ∙ at.0 in cc
]

pub row_none : (classes : List ClassModel) (rows : List (List Value)) (k : ℕ) → rows ≡ all_fields classes → slice_get rows k ≡ None → [] ≡ new_fields classes k
row_none classes rows k all e = elim (all_fields-at classes k) [
  | inl at ↦ let same : None ≡ Some (new_fields classes k) = sym e ∙ ap (λ (xs : List (List Value)). slice_get xs k) all ∙ at in cc
  | inr at ↦ sym at.1
]

pub ruleset zeros_rules = (row_is, row_none)

-- the zeros of the fields of a whole line
pub class_zeros_are : (classes : List ClassModel) (class : ℕ) (found : List Value) (items : List ℕ) (i : ℕ) →
    found ≡ flat_map (λ k. own_zeros (fields_of classes k)) (take i items) → length items ≤ i → items ≡ reverse (line_of classes class) → found ≡ new_fields classes class
class_zeros_are classes class found items i made all is =
    made
    ∙ ap (λ (ks : List ℕ). flat_map (λ k. own_zeros (fields_of classes k)) ks) (take_all i items all ∙ is)
    ∙ zeros_flat classes (reverse (line_of classes class))

-- where a line ends
pub line_done : (classes : List ClassModel) (found whole : List ℕ) (m : ℕ) (here : Option ℕ) → here ≡ None → found ++ line_on classes m here ≡ whole → found ≡ whole
line_done classes found whole m here none e =
    sym (append-nil found) ∙ ap (λ (rest : List ℕ). found ++ rest) (sym (line_on-none classes m)) ∙ ap (λ (h : Option ℕ). found ++ line_on classes m h) (sym none) ∙ e

pub line_over : (classes : List ClassModel) (found whole : List ℕ) (m : ℕ) (here : Option ℕ) → m ≡ 0 → found ++ line_on classes m here ≡ whole → found ≡ whole
line_over classes found whole m here none e =
    sym (append-nil found) ∙ ap (λ (rest : List ℕ). found ++ rest) (sym (line_on-zero classes here)) ∙ ap (λ (n : ℕ). found ++ line_on classes n here) (sym none) ∙ e

pub ruleset line_rules = (line_on-more)

pub ranges_more : (classes : List ClassModel) (n : ℕ) → map (new_fields classes) (range_with_len 0 (n + 1)) ≡ map (new_fields classes) (range_with_len 0 n) ++ new_fields classes n ∷ []
ranges_more classes n = map-range_with_len_more (new_fields classes) 0 n n (omega arith)
