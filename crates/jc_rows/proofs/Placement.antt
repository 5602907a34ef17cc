-- The list of a method's rows by byte offset gives the row of the instruction that stands there.
use Rattle.std.proofs.Common.{◌≡◌, ◌≤◌, ◌<◌, ◌⊎◌, inl, inr, ℕ, suc, ◌+◌, ◌-◌, ◌==◌, Bool, true, false, nat_le, List, [], ◌∷◌, ◌++◌, length, get_or, refl, sym, ap, ◌∙◌, arith}
use Rattle.std.specs.Option.{option_map}
use Rattle.std.specs.Prelude.{replicate, slice_get, option_and_then, unwrap_or, if◌then◌else◌}
use Rattle.std.proofs.Math.ListN.{get_or-append}
use Rattle.std.proofs.lemmas.Bool.Decides.{nat_tests}
use Rattle.std.proofs.lemmas.List.{get_or-append-add, get_or-replicate, length-replicate}
use Rattle.std.proofs.lemmas.Option.{unwrap_or-slice_get}
use Rattle.std.specs.declared.option.Option.{Option}
use Rattle.std.specs.declared.option.Option.TheVariants.{Some, None}
use Rattle.jc_class_out.specs.declared.model.ClassModel.{ClassModel}
use Rattle.jc_class_out.specs.declared.model.CodeModel.{CodeModel}
use Rattle.jc_class_out.specs.declared.model.Ins.{Ins}
use Rattle.jc_class_out.specs.declared.model.MethodModel.{MethodModel}
use Rattle.jc_class_out.specs.Instructions.{ins_size, wide_size, operand_size, kind_of}
use Rattle.jc_jvm.specs.Classes.{methods_of, code_at, rest_from, first_of_all}
use Rattle.jc_rows.specs.Laid.{placed_as, places_of, places_in_code, method_rows, class_rows, all_rows, row_at}
use Rattle.jc_rows.specs.declared.row.Placed.{Placed}
use Rattle.jc_rows.proofs.Ranges.{at_number, beyond}

-- ---- tests and the facts that they tell

abbrev pub EqCase : ℕ → ℕ → Type 0
EqCase a b = (((a == b) ≡ true) × (a ≡ b)) ⊎ (((a == b) ≡ false) × (a ≡ b → ⊥))

eq_case_by : (a b : ℕ) (t : Bool) → (a == b) ≡ t → EqCase a b
eq_case_by a b true e = inl (e, grind (arith, nat_tests))
eq_case_by a b false e = inr (e, λ h. grind (arith, nat_tests))

eq_case : (a b : ℕ) → EqCase a b
eq_case a b = eq_case_by a b (a == b) refl

abbrev pub LeCase : ℕ → ℕ → Type 0
LeCase a b = ((nat_le a b ≡ true) × (a ≤ b)) ⊎ ((nat_le a b ≡ false) × (b < a))

le_case_by : (a b : ℕ) (t : Bool) → nat_le a b ≡ t → LeCase a b
le_case_by a b true e = inl (e, grind (arith, nat_tests))
le_case_by a b false e = inr (e, grind (arith, nat_tests))

le_case : (a b : ℕ) → LeCase a b
le_case a b = le_case_by a b (nat_le a b) refl

-- ---- sizes

size_by : (n m : ℕ) (wide : Bool) → 1 ≤ (if wide then 2 + n else 1 + m)
size_by n m true = omega arith
size_by n m false = omega arith

-- an instruction has a byte at least
has_a_byte : (at : ℕ) (i : Ins) → 1 ≤ ins_size at i
has_a_byte at i = size_by (wide_size i.operand) (operand_size at (kind_of i.code) i.operand) i.wide

-- ---- places

-- no instruction begins before the first
early : (is : List Ins) (start at : ℕ) → at < start → rest_from start is at ≡ []
early [] start at h = refl
early (i ∷ is) start at h = elim (eq_case start at) [
  | inl t ↦ absurd (let e = t.1 in omega arith)
  | inr f ↦ rw f.0 (early is (start + ins_size start i) at (omega arith))
]

-- in a list that begins with a row and then the rest of its bytes
first_of_row : (p : Option Placed) (n k : ℕ) (more : List (Option Placed)) → 0 < k → k < n → get_or (p ∷ (replicate (n - 1) None ++ more)) k None ≡ None
first_of_row p n k more h below =
    let gap = replicate {A = Option Placed} (n - 1) None in
    let e : k ≡ suc (k - 1) = omega arith in
    let short : k - 1 < length gap = omega (arith, length-replicate {A = Option Placed} (n - 1) None) in
    ap (λ (j : ℕ). get_or (p ∷ (gap ++ more)) j None) e ∙ get_or-append gap more None (k - 1) short ∙ get_or-replicate (n - 1) (k - 1) None None (omega arith)

behind_row : (p : Option Placed) (n k : ℕ) (more : List (Option Placed)) → 1 ≤ n → n ≤ k → get_or (p ∷ (replicate (n - 1) None ++ more)) k None ≡ get_or more (k - n) None
behind_row p n k more h above =
    let gap = replicate {A = Option Placed} (n - 1) None in
    let e : k ≡ suc (length gap + (k - n)) = omega (arith, length-replicate {A = Option Placed} (n - 1) None) in
    ap (λ (j : ℕ). get_or (p ∷ (gap ++ more)) j None) e ∙ get_or-append-add gap more (k - n) None

-- what stands at a place, if an instruction begins there
abbrev pub place_by : (Ins × ℕ → Placed) → ℕ → List Ins → Option Placed
place_by f at is = option_map f (first_of_all at is)

placed_from : (f : Ins × ℕ → Placed) (is : List Ins) (start at : ℕ) → start ≤ at → get_or (places_of f start is) (at - start) None ≡ place_by f at (rest_from start is at)
placed_from f [] start at h = refl
placed_from f (i ∷ is) start at h =
    let size = ins_size start i in
    let more = places_of f (start + size) is in
    elim (eq_case start at) [
      | inl t ↦ (let here : at - start ≡ 0 = omega (arith, t.1) in rw t.0 (rw here (ap (λ (a : ℕ). let p : Option Placed = Some (f (i, a + ins_size a i)) in p) t.1)))
      | inr n ↦ rw n.0 (elim (le_case (start + size) at) [
        | inl g ↦
            (let there : (at - start) - size ≡ at - (start + size) = omega arith in
            behind_row (Some (f (i, start + size))) size (at - start) more (has_a_byte start i) (omega (arith, g.1)) ∙ ap (λ (k : ℕ). get_or more k None) there ∙ placed_from f is (start + size) at g.1)
        | inr g ↦ first_of_row (Some (f (i, start + size))) size (at - start) more (omega (arith, n.1)) (omega (arith, g.1)) ∙ ap (place_by f at) (sym (early is (start + size) at g.1))
      ])
    ]

-- ---- the same by the numbers of the class and the method

in_code : (f : Ins × ℕ → Placed) (code : Option CodeModel) (at : ℕ) → get_or (places_in_code f code) at None ≡ option_map f (option_and_then (λ (c : CodeModel). first_of_all at (rest_from 0 c.ins at)) code)
in_code f None at = refl
in_code f (Some code) at =
    let e : at - 0 ≡ at = omega arith in
    ap (λ (k : ℕ). get_or (places_of f 0 code.ins) k None) (sym e) ∙ placed_from f code.ins 0 at (omega arith)

in_method : (classes : List ClassModel) (k m at : ℕ) → get_or (method_rows classes k m) at None ≡ row_at classes k m at
in_method classes k m at = in_code (placed_as classes (k, m)) (code_at classes k m) at

no_code : (classes : List ClassModel) (k m : ℕ) → length (methods_of classes k) ≤ m → code_at classes k m ≡ None
no_code classes k m h = ap (λ (o : Option MethodModel). option_and_then (λ (method : MethodModel). method.code) o) (beyond (methods_of classes k) m h)

no_methods : (classes : List ClassModel) (k : ℕ) → length classes ≤ k → methods_of classes k ≡ []
no_methods classes k h = ap (λ (o : Option ClassModel). let ms : List MethodModel = elim o [ Some c ↦ c.methods | None ↦ [] ] in ms) (beyond classes k h)

no_row : (classes : List ClassModel) (k m at : ℕ) → code_at classes k m ≡ None → row_at classes k m at ≡ None
no_row classes k m at e = ap (λ (code : Option CodeModel). option_map (placed_as classes (k, m)) (option_and_then (λ (c : CodeModel). first_of_all at (rest_from 0 c.ins at)) code)) e

no_class_row : (classes : List ClassModel) (k m at : ℕ) → length classes ≤ k → row_at classes k m at ≡ None
no_class_row classes k m at h =
    no_row classes k m at (ap (λ (ms : List MethodModel). option_and_then (λ (method : MethodModel). method.code) (slice_get ms m)) (no_methods classes k h))

all_rows-is : (classes : List ClassModel) (k : ℕ) → (slice_get (all_rows classes) k ≡ Some (class_rows classes k)) ⊎ ((slice_get (all_rows classes) k ≡ None) × (length classes ≤ k))
unfolding all_rows
all_rows-is classes k = at_number (class_rows classes) 0 (length classes) k k (omega arith)

class_rows-is : (classes : List ClassModel) (k m : ℕ) → (slice_get (class_rows classes k) m ≡ Some (method_rows classes k m)) ⊎ ((slice_get (class_rows classes k) m ≡ None) × (length (methods_of classes k) ≤ m))
class_rows-is classes k m = at_number (method_rows classes k) 0 (length (methods_of classes k)) m m (omega arith)

-- where there are no rows for a class
pub no_class : (classes : List ClassModel) (rows : List (List (List (Option Placed)))) (k m at : ℕ) → rows ≡ all_rows classes → slice_get rows k ≡ None → None ≡ row_at classes k m at
no_class classes rows k m at all e = elim (all_rows-is classes k) [
  | inl is ↦ let same : None ≡ Some (class_rows classes k) = sym e ∙ ap (λ (xs : List (List (List (Option Placed)))). slice_get xs k) all ∙ is in cc
  | inr gone ↦ sym (no_class_row classes k m at gone.1)
]

class_is : (classes : List ClassModel) (rows : List (List (List (Option Placed)))) (ms : List (List (Option Placed))) (k : ℕ) → rows ≡ all_rows classes → slice_get rows k ≡ Some ms → ms ≡ class_rows classes k
class_is classes rows ms k all e = elim (all_rows-is classes k) [
  | inl is ↦ let same : Some ms ≡ Some (class_rows classes k) = sym e ∙ ap (λ (xs : List (List (List (Option Placed)))). slice_get xs k) all ∙ is in cc
  | inr gone ↦ let same : Some ms ≡ None = sym e ∙ ap (λ (xs : List (List (List (Option Placed)))). slice_get xs k) all ∙ gone.0 in cc
]

-- where there are none for a method
pub no_method : (classes : List ClassModel) (rows : List (List (List (Option Placed)))) (ms : List (List (Option Placed))) (k m at : ℕ) → rows ≡ all_rows classes → slice_get rows k ≡ Some ms → slice_get ms m ≡ None → None ≡ row_at classes k m at
no_method classes rows ms k m at all e f = elim (class_rows-is classes k m) [
  | inl is ↦ let same : None ≡ Some (method_rows classes k m) = sym f ∙ ap (λ (xs : List (List (Option Placed))). slice_get xs m) (class_is classes rows ms k all e) ∙ is in cc
  | inr gone ↦ sym (no_row classes k m at (no_code classes k m gone.1))
]

method_is : (classes : List ClassModel) (rows : List (List (List (Option Placed)))) (ms : List (List (Option Placed))) (ps : List (Option Placed)) (k m : ℕ) → rows ≡ all_rows classes → slice_get rows k ≡ Some ms → slice_get ms m ≡ Some ps → ps ≡ method_rows classes k m
method_is classes rows ms ps k m all e f = elim (class_rows-is classes k m) [
  | inl is ↦ let same : Some ps ≡ Some (method_rows classes k m) = sym f ∙ ap (λ (xs : List (List (Option Placed))). slice_get xs m) (class_is classes rows ms k all e) ∙ is in cc
  | inr gone ↦ let same : Some ps ≡ None = sym f ∙ ap (λ (xs : List (List (Option Placed))). slice_get xs m) (class_is classes rows ms k all e) ∙ gone.0 in cc
]

-- what stands in the lists of the classes is the row at that place
pub placed_is : (classes : List ClassModel) (rows : List (List (List (Option Placed)))) (ms : List (List (Option Placed))) (ps : List (Option Placed)) (p : Option Placed) (k m at : ℕ) →
    rows ≡ all_rows classes → slice_get rows k ≡ Some ms → slice_get ms m ≡ Some ps → slice_get ps at ≡ Some p → p ≡ row_at classes k m at
placed_is classes rows ms ps p k m at all e f g =
    sym (ap (λ (o : Option (Option Placed)). unwrap_or o None) g) ∙ unwrap_or-slice_get ps at None ∙ ap (λ (xs : List (Option Placed)). get_or xs at None) (method_is classes rows ms ps k m all e f) ∙ in_method classes k m at

pub no_place : (classes : List ClassModel) (rows : List (List (List (Option Placed)))) (ms : List (List (Option Placed))) (ps : List (Option Placed)) (k m at : ℕ) →
    rows ≡ all_rows classes → slice_get rows k ≡ Some ms → slice_get ms m ≡ Some ps → slice_get ps at ≡ None → None ≡ row_at classes k m at
no_place classes rows ms ps k m at all e f g =
    sym (ap (λ (o : Option (Option Placed)). unwrap_or o None) g) ∙ unwrap_or-slice_get ps at None ∙ ap (λ (xs : List (Option Placed)). get_or xs at None) (method_is classes rows ms ps k m all e f) ∙ in_method classes k m at
