-- The list of a method's rows by byte offset gives the row of the instruction that stands there.
use Rattle.std.proofs.Common.{◌≡◌, ◌≤◌, ◌<◌, ◌⊎◌, inl, inr, ℕ, ◌+◌, ◌-◌, ◌*◌, ◌==◌, Bool, true, false, nat_le, List, [], ◌∷◌, ◌++◌, Option, Some, None, length, get_or, suc, refl, sym, ap, ◌∙◌, subst, arith}
use Rattle.std.specs.Option.{option_map}
use Rattle.std.specs.Prelude.{replicate, slice_get, option_and_then, unwrap_or, if◌then◌else◌}
use Rattle.std.proofs.Math.ListN.{get_or-append}
use Rattle.std.proofs.lemmas.Bool.Decides.{nat_tests}
use Rattle.std.proofs.lemmas.List.{get_or-append-add, get_or-replicate, length-replicate}
use Rattle.std.proofs.lemmas.Option.{slice_get-map, unwrap_or-slice_get}
use Rattle.jc_class_out.specs.declared.model.ClassModel.{ClassModel}
use Rattle.jc_class_out.specs.declared.model.CodeModel.{CodeModel}
use Rattle.jc_class_out.specs.declared.model.Ins.{Ins}
use Rattle.jc_class_out.specs.declared.model.MethodModel.{MethodModel}
use Rattle.jc_machine.specs.declared.rows.Placed.{Placed}
use Rattle.jc_machine.specs.Code.{size_of, operand_size, rest_from, place_of, first_place, placed_in}
use Rattle.jc_machine.specs.Names.{placed_at}
use Rattle.jc_machine.specs.Places.{places_from, places_of_code, places_of_methods, places_of_classes}

-- ---- tests and the facts that they tell

abbrev pub EqCase : ℕ → ℕ → Type 0
EqCase a b = (((a == b) ≡ true) × (a ≡ b)) ⊎ (((a == b) ≡ false) × (a ≡ b → ⊥))

eq_case_by : (a b : ℕ) (t : Bool) → (a == b) ≡ t → EqCase a b
eq_case_by a b true e = inl (e, grind (arith, nat_tests))
eq_case_by a b false e = inr (e, λ h. grind (arith, nat_tests))

pub eq_case : (a b : ℕ) → EqCase a b
eq_case a b = eq_case_by a b (a == b) refl

abbrev pub LeCase : ℕ → ℕ → Type 0
LeCase a b = ((nat_le a b ≡ true) × (a ≤ b)) ⊎ ((nat_le a b ≡ false) × (b < a))

le_case_by : (a b : ℕ) (t : Bool) → nat_le a b ≡ t → LeCase a b
le_case_by a b true e = inl (e, grind (arith, nat_tests))
le_case_by a b false e = inr (e, grind (arith, nat_tests))

pub le_case : (a b : ℕ) → LeCase a b
le_case a b = le_case_by a b (nat_le a b) refl

-- ---- sizes

size_by : (n m : ℕ) (wide : Bool) → 1 ≤ (if wide then 2 + n else 1 + m)
size_by n m true = omega arith
size_by n m false = omega arith

-- an instruction has a byte at least
pub has_a_byte : (at : ℕ) (i : Ins) → 1 ≤ size_of at i
has_a_byte at i = size_by (2 * operand_size at i.code i.operand) (operand_size at i.code i.operand) i.wide

-- ---- places

-- what ends past the last byte that code can have has no row
past_end : (at : ℕ) (i : Ins) → 65535 < at + size_of at i → place_of at i ≡ None
past_end at i h = elim (le_case (at + size_of at i) 65535) [
  | inl t ↦ absurd (omega (arith, t.1))
  | inr f ↦ rw f.0 refl
]

-- nor has what begins there
late : (is : List Ins) (start at : ℕ) → 65535 < start → first_place at (rest_from start is at) ≡ None
late [] start at h = refl
late (i ∷ is) start at h = elim (eq_case start at) [
  | inl t ↦ rw t.0 (past_end at i (let e = t.1 in omega arith))
  | inr f ↦ rw f.0 (late is (start + size_of start i) at (omega arith))
]

-- no instruction begins before the first
early : (is : List Ins) (start at : ℕ) → at < start → rest_from start is at ≡ []
early [] start at h = refl
early (i ∷ is) start at h = elim (eq_case start at) [
  | inl t ↦ absurd (let e = t.1 in omega arith)
  | inr f ↦ rw f.0 (early is (start + size_of start i) at (omega arith))
]

-- in a list that begins with a row and then the rest of its bytes
first_of_row : (p : Option Placed) (n k : ℕ) (more : List (Option Placed)) → 0 < k → k < n → get_or (p ∷ (replicate (n - 1) None ++ more)) k None ≡ None
first_of_row p n k more h below =
    let gap = replicate {A = Option Placed} (n - 1) None in
    let e : k ≡ suc (k - 1) = omega arith in
    let short : k - 1 < length gap = omega (arith, length-replicate {A = Option Placed} (n - 1) None) in
    ap (λ (j : ℕ). get_or (p ∷ (gap ++ more)) j None) e ∙ get_or-append gap more None (k - 1) short ∙ get_or-replicate (n - 1) (k - 1) None None (omega arith)

behind_row : (p : Option Placed) (n k : ℕ) (more : List (Option Placed)) → 1 ≤ n → n ≤ k → get_or (p ∷ (replicate (n - 1) None ++ more)) k None ≡ get_or more (k - n) None
behind_row p n k more h above =
    let gap = replicate {A = Option Placed} (n - 1) None in
    let e : k ≡ suc (length gap + (k - n)) = omega (arith, length-replicate {A = Option Placed} (n - 1) None) in
    ap (λ (j : ℕ). get_or (p ∷ (gap ++ more)) j None) e ∙ get_or-append-add gap more (k - n) None

-- where the first instruction ends within the code
within : (i : Ins) (is : List Ins) (start at : ℕ) → start ≤ at → (start + size_of start i ≤ at → get_or (places_from (start + size_of start i) is) (at - (start + size_of start i)) None ≡ first_place at (rest_from (start + size_of start i) is at)) → get_or (place_of start i ∷ (replicate (size_of start i - 1) None ++ places_from (start + size_of start i) is)) (at - start) None ≡ first_place at (rest_from start (i ∷ is) at)
within i is start at h rest =
    let size = size_of start i in
    let more = places_from (start + size) is in
    elim (eq_case start at) [
      | inl t ↦ (let here : at - start ≡ 0 = omega (arith, t.1) in rw t.0 (rw here (ap (λ (a : ℕ). place_of a i) t.1)))
      | inr f ↦ rw f.0 (elim (le_case (start + size) at) [
        | inl g ↦
            (let there : (at - start) - size ≡ at - (start + size) = omega arith in
            behind_row (place_of start i) size (at - start) more (has_a_byte start i) (omega (arith, g.1)) ∙ ap (λ (k : ℕ). get_or more k None) there ∙ rest g.1)
        | inr g ↦ first_of_row (place_of start i) size (at - start) more (omega (arith, f.1)) (omega (arith, g.1)) ∙ ap (first_place at) (sym (early is (start + size) at g.1))
      ])
    ]

-- where it does not
beyond : (i : Ins) (is : List Ins) (start at : ℕ) → 65535 < start + size_of start i → None ≡ first_place at (rest_from start (i ∷ is) at)
beyond i is start at h = elim (eq_case start at) [
  | inl t ↦ rw t.0 (sym (past_end at i (subst (λ (a : ℕ). 65535 < a + size_of a i) t.1 h)))
  | inr f ↦ rw f.0 (sym (late is (start + size_of start i) at h))
]

pub placed_from : (is : List Ins) (start at : ℕ) → start ≤ at → get_or (places_from start is) (at - start) None ≡ first_place at (rest_from start is at)
placed_from [] start at h = refl
placed_from (i ∷ is) start at h =
    let end = start + size_of start i in
    let places = place_of start i ∷ (replicate (size_of start i - 1) None ++ places_from end is) in
    let by : Bool → Option Placed = λ b. get_or (if b then places else []) (at - start) None in
    elim (le_case end 65535) [
      | inl t ↦ ap by t.0 ∙ within i is start at h (λ above. placed_from is end at above)
      | inr f ↦ ap by f.0 ∙ beyond i is start at f.1
    ]

-- ---- the same by the numbers of the class and the method

in_code : (code : Option CodeModel) (at : ℕ) → get_or (places_of_code code) at None ≡ option_and_then (λ c. placed_in c.ins at) code
in_code None at = refl
in_code (Some code) at =
    let e : at - 0 ≡ at = omega arith in
    ap (λ (k : ℕ). get_or (places_from 0 code.ins) k None) (sym e) ∙ placed_from code.ins 0 at (omega arith)

in_method : (m : Option MethodModel) (ps : List (Option Placed)) (at : ℕ) → option_map (λ x. places_of_code x.code) m ≡ Some ps → get_or ps at None ≡ option_and_then (λ c. placed_in c.ins at) (option_and_then (λ x. x.code) m)
in_method None ps at e = cc
in_method (Some m) ps at e =
    let same : places_of_code m.code ≡ ps = cc in
    ap (λ (l : List (Option Placed)). get_or l at None) (sym same) ∙ in_code m.code at

in_class : (c : Option ClassModel) (ms : List (List (Option Placed))) (ps : List (Option Placed)) (method at : ℕ) → option_map (λ x. places_of_methods x.methods) c ≡ Some ms → slice_get ms method ≡ Some ps → get_or ps at None ≡ option_and_then (λ x. placed_in x.ins at) (option_and_then (λ x. option_and_then (λ m. m.code) (slice_get x.methods method)) c)
in_class None ms ps method at e f = cc
in_class (Some c) ms ps method at e f =
    let same : places_of_methods c.methods ≡ ms = cc in
    in_method (slice_get c.methods method) ps at (sym (slice_get-map (λ (m : MethodModel). places_of_code m.code) c.methods method) ∙ ap (λ (l : List (List (Option Placed))). slice_get l method) same ∙ f)

-- what stands in the lists of the classes is the row at that place
pub placed_is : (classes : List ClassModel) (ms : List (List (Option Placed))) (ps : List (Option Placed)) (class method at : ℕ) → slice_get (places_of_classes classes) class ≡ Some ms → slice_get ms method ≡ Some ps → get_or ps at None ≡ placed_at classes class method at
placed_is classes ms ps class method at e f =
    in_class (slice_get classes class) ms ps method at (sym (slice_get-map (λ (c : ClassModel). places_of_methods c.methods) classes class) ∙ e) f

pub placed_none : (classes : List ClassModel) (ms : List (List (Option Placed))) (ps : List (Option Placed)) (class method at : ℕ) → slice_get (places_of_classes classes) class ≡ Some ms → slice_get ms method ≡ Some ps → slice_get ps at ≡ None → None ≡ placed_at classes class method at
placed_none classes ms ps class method at e f g =
    sym (ap (λ (o : Option (Option Placed)). unwrap_or o None) g) ∙ unwrap_or-slice_get ps at None ∙ placed_is classes ms ps class method at e f

pub placed_some : (classes : List ClassModel) (ms : List (List (Option Placed))) (ps : List (Option Placed)) (p : Option Placed) (class method at : ℕ) → slice_get (places_of_classes classes) class ≡ Some ms → slice_get ms method ≡ Some ps → slice_get ps at ≡ Some p → p ≡ placed_at classes class method at
placed_some classes ms ps p class method at e f g =
    sym (ap (λ (o : Option (Option Placed)). unwrap_or o None) g) ∙ unwrap_or-slice_get ps at None ∙ placed_is classes ms ps class method at e f
