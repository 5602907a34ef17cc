-- Code, its exception table and its frames are read again.
use Rattle.std.proofs.Common.{◌≡◌, ◌<◌, ◌≤◌, ◌^◌, ℕ, zero, suc, ◌+◌, ◌-◌, ◌%◌, Bool, true, false, ltb, eqb, List, [], ◌∷◌, ◌++◌, length, replicate, Ok, refl, ap, ◌∙◌, append_assoc, arith, inl, inr}
use lib.Dec.{leb}
use Rattle.std.specs.Prelude.{◌&&◌, nat_lt}
use Rattle.std.specs.Int.{w16, to_be_bytes}
use Rattle.std.specs.List.{flat_map, list_all, AllByRecursion}
use Rattle.std.proofs.lemmas.Bool.{ltb-true, eqb-true, eq-eqb, ne_eqb, lt-ltb, le-leb, lt-leb, or_cases, cases_lt, and_parts}
use Rattle.std.proofs.lemmas.List.{length-append, length-replicate, get_or_past}
use Rattle.jc_rules.proofs.Truths.{not_both}
use Rattle.jc_class_out.specs.declared.format.Slot.{Slot}
use Rattle.jc_class_out.specs.declared.model.Handler.{Handler}
use Rattle.jc_class_out.specs.declared.model.Ins.{Ins}
use Rattle.jc_class_out.specs.declared.model.Operand.{Operand}
use Rattle.jc_class_out.specs.declared.model.Operand.TheVariants as op
use Rattle.jc_class_out.specs.declared.model.SwitchCase.{SwitchCase}
use Rattle.jc_class_out.specs.Pool.{Known}
use Rattle.jc_class_out.specs.Instructions.{ins_size, padding}
use Rattle.jc_class_out.specs.Frames.{begins}
use Rattle.jc_class_out.specs.Code.{code_on, marks_from, marks_of, size_from, cases_land, lands, all_land, body_at, ends, handler_at}
use Rattle.jc_class_out.specs.Spelling.{ins_uses, ins_first_uses, spell_ins, spell_code, spell_body, spell_handler, spell_class_or_none}
use Rattle.jc_class_out.specs.Fitting.{ins_fits, all_fit, case_lands, operand_lands, ins_lands, handler_fits, ins_all_fit}
use Rattle.jc_class_out.proofs.Numbers.{u2_again, u4_again, whole_u2, whole_u4}
use Rattle.jc_class_out.proofs.Served.{Serves, HasClass, class_or_none_again}
use Rattle.jc_class_out.proofs.InsAgain.{Have, Low, Reaches, InsAgain, ins_again}

-- ---- lists of constants that are there

pub have_append : (ks us vs : List Known) → Have ks (us ++ vs) → Have ks us × Have ks vs
have_append ks [] vs h = (tt, h)
have_append ks (u ∷ us) vs h = let r = have_append ks us vs h.1 in ((h.0, r.0), r.1)

pub low_append : (ks us vs : List Known) → Low ks (us ++ vs) → Low ks us × Low ks vs
low_append ks [] vs h = (tt, h)
low_append ks (u ∷ us) vs h = let r = low_append ks us vs h.1 in ((h.0, r.0), r.1)

-- ---- marks

size_some : (at : ℕ) (i : Ins) → (b : Bool) → i.wide ≡ b → 0 < ins_size at i
size_some at i true e = rw e (omega arith)
size_some at i false e = rw e (omega arith)

pub ins_some : (at : ℕ) (i : Ins) → 0 < ins_size at i
ins_some at i = size_some at i i.wide refl

pub length_marks : (at : ℕ) (is : List Ins) → length (marks_from at is) ≡ size_from at is
unfolding marks_from size_from
length_marks at [] = refl
length_marks at (i ∷ is) =
    let some = ins_some at i in
    let ih = length_marks (at + ins_size at i) is in
    omega (arith, some, ih, length-append (replicate (ins_size at i - 1) false) (marks_from (at + ins_size at i) is), length-replicate {A = Bool} (ins_size at i - 1) false)

begins_past : (marks : List Bool) (to : ℕ) → length marks ≤ to → begins marks to ≡ false
begins_past marks to le = get_or_past marks to false le

begins_below_by : (marks : List Bool) (to : ℕ) → begins marks to ≡ true → (length marks ≤ to → ⊥)
begins_below_by marks to h le = not_both (begins marks to) h (begins_past marks to le)

-- an instruction begins inside the code
pub begins_below : (marks : List Bool) (to : ℕ) → begins marks to ≡ true → to < length marks
begins_below marks to h = elim (cases_lt to (length marks)) [
  | inl lt ↦ lt
  | inr le ↦ absurd (begins_below_by marks to h le)
]

ends_within : (marks : List Bool) (to : ℕ) → ends marks to ≡ true → to ≤ length marks
ends_within marks to h = elim (or_cases (begins marks to) (eqb to (length marks)) h) [
  | inl b ↦ (let l = begins_below marks to b in omega (arith, l))
  | inr e ↦ (let q = eqb-true to (length marks) e in omega (arith, q))
]

-- ---- instructions one after the other

pub record CodeAgain (slots : List Slot) (ks : List Known) (at : ℕ) (is : List Ins) : Type 0 where
  pub size : length (spell_code ks at is) ≡ size_from at is
  pub again : (start len n : ℕ) (tail : List ℕ) → len ≡ at + size_from at is → start ≡ len + length tail → length is ≤ n → code_on slots start len n (spell_code ks at is ++ tail) ≡ Ok (is, tail)

code_done : (slots : List Slot) (start len n : ℕ) (tail : List ℕ) → len ≤ start - length tail → code_on slots start len n tail ≡ Ok ([], tail)
unfolding code_on
code_done slots start len zero tail h = refl
code_done slots start len (suc n) tail h = rw (le-leb len (start - length tail) h) refl

-- one more instruction in front
code_more : (slots : List Slot) (ks : List Known) (at place : ℕ) (i : Ins) (is : List Ins) → place ≡ at → InsAgain slots ks place i → CodeAgain slots ks (at + length (spell_ins ks place i)) is
    → length (spell_ins ks place i) ≡ ins_size at i
    → (size : length (spell_ins ks place i ++ spell_code ks (at + length (spell_ins ks place i)) is) ≡ ins_size at i + size_from (at + ins_size at i) is)
    → (start len n : ℕ) (tail : List ℕ) → len ≡ at + (ins_size at i + size_from (at + ins_size at i) is) → start ≡ len + length tail → suc (length is) ≤ n
    → code_on slots start len n ((spell_ins ks place i ++ spell_code ks (at + length (spell_ins ks place i)) is) ++ tail) ≡ Ok (i ∷ is, tail)
unfolding code_on
code_more slots ks at place i is p one more s size start len zero tail l e le = absurd (omega (arith, le))
code_more slots ks at place i is p one more s size start len (suc n) tail l e le =
    let piece = spell_ins ks place i in
    let body = spell_code ks (at + length piece) is in
    let some = ins_some at i in
    let regrouped : (piece ++ body) ++ tail ≡ piece ++ (body ++ tail) = append_assoc piece body tail in
    let l1 = length-append piece (body ++ tail) in
    let l2 = length-append body tail in
    let l3 = length-append piece body in
    let here : start - length (piece ++ (body ++ tail)) ≡ place = omega (arith, p, l, e, l1, l2, l3, size) in
    let t : leb len place ≡ false = lt-leb len place (omega (arith, p, l, some)) in
    let rest : code_on slots start len n (body ++ tail) ≡ Ok (is, tail) = more.again start len n tail (omega (arith, l, l3, s, size, more.size)) e (omega (arith, le)) in
    rw (regrouped, here, t, one.is (body ++ tail), rest) refl

pub code_again : (slots : List Slot) (ks : List Known) → Serves ks slots → (at : ℕ) (is : List Ins) → at + size_from at is < 2 ^ 32 → all_fit at is ≡ true → Have ks (flat_map ins_uses is) → Low ks (flat_map ins_first_uses is)
    → AllByRecursion (λ (i : Ins). Reaches i.operand) is → CodeAgain slots ks at is
unfolding spell_code size_from all_fit
code_again slots ks s at [] lt h u l r = record { size = refl; again = λ start len n tail a b c. code_done slots start len n tail (omega (arith, a, b)) }
code_again slots ks s at (i ∷ is) lt h u l r =
    let f = and_parts (ins_fits at i) (all_fit (at + ins_size at i) is) h in
    let v = have_append ks (ins_uses i) (flat_map ins_uses is) u in
    let w = low_append ks (ins_first_uses i) (flat_map ins_first_uses is) l in
    let place = at % 2 ^ 32 in
    let p : at % 2 ^ 32 ≡ at = whole_u4 at (omega (arith, lt)) in
    let one : InsAgain slots ks (at % 2 ^ 32) i = rw p (ins_again slots ks s at i (omega (arith, lt)) f.0 v.0 w.0 r.0) in
    let here : length (spell_ins ks (at % 2 ^ 32) i) ≡ ins_size at i = one.size ∙ ap (λ (x : ℕ). ins_size x i) p in
    let more : CodeAgain slots ks (at + length (spell_ins ks (at % 2 ^ 32) i)) is = rw here (code_again slots ks s (at + ins_size at i) is (omega (arith, lt)) f.1 v.1 w.1 r.1) in
    let size : length (spell_ins ks (at % 2 ^ 32) i ++ spell_code ks (at + length (spell_ins ks (at % 2 ^ 32) i)) is) ≡ ins_size at i + size_from (at + ins_size at i) is =
    omega (arith, length-append (spell_ins ks (at % 2 ^ 32) i) (spell_code ks (at + length (spell_ins ks (at % 2 ^ 32) i)) is), here, more.size, ap (λ (x : ℕ). size_from (at + x) is) here) in
    record { size = size; again = code_more slots ks at (at % 2 ^ 32) i is p one more here size }

-- ---- jumps

cases_land_again : (marks : List Bool) (left : ℕ) (cs : List SwitchCase) → list_all (case_lands marks) cs ≡ true → cases_land marks left cs ≡ Ok 0
unfolding cases_land
cases_land_again marks left [] h = refl
cases_land_again marks left (c ∷ cs) h =
    let p = and_parts (case_lands marks c) (list_all (case_lands marks) cs) h in
    rw p.0 (cases_land_again marks (left - 8) cs p.1)

lands_again : (marks : List Bool) (left at : ℕ) (o : Operand) → operand_lands marks o ≡ true → lands marks left at o ≡ Ok 0
lands_again marks left at (op.Jump to) h = rw h refl
lands_again marks left at (op.Switch otherwise cases) h =
    let p = and_parts (begins marks otherwise) (list_all (case_lands marks) cases) h in
    rw p.0 (cases_land_again marks (left - 9 - padding at) cases p.1)
lands_again marks left at _ h = refl

pub all_land_again : (marks : List Bool) (left at : ℕ) (is : List Ins) → list_all (ins_lands marks) is ≡ true → all_land marks left at is ≡ Ok 0
unfolding all_land
all_land_again marks left at [] h = refl
all_land_again marks left at (i ∷ is) h =
    let p = and_parts (ins_lands marks i) (list_all (ins_lands marks) is) h in
    rw (lands_again marks left at i.operand p.0) (all_land_again marks (left - ins_size at i) (at + ins_size at i) is p.1)

-- what lands is within four bytes
cases_reach : (marks : List Bool) (cs : List SwitchCase) → length marks < 2 ^ 32 → list_all (case_lands marks) cs ≡ true → list_all (λ (c : SwitchCase). ltb c.at (2 ^ 32)) cs ≡ true
cases_reach marks [] lt h = refl
cases_reach marks (c ∷ cs) lt h =
    let p = and_parts (case_lands marks c) (list_all (case_lands marks) cs) h in
    let b = begins_below marks c.at p.0 in
    rw (lt-ltb c.at (2 ^ 32) (omega (arith, b, lt))) (cases_reach marks cs lt p.1)

operand_reaches : (marks : List Bool) (o : Operand) → length marks < 2 ^ 32 → operand_lands marks o ≡ true → Reaches o
operand_reaches marks (op.Switch otherwise cases) lt h =
    let p = and_parts (begins marks otherwise) (list_all (case_lands marks) cases) h in
    let b = begins_below marks otherwise p.0 in
    (omega (arith, b, lt), cases_reach marks cases lt p.1)
operand_reaches marks _ lt h = tt

pub all_reach : (marks : List Bool) (is : List Ins) → length marks < 2 ^ 32 → list_all (ins_lands marks) is ≡ true → AllByRecursion (λ (i : Ins). Reaches i.operand) is
all_reach marks [] lt h = tt
all_reach marks (i ∷ is) lt h =
    let p = and_parts (ins_lands marks i) (list_all (ins_lands marks) is) h in
    (operand_reaches marks i.operand lt p.0, all_reach marks is lt p.1)

-- no more instructions than bytes
pub few_ins : (at : ℕ) (is : List Ins) → length is ≤ size_from at is
unfolding size_from
few_ins at [] = omega arith
few_ins at (i ∷ is) = omega (arith, ins_some at i, few_ins (at + ins_size at i) is)

pub record BodyAgain (slots : List Slot) (ks : List Known) (is : List Ins) : Type 0 where
  pub is_read : (rest : List ℕ) → body_at slots (spell_body ks is ++ rest) ≡ Ok (is, rest)
  pub size : length (spell_body ks is) ≡ 4 + size_from 0 is

pub body_again : (slots : List Slot) (ks : List Known) → Serves ks slots → (is : List Ins) → ins_all_fit is ≡ true → Have ks (flat_map ins_uses is) → Low ks (flat_map ins_first_uses is) → BodyAgain slots ks is
unfolding ins_all_fit body_at spell_body
body_again slots ks s is h u l =
    let a = and_parts (ltb 0 (size_from 0 is)) (ltb (size_from 0 is) 65536 && (all_fit 0 is && list_all (ins_lands (marks_of is)) is)) h in
    let b = and_parts (ltb (size_from 0 is) 65536) (all_fit 0 is && list_all (ins_lands (marks_of is)) is) a.1 in
    let c = and_parts (all_fit 0 is) (list_all (ins_lands (marks_of is)) is) b.1 in
    let some = ltb-true 0 (size_from 0 is) a.0 in
    let few = ltb-true (size_from 0 is) 65536 b.0 in
    let short : length (marks_of is) < 2 ^ 32 = omega (arith, length_marks 0 is, few) in
    let code = code_again slots ks s 0 is (omega (arith, few)) c.0 u l (all_reach (marks_of is) is short c.1) in
    let body = spell_code ks 0 is in
    let e : length (spell_code ks 0 is) % 2 ^ 32 ≡ length (spell_code ks 0 is) = whole_u4 (length (spell_code ks 0 is)) (omega (arith, code.size, few)) in
    record {
      is_read = λ rest.
          let l1 = length-append body rest in
          let n = u4_again (length body) (body ++ rest) (omega (arith, code.size, few)) in
          let read = code.again (length (body ++ rest)) (length body) (length body) rest (omega (arith, code.size)) (omega (arith, l1)) (omega (arith, few_ins 0 is, code.size)) in
          let nz : eqb (length body) 0 ≡ false = ne_eqb (length body) 0 (λ z. omega (arith, z, some, code.size)) in
          let small : leb (length body) 65535 ≡ true = le-leb _ _ (omega (arith, few, code.size)) in
          let used : eqb (length (body ++ rest) - length rest) (length body) ≡ true = eq-eqb _ _ (omega (arith, l1)) in
          rw (e, n, read, nz, small, used, all_land_again (marks_of is) (length (body ++ rest)) 0 is c.1) refl;
      size = omega (arith, code.size);
    }

-- ---- handlers

pub handler_again : (slots : List Slot) (ks : List Known) → Serves ks slots → (marks : List Bool) (h : Handler) (rest : List ℕ) → length marks < 65536 → handler_fits marks h ≡ true → HasClass ks h.class
    → handler_at slots marks (spell_handler ks h ++ rest) ≡ Ok (h, rest)
unfolding handler_at spell_handler handler_fits
handler_again slots ks s marks h rest lt f u =
    let a = and_parts (begins marks h.from) (ends marks h.to && (nat_lt h.from h.to && begins marks h.at)) f in
    let b = and_parts (ends marks h.to) (nat_lt h.from h.to && begins marks h.at) a.1 in
    let c = and_parts (nat_lt h.from h.to) (begins marks h.at) b.1 in
    let l1 = begins_below marks h.from a.0 in
    let l2 : h.to ≤ length marks = ends_within marks h.to b.0 in
    let l3 = begins_below marks h.at c.1 in
    let e1 : h.from % 65536 ≡ h.from = whole_u2 h.from (omega (arith, l1, lt)) in
    let e2 : h.to % 65536 ≡ h.to = whole_u2 h.to (omega (arith, l2, lt)) in
    let e3 : h.at % 65536 ≡ h.at = whole_u2 h.at (omega (arith, l3, lt)) in
    let class = spell_class_or_none ks h.class in
    rw (
      e1,
      e2,
      e3,
      u2_again h.from (to_be_bytes w16 h.to ++ (to_be_bytes w16 h.at ++ (class ++ rest))) (omega (arith, l1, lt)),
      a.0,
      u2_again h.to (to_be_bytes w16 h.at ++ (class ++ rest)) (omega (arith, l2, lt)),
      b.0,
      c.0,
      u2_again h.at (class ++ rest) (omega (arith, l3, lt)),
      c.1,
      class_or_none_again ks slots s h.class rest u,
    ) refl
