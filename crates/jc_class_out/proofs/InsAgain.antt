-- An instruction that was spelled is read again, and takes as many bytes as its size says.
use Rattle.std.proofs.Common.{◌≡◌, ◌<◌, ◌^◌, ℕ, zero, suc, ◌+◌, ◌*◌, ◌%◌, ℤ, pos, negsuc, Bool, true, false, cond, ltb, eqb, List, [], ◌∷◌, ◌++◌, length, replicate, Option, Some, None, Result, Ok, refl, ap, subst, ◌∙◌, append_assoc, arith, inl, inr}
use lib.Dec.{leb}
use Rattle.std.specs.Prelude.{◌&&◌, not}
use Rattle.std.specs.Int.{w16, w32, to_be_bytes, cast_unsigned}
use Rattle.std.specs.List.{flat_map, list_all, AllByRecursion}
use Rattle.std.proofs.lemmas.Bool.{ltb-true, leb-true, eqb-true, eq-eqb, or_cases, not-true, and_parts}
use Rattle.std.proofs.lemmas.List.{length-append, length-replicate}
use Rattle.jc_class_out.specs.declared.format.Flaw.{Flaw}
use Rattle.jc_class_out.specs.declared.format.Kind.{Kind}
use Rattle.jc_class_out.specs.declared.format.Kind.TheVariants.{Plain, Byte, Short, ArrayOf, Load, LoadWide, LoadLong, Local, Step, Jump, Switch, Field, Method, Interface, Class, Dims, Unknown}
use Rattle.jc_class_out.specs.declared.format.Slot.{Slot}
use Rattle.jc_class_out.specs.declared.model.Ins.{Ins}
use Rattle.jc_class_out.specs.declared.model.Loaded.TheVariants as loaded
use Rattle.jc_class_out.specs.declared.model.Operand.{Operand}
use Rattle.jc_class_out.specs.declared.model.Operand.TheVariants as op
use Rattle.jc_class_out.specs.declared.model.SwitchCase.{SwitchCase}
use Rattle.jc_class_out.specs.Descriptors.{parameter_units, or_zero}
use Rattle.jc_class_out.specs.Pool.{Known, KnownWhole, KnownLong, KnownLiteral, KnownField, KnownMethod, KnownInterface}
use Rattle.jc_class_out.specs.Instructions.{is_array_code, within, kind_of, target, wide_target, load_op, load_wide_op, load_long_op, field_op, method_op, interface_op, class_op, dims_op, byte_op, short_op, array_op, local_op, step_op, jump_op, padding, zeros_at, is_above, case_at, cases_at, switch_op, operand_at, wide_operand_at, wide_at, narrow_at, ins_at, operand_size, wide_size, ins_size}
use Rattle.jc_class_out.specs.Spelling.{has, number, operand_uses, member_uses, ins_uses, first_uses, ins_first_uses, is_load, wide_distance, distance, spell_case, spell_switch, spell_number, spell_load, spell_member, spell_operand, spell_wide, spell_ins}
use Rattle.jc_class_out.specs.Fitting.{is_nothing, is_number, is_array, is_local_below, is_step_below, is_load_of, is_load_long, is_member, is_interface_member, is_class_operand, is_dims, is_jump_from, cases_ascend, is_switch, operand_fits, wide_fits, ins_fits, is_signed, is_u8}
use Rattle.jc_class_out.proofs.Numbers.{u2_again, u4_again, whole_u1, low_byte_32, low_u2_32, low_byte_16, signed16, unsigned16, signed32, unsigned32}
use Rattle.jc_class_out.proofs.Served.{Serves, index_again, known_served, class_again}

-- the list of constants has each of these
abbrev pub Have : List Known → List Known → Type 0
Have ks us = AllByRecursion (λ (k : Known). has ks k ≡ true) us

-- a byte is enough for their numbers
abbrev pub Low : List Known → List Known → Type 0
Low ks us = AllByRecursion (λ (k : Known). number ks k < 256) us

-- the operand is read again, and has that size
pub record OperandAgain (slots : List Slot) (ks : List Known) (at : ℕ) (k : Kind) (o : Operand) : Type 0 where
  pub is : (left : ℕ) (rest : List ℕ) → operand_at slots left at k (spell_operand ks at k o ++ rest) ≡ Ok (o, rest)
  pub size : length (spell_operand ks at k o) ≡ operand_size at k o

plain_again : (slots : List Slot) (ks : List Known) (at : ℕ) (o : Operand) → is_nothing o ≡ true → OperandAgain slots ks at Plain o
unfolding operand_at spell_operand operand_size
plain_again slots ks at op.Nothing h = record { is = λ left rest. refl; size = refl }
plain_again slots ks at _ h = absurd cc

byte_again : (slots : List Slot) (ks : List Known) (at : ℕ) (o : Operand) → is_number (2 ^ 7) o ≡ true → OperandAgain slots ks at Byte o
unfolding operand_at spell_operand operand_size byte_op spell_number
byte_again slots ks at (op.Number n) h = record { is = λ left rest. ap (λ (z : ℤ). Ok (op.Number z, rest)) (low_byte_32 n h); size = refl }
byte_again slots ks at _ h = absurd cc

short_again : (slots : List Slot) (ks : List Known) (at : ℕ) (o : Operand) → is_number (2 ^ 15) o ≡ true → OperandAgain slots ks at Short o
unfolding operand_at spell_operand operand_size short_op spell_number
short_again slots ks at (op.Number n) h = record { is = λ left rest. rw (u2_again (cast_unsigned w32 n % 65536) rest (omega arith)) (ap (λ (z : ℤ). Ok (op.Number z, rest)) (low_u2_32 n h)); size = refl }
short_again slots ks at _ h = absurd cc

array_small : (n : ℕ) → is_array_code n ≡ true → n < 256
array_small n h = elim (or_cases (within 4 5 n) (within 8 11 n) h) [
  | inl a ↦ (let p = and_parts (leb 4 n) (leb n 5) a in let l = leb-true n 5 p.1 in omega (arith, l))
  | inr b ↦ (let p = and_parts (leb 8 n) (leb n 11) b in let l = leb-true n 11 p.1 in omega (arith, l))
]

array_again : (slots : List Slot) (ks : List Known) (at : ℕ) (o : Operand) → is_array o ≡ true → OperandAgain slots ks at ArrayOf o
unfolding operand_at spell_operand operand_size array_op spell_number
array_again slots ks at (op.Number (pos n)) h = record { is = λ left rest. rw (whole_u1 n (array_small n h), h) refl; size = refl }
array_again slots ks at (op.Number (negsuc n)) h = absurd cc
array_again slots ks at _ h = absurd cc

load_again : (slots : List Slot) (ks : List Known) → Serves ks slots → (at : ℕ) (o : Operand) → is_load_of o ≡ true → Have ks (operand_uses Load o) → Low ks (first_uses o) → OperandAgain slots ks at Load o
unfolding operand_at spell_operand operand_size load_op spell_load operand_uses
load_again slots ks s at (op.Load (loaded.Whole n)) h u l = record { is = λ left rest. rw (whole_u1 (number ks (KnownWhole n)) l.0, known_served ks slots s (KnownWhole n) u.0 refl) refl; size = refl }
load_again slots ks s at (op.Load (loaded.Text t)) h u l = record { is = λ left rest. rw (whole_u1 (number ks (KnownLiteral t)) l.0, known_served ks slots s (KnownLiteral t) u.1.0 refl) refl; size = refl }
load_again slots ks s at (op.Load (loaded.Long n)) h u l = absurd cc
load_again slots ks s at _ h u l = absurd cc

load_wide_again : (slots : List Slot) (ks : List Known) → Serves ks slots → (at : ℕ) (o : Operand) → is_load_of o ≡ true → Have ks (operand_uses LoadWide o) → OperandAgain slots ks at LoadWide o
unfolding operand_at spell_operand operand_size load_wide_op spell_load operand_uses
load_wide_again slots ks s at (op.Load (loaded.Whole n)) h u = record { is = λ left rest. rw (index_again ks (KnownWhole n) rest, known_served ks slots s (KnownWhole n) u.0 refl) refl; size = refl }
load_wide_again slots ks s at (op.Load (loaded.Text t)) h u = record { is = λ left rest. rw (index_again ks (KnownLiteral t) rest, known_served ks slots s (KnownLiteral t) u.1.0 refl) refl; size = refl }
load_wide_again slots ks s at (op.Load (loaded.Long n)) h u = absurd cc
load_wide_again slots ks s at _ h u = absurd cc

load_long_again : (slots : List Slot) (ks : List Known) → Serves ks slots → (at : ℕ) (o : Operand) → is_load_long o ≡ true → Have ks (operand_uses LoadLong o) → OperandAgain slots ks at LoadLong o
unfolding operand_at spell_operand operand_size load_long_op spell_load operand_uses
load_long_again slots ks s at (op.Load (loaded.Long n)) h u = record { is = λ left rest. rw (index_again ks (KnownLong n) rest, known_served ks slots s (KnownLong n) u.0 refl) refl; size = refl }
load_long_again slots ks s at (op.Load (loaded.Whole n)) h u = absurd cc
load_long_again slots ks s at (op.Load (loaded.Text t)) h u = absurd cc
load_long_again slots ks s at _ h u = absurd cc

local_again : (slots : List Slot) (ks : List Known) (at : ℕ) (o : Operand) → is_local_below 256 o ≡ true → OperandAgain slots ks at Local o
unfolding operand_at spell_operand operand_size local_op
local_again slots ks at (op.Local n) h = record { is = λ left rest. rw (whole_u1 n (ltb-true n 256 h)) refl; size = refl }
local_again slots ks at _ h = absurd cc

step_again : (slots : List Slot) (ks : List Known) (at : ℕ) (o : Operand) → is_step_below 256 (2 ^ 7) o ≡ true → OperandAgain slots ks at Step o
unfolding operand_at spell_operand operand_size step_op
step_again slots ks at (op.Step n by) h =
    let p = and_parts (ltb n 256) (is_signed (2 ^ 7) by) h in
    record { is = λ left rest. rw (whole_u1 n (ltb-true n 256 p.0), low_byte_16 by p.1) refl; size = refl }
step_again slots ks at _ h = absurd cc

jump_again : (slots : List Slot) (ks : List Known) (at : ℕ) (o : Operand) → is_jump_from at o ≡ true → OperandAgain slots ks at Jump o
unfolding operand_at spell_operand operand_size jump_op
jump_again slots ks at (op.Jump to) h =
    let e : target at (distance at to) ≡ to = eqb-true _ _ h in
    record { is = λ left rest. rw (u2_again (distance at to) rest (omega arith)) (ap (λ (t : ℕ). Ok (op.Jump t, rest)) e); size = refl }
jump_again slots ks at _ h = absurd cc

field_again : (slots : List Slot) (ks : List Known) → Serves ks slots → (at : ℕ) (o : Operand) → is_member o ≡ true → Have ks (operand_uses Field o) → OperandAgain slots ks at Field o
unfolding operand_at spell_operand operand_size field_op spell_member operand_uses member_uses
field_again slots ks s at (op.Member c n d) h u = record { is = λ left rest. rw (index_again ks (KnownField c n d) rest, known_served ks slots s (KnownField c n d) u.1.1.1.1.1.0 refl) refl; size = refl }
field_again slots ks s at _ h u = absurd cc

method_again : (slots : List Slot) (ks : List Known) → Serves ks slots → (at : ℕ) (o : Operand) → is_member o ≡ true → Have ks (operand_uses Method o) → OperandAgain slots ks at Method o
unfolding operand_at spell_operand operand_size method_op spell_member operand_uses member_uses
method_again slots ks s at (op.Member c n d) h u = record { is = λ left rest. rw (index_again ks (KnownMethod c n d) rest, known_served ks slots s (KnownMethod c n d) u.1.1.1.1.1.0 refl) refl; size = refl }
method_again slots ks s at _ h u = absurd cc

interface_again : (slots : List Slot) (ks : List Known) → Serves ks slots → (at : ℕ) (o : Operand) → is_interface_member o ≡ true → Have ks (operand_uses Interface o) → OperandAgain slots ks at Interface o
unfolding operand_at spell_operand operand_size interface_op spell_member operand_uses member_uses
interface_again slots ks s at (op.Member c n d) h u =
    let lt = ltb-true (or_zero (parameter_units d)) 255 h in
    let e : (or_zero (parameter_units d) + 1) % 256 ≡ or_zero (parameter_units d) + 1 = whole_u1 (or_zero (parameter_units d) + 1) (omega (arith, lt)) in
    let q : eqb (or_zero (parameter_units d) + 1) (or_zero (parameter_units d) + 1) ≡ true = eq-eqb _ _ refl in
    record {
      is = λ left rest. rw (e, index_again ks (KnownInterface c n d) ((or_zero (parameter_units d) + 1) ∷ 0 ∷ rest), known_served ks slots s (KnownInterface c n d) u.1.1.1.1.1.0 refl, q) refl;
      size = refl;
    }
interface_again slots ks s at _ h u = absurd cc

class_op_again : (slots : List Slot) (ks : List Known) → Serves ks slots → (at : ℕ) (o : Operand) → is_class_operand o ≡ true → Have ks (operand_uses Class o) → OperandAgain slots ks at Class o
unfolding operand_at spell_operand operand_size class_op operand_uses
class_op_again slots ks s at (op.Class c) h u = record { is = λ left rest. rw (class_again ks slots s c rest u.1.0) refl; size = refl }
class_op_again slots ks s at _ h u = absurd cc

dims_again : (slots : List Slot) (ks : List Known) → Serves ks slots → (at : ℕ) (o : Operand) → is_dims o ≡ true → Have ks (operand_uses Dims o) → OperandAgain slots ks at Dims o
unfolding operand_at spell_operand operand_size dims_op operand_uses
dims_again slots ks s at (op.Dims c zero) h u = absurd cc
dims_again slots ks s at (op.Dims c (suc n)) h u =
    let nz : eqb (suc n) 0 ≡ false = grind arith in
    record { is = λ left rest. rw (class_again ks slots s c (suc n ∷ rest) u.1.0, nz) refl; size = refl }
dims_again slots ks s at _ h u = absurd cc

-- ---- lookupswitch

zeros_again : (n : ℕ) (rest : List ℕ) → zeros_at n (replicate n 0 ++ rest) ≡ Ok (0, rest)
unfolding zeros_at
zeros_again zero rest = refl
zeros_again (suc n) rest = zeros_again n rest

-- a place of four bytes is reached
reached : (at to : ℕ) → at < 2 ^ 32 → to < 2 ^ 32 → wide_target at (wide_distance at to) ≡ to
reached at to lt le = omega arith

cases_again : (at : ℕ) (before : Option ℤ) (cs : List SwitchCase) (rest : List ℕ) → at < 2 ^ 32 → cases_ascend before cs ≡ true → list_all (λ (c : SwitchCase). ltb c.at (2 ^ 32)) cs ≡ true
    → cases_at (length cs) at before (flat_map (spell_case at) cs ++ rest) ≡ Ok (cs, rest)
unfolding cases_at case_at cases_ascend spell_case
cases_again at before [] rest la h l = refl
cases_again at before (c ∷ cs) rest la h l =
    let p = and_parts (is_signed (2 ^ 31) c.key && is_above before c.key) (cases_ascend (Some (c.key)) cs) h in
    let q = and_parts (is_signed (2 ^ 31) c.key) (is_above before c.key) p.0 in
    let m = and_parts (ltb c.at (2 ^ 32)) (list_all (λ (x : SwitchCase). ltb x.at (2 ^ 32)) cs) l in
    let tail = flat_map (spell_case at) cs ++ rest in
    let key = to_be_bytes w32 (cast_unsigned w32 c.key) in
    let way = to_be_bytes w32 (wide_distance at c.at) in
    rw (u4_again (cast_unsigned w32 c.key) (way ++ tail) (unsigned32 c.key q.0), signed32 c.key q.0, q.1, u4_again (wide_distance at c.at) tail (omega arith), reached at c.at la (ltb-true c.at (2 ^ 32) m.0), cases_again at (Some (c.key)) cs rest la p.1 m.1) refl

length_cases : (at : ℕ) (cs : List SwitchCase) → length (flat_map (spell_case at) cs) ≡ 8 * length cs
unfolding spell_case
length_cases at [] = refl
length_cases at (c ∷ cs) = omega (arith, length-append (spell_case at c) (flat_map (spell_case at) cs), length_cases at cs)

-- each place that a switch names has four bytes
abbrev pub Reaches : Operand → Type 0
Reaches (op.Switch otherwise cases) = (otherwise < 2 ^ 32) × (list_all (λ (c : SwitchCase). ltb c.at (2 ^ 32)) cases ≡ true)
Reaches _ = Unit {0}

switch_again : (slots : List Slot) (ks : List Known) (at : ℕ) (o : Operand) → at < 2 ^ 32 → is_switch o ≡ true → Reaches o → OperandAgain slots ks at Switch o
unfolding operand_at spell_operand operand_size switch_op spell_switch
switch_again slots ks at (op.Switch otherwise cases) la h r =
    let p = and_parts (ltb (length cases) (2 ^ 31)) (cases_ascend None cases) h in
    let few = ltb-true (length cases) (2 ^ 31) p.0 in
    let e : length cases % 2 ^ 32 ≡ length cases = omega (arith, few) in
    let body = flat_map (spell_case at) cases in
    let zs = replicate (padding at) 0 in
    let way = to_be_bytes w32 (wide_distance at otherwise) in
    let count = to_be_bytes w32 (length cases) in
    record {
      is = λ left rest.
          let regrouped : (zs ++ (way ++ (count ++ body))) ++ rest ≡ zs ++ (way ++ (count ++ (body ++ rest))) = simp append_assoc in
          rw (e, regrouped, zeros_again (padding at) (way ++ (count ++ (body ++ rest))), u4_again (wide_distance at otherwise) (count ++ (body ++ rest)) (omega arith), u4_again (length cases) (body ++ rest) (omega (arith, few)), p.0, cases_again at None cases rest la p.1 r.1, reached at otherwise la r.0) refl;
      size = omega (arith, length-append zs (way ++ (to_be_bytes w32 (length cases % 2 ^ 32) ++ body)), length-append way (to_be_bytes w32 (length cases % 2 ^ 32) ++ body), length-append (to_be_bytes w32 (length cases % 2 ^ 32)) body, length_cases at cases, length-replicate {A = ℕ} (padding at) 0);
    }
switch_again slots ks at _ la h r = absurd cc

-- ---- all of them

pub operand_again : (slots : List Slot) (ks : List Known) → Serves ks slots → (at : ℕ) (k : Kind) (o : Operand) → at < 2 ^ 32 → operand_fits at k o ≡ true → Have ks (operand_uses k o) → (is_load k ≡ true → Low ks (first_uses o)) → Reaches o → OperandAgain slots ks at k o
unfolding operand_fits
operand_again slots ks s at Plain o la h u l r = plain_again slots ks at o h
operand_again slots ks s at Byte o la h u l r = byte_again slots ks at o h
operand_again slots ks s at Short o la h u l r = short_again slots ks at o h
operand_again slots ks s at ArrayOf o la h u l r = array_again slots ks at o h
operand_again slots ks s at Load o la h u l r = load_again slots ks s at o h u (l refl)
operand_again slots ks s at LoadWide o la h u l r = load_wide_again slots ks s at o h u
operand_again slots ks s at LoadLong o la h u l r = load_long_again slots ks s at o h u
operand_again slots ks s at Local o la h u l r = local_again slots ks at o h
operand_again slots ks s at Step o la h u l r = step_again slots ks at o h
operand_again slots ks s at Jump o la h u l r = jump_again slots ks at o h
operand_again slots ks s at Switch o la h u l r = switch_again slots ks at o la h r
operand_again slots ks s at Field o la h u l r = field_again slots ks s at o h u
operand_again slots ks s at Method o la h u l r = method_again slots ks s at o h u
operand_again slots ks s at Interface o la h u l r = interface_again slots ks s at o h u
operand_again slots ks s at Class o la h u l r = class_op_again slots ks s at o h u
operand_again slots ks s at Dims o la h u l r = dims_again slots ks s at o h u
operand_again slots ks s at Unknown o la h u l r = absurd cc

wide_operand_again : (left : ℕ) (k : Kind) (o : Operand) (rest : List ℕ) → wide_fits k o ≡ true → wide_operand_at left k (spell_wide o ++ rest) ≡ Ok (o, rest)
unfolding wide_fits wide_operand_at spell_wide
wide_operand_again left Local (op.Local n) rest h = rw (u2_again n rest (ltb-true n 65536 h)) refl
wide_operand_again left Step (op.Step n by) rest h =
    let p = and_parts (ltb n 65536) (is_signed (2 ^ 15) by) h in
    rw (u2_again n (to_be_bytes w16 (cast_unsigned w16 by) ++ rest) (ltb-true n 65536 p.0), u2_again (cast_unsigned w16 by) rest (unsigned16 by p.1), signed16 by p.1) refl
wide_operand_again left _ _ rest h = absurd cc

wide_length : (k : Kind) (o : Operand) → wide_fits k o ≡ true → length (spell_wide o) ≡ wide_size o
unfolding wide_fits spell_wide
wide_length Local (op.Local n) h = refl
wide_length Step (op.Step n by) h = refl
wide_length _ _ h = absurd cc

pub record InsAgain (slots : List Slot) (ks : List Known) (at : ℕ) (i : Ins) : Type 0 where
  pub is : (rest : List ℕ) → ins_at slots at (spell_ins ks at i ++ rest) ≡ Ok (i, rest)
  pub size : length (spell_ins ks at i) ≡ ins_size at i

with_wide : (i : Ins) (b : Bool) → i.wide ≡ b → record { code = i.code; wide = b; operand = i.operand } ≡ i
with_wide i b e = rw (← e) refl

abbrev done : Ins → List ℕ → Result (Ins × List ℕ) Flaw
done i rest = Ok (i, rest)

same_ins : (i : Ins) (b : Bool) (rest : List ℕ) → i.wide ≡ b → done (record { code = i.code; wide = b; operand = i.operand }) rest ≡ done i rest
same_ins i b rest e = ap (λ (x : Ins). done x rest) (with_wide i b e)

ins_by : (slots : List Slot) (ks : List Known) → Serves ks slots → (at : ℕ) (i : Ins) (b : Bool) → i.wide ≡ b → at < 2 ^ 32 → ins_fits at i ≡ true → Have ks (ins_uses i) → Low ks (ins_first_uses i) → Reaches i.operand → InsAgain slots ks at i
unfolding ins_fits ins_at spell_ins wide_at narrow_at ins_first_uses
ins_by slots ks s at i true e la h u l r =
    let f : (is_u8 i.code && wide_fits (kind_of i.code) i.operand) ≡ true = subst (λ (b : Bool). cond b (is_u8 i.code && wide_fits (kind_of i.code) i.operand) (is_u8 i.code && (not (eqb i.code 0xc4) && operand_fits at (kind_of i.code) i.operand)) ≡ true) e h in
    let p = and_parts (is_u8 i.code) (wide_fits (kind_of i.code) i.operand) f in
    record {
      is = λ rest.
          let a : spell_ins ks at i ≡ 0xc4 ∷ i.code ∷ spell_wide i.operand = rw e refl in
          let b : ins_at slots at ((0xc4 ∷ i.code ∷ spell_wide i.operand) ++ rest) ≡ done (record { code = i.code; wide = true; operand = i.operand }) rest =
          rw (wide_operand_again (length (i.code ∷ (spell_wide i.operand ++ rest))) (kind_of i.code) i.operand rest p.1) refl in
          ap (λ (x : List ℕ). ins_at slots at (x ++ rest)) a ∙ b ∙ same_ins i true rest e;
      size = rw (e) (omega (arith, wide_length (kind_of i.code) i.operand p.1));
    }
ins_by slots ks s at i false e la h u l r =
    let f : (is_u8 i.code && (not (eqb i.code 0xc4) && operand_fits at (kind_of i.code) i.operand)) ≡ true = subst (λ (b : Bool). cond b (is_u8 i.code && wide_fits (kind_of i.code) i.operand) (is_u8 i.code && (not (eqb i.code 0xc4) && operand_fits at (kind_of i.code) i.operand)) ≡ true) e h in
    let p = and_parts (is_u8 i.code) (not (eqb i.code 0xc4) && operand_fits at (kind_of i.code) i.operand) f in
    let q = and_parts (not (eqb i.code 0xc4)) (operand_fits at (kind_of i.code) i.operand) p.1 in
    let n : eqb i.code 0xc4 ≡ false = not-true (eqb i.code 0xc4) q.0 in
    let o = operand_again slots ks s at (kind_of i.code) i.operand la q.1 u (λ t. subst (λ (b : Bool). Low ks (cond b (first_uses i.operand) [])) t l) r in
    record {
      is = λ rest.
          let a : spell_ins ks at i ≡ i.code ∷ spell_operand ks at (kind_of i.code) i.operand = rw e refl in
          let b : ins_at slots at ((i.code ∷ spell_operand ks at (kind_of i.code) i.operand) ++ rest) ≡ done (record { code = i.code; wide = false; operand = i.operand }) rest =
          rw (n, o.is (length (i.code ∷ (spell_operand ks at (kind_of i.code) i.operand ++ rest))) rest) refl in
          ap (λ (x : List ℕ). ins_at slots at (x ++ rest)) a ∙ b ∙ same_ins i false rest e;
      size = rw (e) (omega (arith, o.size));
    }

pub ins_again : (slots : List Slot) (ks : List Known) → Serves ks slots → (at : ℕ) (i : Ins) → at < 2 ^ 32 → ins_fits at i ≡ true → Have ks (ins_uses i) → Low ks (ins_first_uses i) → Reaches i.operand → InsAgain slots ks at i
ins_again slots ks s at i la h u l r = ins_by slots ks s at i i.wide refl la h u l r
