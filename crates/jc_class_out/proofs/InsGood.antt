-- What holds of indices, operands and instructions that were read.
use Rattle.std.proofs.Common.{◌≡◌, ◌<◌, ◌^◌, ℕ, zero, suc, ◌+◌, ◌-◌, ◌*◌, ◌%◌, ℤ, pos, Bool, true, false, cond, ltb, eqb, List, [], ◌∷◌, length, Option, Some, None, Ok, refl, sym, ap, subst, ◌∙◌, arith}
use Rattle.std.specs.Prelude.{◌&&◌, not, nat_lt}
use Rattle.std.specs.Int.{w8, w16, w32, cast_signed}
use Rattle.std.specs.List.{AllByRecursion}
use Rattle.std.proofs.lemmas.Bool.{ltb-true, ltb-false, eqb-true, eq-eqb, eqb-false, lt-ltb, not-true}
use Rattle.jc_class_out.specs.declared.format.Flaw.{Flaw}
use Rattle.jc_class_out.specs.declared.format.Flaw.TheVariants as flaw
use Rattle.jc_class_out.specs.declared.format.Kind.{Kind}
use Rattle.jc_class_out.specs.declared.format.Kind.TheVariants.{Plain, Byte, Short, ArrayOf, Load, LoadWide, LoadLong, Local, Step, Jump, Switch, Field, Method, Interface, Class, Dims, Unknown}
use Rattle.jc_class_out.specs.declared.format.Slot.{Slot}
use Rattle.jc_class_out.specs.declared.model.Ins.{Ins}
use Rattle.jc_class_out.specs.declared.model.Loaded.{Loaded}
use Rattle.jc_class_out.specs.declared.model.Loaded.TheVariants as loaded
use Rattle.jc_class_out.specs.declared.model.Operand.{Operand}
use Rattle.jc_class_out.specs.declared.model.Operand.TheVariants as op
use Rattle.jc_class_out.specs.declared.model.SwitchCase.{SwitchCase}
use Rattle.jc_class_out.specs.Reading.{◌>>=◌, or_flaw, wants, u8_at, number_at}
use Rattle.jc_class_out.specs.Descriptors.{parameter_units, or_zero}
use Rattle.jc_class_out.specs.Pool.{Known, KnownText, KnownWhole, KnownLong, KnownLiteral, KnownField, KnownMethod, KnownInterface, text_of, class_of, known_of, named_at, class_named_at, class_or_none_at, name_or_none_at, descriptor_at}
use Rattle.jc_class_out.specs.Instructions.{is_array_code, kind_of, target, wide_target, loaded_by, loaded_long_by, field_by, method_by, interface_by, load_op, load_wide_op, load_long_op, field_op, method_op, interface_op, class_op, dims_op, byte_op, short_op, array_op, local_op, step_op, jump_op, padding, zeros_at, is_above, case_at, cases_at, switch_op, operand_at, wide_operand_at, wide_at, narrow_at, ins_at, operand_size, wide_size, ins_size}
use Rattle.jc_class_out.specs.Spelling.{class_uses, class_or_none_uses, name_or_none_uses, loaded_known, loaded_uses, first_loaded, operand_uses, ins_uses, first_uses, ins_first_uses, is_load, distance}
use Rattle.jc_class_out.specs.Fitting.{is_u8, is_signed, is_loaded, cases_ascend, operand_fits, wide_fits, ins_fits}
use Rattle.jc_class_out.proofs.Good.{Good, good_ok, good_err, good_bind, good_more, good_if, good_wants, good_flaw, Ranged, Got, Numbered, Reads, u1_good, u2_good, u4_good}
use Rattle.jc_class_out.proofs.PoolGood.{PoolOk, signed8_good, signed16_good, signed32_good}
use Rattle.jc_class_out.proofs.Stands.{StandsBelow, Stand, text_stands, class_stands, known_stands, known_stands_at, field_stands, method_stands, interface_stands, literal_stands, long_stands}

-- ---- indices

-- the constants that it uses stand in the pool, and it took so many bytes
abbrev pub Uses : {A : Type 0} → List Slot → (A → List Known) → ℕ → A → ℕ → Type 0
Uses pool uses size x n = Stand pool (uses x) × (n ≡ size)

abbrev pub text_uses : List ℕ → List Known
text_uses t = KnownText t ∷ []

pub named_good : (pool : List Slot) → Reads (Uses pool text_uses 2) (named_at pool)
unfolding named_at
named_good pool bytes r =
    let Q : List ℕ × List ℕ → Type 0 = Got (Uses pool text_uses 2) bytes in
    good_bind (Got (Numbered 65536 2) bytes) Q (number_at w16 bytes) _ (u2_good bytes r)
    (λ i pi. good_bind (λ (t : List ℕ). text_of pool i.0 ≡ Some t) Q (or_flaw (text_of pool i.0) (flaw.Index (length bytes))) _ (good_flaw (text_of pool i.0) (flaw.Index (length bytes)))
    (λ t e. good_ok Q (t, i.1) (record { n = pi.n; of = ((text_stands pool i.0 t e, tt), pi.of.1); took = pi.took; ranged = pi.ranged })))

pub class_named_good : (pool : List Slot) → Reads (Uses pool class_uses 2) (class_named_at pool)
unfolding class_named_at
class_named_good pool bytes r =
    let Q : List ℕ × List ℕ → Type 0 = Got (Uses pool class_uses 2) bytes in
    good_bind (Got (Numbered 65536 2) bytes) Q (number_at w16 bytes) _ (u2_good bytes r)
    (λ i pi. good_bind (λ (t : List ℕ). class_of pool i.0 ≡ Some t) Q (or_flaw (class_of pool i.0) (flaw.Index (length bytes))) _ (good_flaw (class_of pool i.0) (flaw.Index (length bytes)))
    (λ t e. good_ok Q (t, i.1) (record { n = pi.n; of = (class_stands pool i.0 t e, pi.of.1); took = pi.took; ranged = pi.ranged })))

pub class_or_none_good : (pool : List Slot) → Reads (Uses pool class_or_none_uses 2) (class_or_none_at pool)
unfolding class_or_none_at
class_or_none_good pool bytes r =
    let Q : Option (List ℕ) × List ℕ → Type 0 = Got (Uses pool class_or_none_uses 2) bytes in
    good_bind (Got (Numbered 65536 2) bytes) Q (number_at w16 bytes) _ (u2_good bytes r)
    (λ i pi. good_if Q (eqb i.0 0) _ _ (λ h. good_ok Q (None, i.1) (record { n = pi.n; of = (tt, pi.of.1); took = pi.took; ranged = pi.ranged }))
    (λ h. good_bind (λ (t : List ℕ). class_of pool i.0 ≡ Some t) Q (or_flaw (class_of pool i.0) (flaw.Index (length bytes))) _ (good_flaw (class_of pool i.0) (flaw.Index (length bytes)))
    (λ t e. good_ok Q (Some t, i.1) (record { n = pi.n; of = (class_stands pool i.0 t e, pi.of.1); took = pi.took; ranged = pi.ranged }))))

pub name_or_none_good : (pool : List Slot) → Reads (Uses pool name_or_none_uses 2) (name_or_none_at pool)
unfolding name_or_none_at
name_or_none_good pool bytes r =
    let Q : Option (List ℕ) × List ℕ → Type 0 = Got (Uses pool name_or_none_uses 2) bytes in
    good_bind (Got (Numbered 65536 2) bytes) Q (number_at w16 bytes) _ (u2_good bytes r)
    (λ i pi. good_if Q (eqb i.0 0) _ _ (λ h. good_ok Q (None, i.1) (record { n = pi.n; of = (tt, pi.of.1); took = pi.took; ranged = pi.ranged }))
    (λ h. good_bind (λ (t : List ℕ). text_of pool i.0 ≡ Some t) Q (or_flaw (text_of pool i.0) (flaw.Index (length bytes))) _ (good_flaw (text_of pool i.0) (flaw.Index (length bytes)))
    (λ t e. good_ok Q (Some t, i.1) (record { n = pi.n; of = ((text_stands pool i.0 t e, tt), pi.of.1); took = pi.took; ranged = pi.ranged }))))

-- a descriptor that passed the test
abbrev pub Tested : List Slot → (List ℕ → Bool) → List ℕ → ℕ → Type 0
Tested pool test t n = Stand pool (text_uses t) × (test t ≡ true) × (n ≡ 2)

pub descriptor_good : (pool : List Slot) (test : List ℕ → Bool) → Reads (Tested pool test) (descriptor_at test pool)
unfolding descriptor_at
descriptor_good pool test bytes r =
    let Q : List ℕ × List ℕ → Type 0 = Got (Tested pool test) bytes in
    good_bind (Got (Uses pool text_uses 2) bytes) Q (named_at pool bytes) _ (named_good pool bytes r)
    (λ t pt. good_if Q (test t.0) _ _ (λ h. good_ok Q t (record { n = pt.n; of = (pt.of.0, h, pt.of.1); took = pt.took; ranged = pt.ranged })) (λ h. good_err Q (flaw.Index (length bytes))))

-- ---- operands

-- the constants that ldc loads, by a number of one byte
abbrev pub Low : List Slot → List Known → Type 0
Low pool ks = AllByRecursion (StandsBelow pool 255) ks

pub record OperandOk (pool : List Slot) (at : ℕ) (k : Kind) (o : Operand) (n : ℕ) : Type 0 where
  pub fits : operand_fits at k o ≡ true
  pub size : n ≡ operand_size at k o
  pub uses : Stand pool (operand_uses k o)
  pub loads : Low pool (cond (is_load k) (first_uses o) [])

abbrev OperandRead : List Slot → ℕ → Kind → List ℕ → Operand × List ℕ → Type 0
OperandRead pool at k bytes = Got (OperandOk pool at k) bytes

one_byte : (pool : List Slot) (at : ℕ) (k : Kind) (bytes : List ℕ) → Ranged bytes → (make : ℕ → Operand) → ((n : ℕ) → n < 256 → OperandOk pool at k (make n) 1) → Good (OperandRead pool at k bytes) (u8_at bytes >>= λ n. Ok (make n.0, n.1))
one_byte pool at k bytes r make h =
    good_bind (Got (Numbered 256 1) bytes) (OperandRead pool at k bytes) (u8_at bytes) _ (u1_good bytes r)
    (λ n pn. good_ok (OperandRead pool at k bytes) (make n.0, n.1) (record { n = 1; of = h n.0 pn.of.0; took = omega (arith, pn.took, pn.of.1); ranged = pn.ranged }))

two_bytes : (pool : List Slot) (at : ℕ) (k : Kind) (bytes : List ℕ) → Ranged bytes → (make : ℕ → Operand) → ((n : ℕ) → n < 65536 → OperandOk pool at k (make n) 2) → Good (OperandRead pool at k bytes) (number_at w16 bytes >>= λ n. Ok (make n.0, n.1))
two_bytes pool at k bytes r make h =
    good_bind (Got (Numbered 65536 2) bytes) (OperandRead pool at k bytes) (number_at w16 bytes) _ (u2_good bytes r)
    (λ n pn. good_ok (OperandRead pool at k bytes) (make n.0, n.1) (record { n = 2; of = h n.0 pn.of.0; took = omega (arith, pn.took, pn.of.1); ranged = pn.ranged }))

byte_good : (pool : List Slot) (at : ℕ) (bytes : List ℕ) → Ranged bytes → Good (OperandRead pool at Byte bytes) (byte_op bytes)
unfolding byte_op operand_fits operand_size operand_uses
byte_good pool at bytes r = one_byte pool at Byte bytes r (λ n. op.Number (cast_signed w8 n)) (λ n lt. record { fits = signed8_good n lt; size = refl; uses = tt; loads = tt })

short_good : (pool : List Slot) (at : ℕ) (bytes : List ℕ) → Ranged bytes → Good (OperandRead pool at Short bytes) (short_op bytes)
unfolding short_op operand_fits operand_size operand_uses
short_good pool at bytes r = two_bytes pool at Short bytes r (λ n. op.Number (cast_signed w16 n)) (λ n lt. record { fits = signed16_good n lt; size = refl; uses = tt; loads = tt })

array_good : (pool : List Slot) (at : ℕ) (bytes : List ℕ) → Ranged bytes → Good (OperandRead pool at ArrayOf bytes) (array_op bytes)
unfolding array_op operand_fits operand_size operand_uses
array_good pool at bytes r =
    let Q = OperandRead pool at ArrayOf bytes in
    good_bind (Got (Numbered 256 1) bytes) (OperandRead pool at ArrayOf bytes) (u8_at bytes) _ (u1_good bytes r)
    (λ n pn. good_if (OperandRead pool at ArrayOf bytes) (is_array_code n.0) _ _
    (λ h. good_ok (OperandRead pool at ArrayOf bytes) (op.Number (pos n.0), n.1) (record { n = 1; of = record { fits = h; size = refl; uses = tt; loads = tt }; took = omega (arith, pn.took, pn.of.1); ranged = pn.ranged }))
    (λ h. good_err (OperandRead pool at ArrayOf bytes) (flaw.Tag (length bytes))))

local_good : (pool : List Slot) (at : ℕ) (bytes : List ℕ) → Ranged bytes → Good (OperandRead pool at Local bytes) (local_op bytes)
unfolding local_op operand_fits operand_size operand_uses
local_good pool at bytes r = one_byte pool at Local bytes r (λ n. op.Local n) (λ n lt. record { fits = lt-ltb n 256 lt; size = refl; uses = tt; loads = tt })

step_good : (pool : List Slot) (at : ℕ) (bytes : List ℕ) → Ranged bytes → Good (OperandRead pool at Step bytes) (step_op bytes)
unfolding step_op operand_fits operand_size operand_uses
step_good pool at bytes r =
    good_bind (Got (Numbered 256 1) bytes) (OperandRead pool at Step bytes) (u8_at bytes) _ (u1_good bytes r)
    (λ n pn. good_bind (Got (Numbered 256 1) n.1) (OperandRead pool at Step bytes) (u8_at n.1) _ (u1_good n.1 pn.ranged)
    (λ by pb. good_ok (OperandRead pool at Step bytes) (op.Step n.0 (cast_signed w8 by.0), by.1)
    (record { n = 2; of = record { fits = rw (lt-ltb n.0 256 pn.of.0) (signed8_good by.0 pb.of.0); size = refl; uses = tt; loads = tt }; took = omega (arith, pn.took, pn.of.1, pb.took, pb.of.1); ranged = pb.ranged })))

-- the number of a jump is told by where it goes
way_back_by : (at by : ℕ) (b : Bool) → at < 2 ^ 32 → by < 65536 → ltb by 32768 ≡ b → distance at (cond b ((at + by) % 2 ^ 32) ((at + by + (2 ^ 32 - 65536)) % 2 ^ 32)) ≡ by
way_back_by at by true la lb h = omega (arith, la, lb, ltb-true by 32768 h)
way_back_by at by false la lb h = omega (arith, la, lb, ltb-false by 32768 h)

way_back : (at by : ℕ) → at < 2 ^ 32 → by < 65536 → distance at (target at by) ≡ by
way_back at by la lb = way_back_by at by (ltb by 32768) la lb refl

jump_good : (pool : List Slot) (at : ℕ) → at < 2 ^ 32 → (bytes : List ℕ) → Ranged bytes → Good (OperandRead pool at Jump bytes) (jump_op at bytes)
unfolding jump_op operand_fits operand_size operand_uses
jump_good pool at la bytes r = two_bytes pool at Jump bytes r (λ n. op.Jump (target at n)) (λ n lt. record { fits = eq-eqb _ _ (ap (target at) (way_back at n la lt)); size = refl; uses = tt; loads = tt })

-- ---- constants that are loaded

-- it is what the entry means
record LoadedIs (o : Option Known) (wide : Bool) (l : Loaded) : Type 0 where
  short : is_loaded l ≡ wide
  is : o ≡ Some (loaded_known l)

loaded_good : (o : Option Known) (e : Flaw) → Good (LoadedIs o true) (loaded_by o e)
loaded_good (Some (KnownWhole n)) e = good_ok (LoadedIs (Some (KnownWhole n)) true) (loaded.Whole n) (record { short = refl; is = refl })
loaded_good (Some (KnownLiteral t)) e = good_ok (LoadedIs (Some (KnownLiteral t)) true) (loaded.Text t) (record { short = refl; is = refl })
loaded_good (Some _) e = good_err _ e
loaded_good None e = good_err (LoadedIs None true) e

loaded_long_good : (o : Option Known) (e : Flaw) → Good (LoadedIs o false) (loaded_long_by o e)
loaded_long_good (Some (KnownLong n)) e = good_ok (LoadedIs (Some (KnownLong n)) false) (loaded.Long n) (record { short = refl; is = refl })
loaded_long_good (Some _) e = good_err _ e
loaded_long_good None e = good_err (LoadedIs None false) e

loaded_stands : (pool : List Slot) → PoolOk pool → (i : ℕ) (l : Loaded) → known_of pool i ≡ Some (loaded_known l) → Stand pool (loaded_uses l)
loaded_stands pool ok i (loaded.Whole n) h = (known_stands pool i (KnownWhole n) h, tt)
loaded_stands pool ok i (loaded.Text t) h = literal_stands pool i t h
loaded_stands pool ok i (loaded.Long n) h = long_stands pool ok i n h

below_255 : (pool : List Slot) (i : ℕ) (k : Known) → i < 256 → known_of pool i ≡ Some k → StandsBelow pool 255 k
below_255 pool i k lt h = let p = known_stands_at pool i k h in (p.0, omega (arith, lt, p.1), p.3)

loaded_low : (pool : List Slot) (i : ℕ) (l : Loaded) → i < 256 → is_loaded l ≡ true → known_of pool i ≡ Some (loaded_known l) → Low pool (first_loaded l)
loaded_low pool i (loaded.Whole n) lt s h = (below_255 pool i (KnownWhole n) lt h, tt)
loaded_low pool i (loaded.Text t) lt s h = (below_255 pool i (KnownLiteral t) lt h, tt)
loaded_low pool i (loaded.Long n) lt s h = absurd cc

load_good : (pool : List Slot) → PoolOk pool → (at : ℕ) (bytes : List ℕ) → Ranged bytes → Good (OperandRead pool at Load bytes) (load_op pool bytes)
unfolding load_op operand_fits operand_size operand_uses
load_good pool ok at bytes r =
    good_bind (Got (Numbered 256 1) bytes) (OperandRead pool at Load bytes) (u8_at bytes) _ (u1_good bytes r)
    (λ i pi. good_bind (LoadedIs (known_of pool i.0) true) (OperandRead pool at Load bytes) (loaded_by (known_of pool i.0) (flaw.Index (length bytes))) _ (loaded_good (known_of pool i.0) (flaw.Index (length bytes)))
    (λ l pl. good_ok (OperandRead pool at Load bytes) (op.Load l, i.1)
    (record { n = 1; of = record { fits = pl.short; size = refl; uses = loaded_stands pool ok i.0 l pl.is; loads = loaded_low pool i.0 l pi.of.0 pl.short pl.is }; took = omega (arith, pi.took, pi.of.1); ranged = pi.ranged })))

load_wide_good : (pool : List Slot) → PoolOk pool → (at : ℕ) (bytes : List ℕ) → Ranged bytes → Good (OperandRead pool at LoadWide bytes) (load_wide_op pool bytes)
unfolding load_wide_op operand_fits operand_size operand_uses
load_wide_good pool ok at bytes r =
    good_bind (Got (Numbered 65536 2) bytes) (OperandRead pool at LoadWide bytes) (number_at w16 bytes) _ (u2_good bytes r)
    (λ i pi. good_bind (LoadedIs (known_of pool i.0) true) (OperandRead pool at LoadWide bytes) (loaded_by (known_of pool i.0) (flaw.Index (length bytes))) _ (loaded_good (known_of pool i.0) (flaw.Index (length bytes)))
    (λ l pl. good_ok (OperandRead pool at LoadWide bytes) (op.Load l, i.1)
    (record { n = 2; of = record { fits = pl.short; size = refl; uses = loaded_stands pool ok i.0 l pl.is; loads = tt }; took = omega (arith, pi.took, pi.of.1); ranged = pi.ranged })))

load_long_good : (pool : List Slot) → PoolOk pool → (at : ℕ) (bytes : List ℕ) → Ranged bytes → Good (OperandRead pool at LoadLong bytes) (load_long_op pool bytes)
unfolding load_long_op operand_fits operand_size operand_uses
load_long_good pool ok at bytes r =
    good_bind (Got (Numbered 65536 2) bytes) (OperandRead pool at LoadLong bytes) (number_at w16 bytes) _ (u2_good bytes r)
    (λ i pi. good_bind (LoadedIs (known_of pool i.0) false) (OperandRead pool at LoadLong bytes) (loaded_long_by (known_of pool i.0) (flaw.Index (length bytes))) _ (loaded_long_good (known_of pool i.0) (flaw.Index (length bytes)))
    (λ l pl. good_ok (OperandRead pool at LoadLong bytes) (op.Load l, i.1)
    (record { n = 2; of = record { fits = ap not pl.short; size = refl; uses = loaded_stands pool ok i.0 l pl.is; loads = tt }; took = omega (arith, pi.took, pi.of.1); ranged = pi.ranged })))

-- ---- members and classes

-- the member that an entry means
record MemberOf (known : List ℕ → List ℕ → List ℕ → Known) (o : Option Known) (x : Operand) : Type 0 where
  class : List ℕ
  name : List ℕ
  descriptor : List ℕ
  is : o ≡ Some (known class name descriptor)
  so : x ≡ op.Member class name descriptor

field_by_good : (o : Option Known) (e : Flaw) → Good (MemberOf KnownField o) (field_by o e)
field_by_good (Some (KnownField c n d)) e = good_ok (MemberOf KnownField (Some (KnownField c n d))) (op.Member c n d) (record { class = c; name = n; descriptor = d; is = refl; so = refl })
field_by_good (Some _) e = good_err _ e
field_by_good None e = good_err (MemberOf KnownField None) e

method_by_good : (o : Option Known) (e : Flaw) → Good (MemberOf KnownMethod o) (method_by o e)
method_by_good (Some (KnownMethod c n d)) e = good_ok (MemberOf KnownMethod (Some (KnownMethod c n d))) (op.Member c n d) (record { class = c; name = n; descriptor = d; is = refl; so = refl })
method_by_good (Some _) e = good_err _ e
method_by_good None e = good_err (MemberOf KnownMethod None) e

-- with the units of its parameters
abbrev InterfaceOf : Option Known → Operand × ℕ → Type 0
InterfaceOf o x = (m : MemberOf KnownInterface o x.0) × (x.1 ≡ or_zero (parameter_units (m.descriptor)))

interface_by_good : (o : Option Known) (e : Flaw) → Good (InterfaceOf o) (interface_by o e)
interface_by_good (Some (KnownInterface c n d)) e = good_ok (InterfaceOf (Some (KnownInterface c n d))) (op.Member c n d, or_zero (parameter_units d)) (record { class = c; name = n; descriptor = d; is = refl; so = refl }, refl)
interface_by_good (Some _) e = good_err _ e
interface_by_good None e = good_err (InterfaceOf None) e

field_ok : (pool : List Slot) (at i : ℕ) (x : Operand) → MemberOf KnownField (known_of pool i) x → OperandOk pool at Field x 2
unfolding operand_fits operand_size operand_uses
field_ok pool at i x m =
    subst (λ (y : Operand). OperandOk pool at Field y 2) (sym m.so) (record { fits = refl; size = refl; uses = field_stands pool i m.class m.name m.descriptor m.is; loads = tt })

method_ok : (pool : List Slot) (at i : ℕ) (x : Operand) → MemberOf KnownMethod (known_of pool i) x → OperandOk pool at Method x 2
unfolding operand_fits operand_size operand_uses
method_ok pool at i x m =
    subst (λ (y : Operand). OperandOk pool at Method y 2) (sym m.so) (record { fits = refl; size = refl; uses = method_stands pool i m.class m.name m.descriptor m.is; loads = tt })

interface_ok : (pool : List Slot) (at i : ℕ) (x : Operand) (m : MemberOf KnownInterface (known_of pool i) x) → or_zero (parameter_units (m.descriptor)) < 255 → OperandOk pool at Interface x 4
unfolding operand_fits operand_size operand_uses
interface_ok pool at i x m lt =
    subst (λ (y : Operand). OperandOk pool at Interface y 4) (sym m.so) (record { fits = lt-ltb _ _ lt; size = refl; uses = interface_stands pool i m.class m.name m.descriptor m.is; loads = tt })

field_good : (pool : List Slot) (at : ℕ) (bytes : List ℕ) → Ranged bytes → Good (OperandRead pool at Field bytes) (field_op pool bytes)
unfolding field_op
field_good pool at bytes r =
    good_bind (Got (Numbered 65536 2) bytes) (OperandRead pool at Field bytes) (number_at w16 bytes) _ (u2_good bytes r)
    (λ i pi. good_bind (MemberOf KnownField (known_of pool i.0)) (OperandRead pool at Field bytes) (field_by (known_of pool i.0) (flaw.Index (length bytes))) _ (field_by_good (known_of pool i.0) (flaw.Index (length bytes)))
    (λ o po. good_ok (OperandRead pool at Field bytes) (o, i.1) (record { n = 2; of = field_ok pool at i.0 o po; took = omega (arith, pi.took, pi.of.1); ranged = pi.ranged })))

method_good : (pool : List Slot) (at : ℕ) (bytes : List ℕ) → Ranged bytes → Good (OperandRead pool at Method bytes) (method_op pool bytes)
unfolding method_op
method_good pool at bytes r =
    good_bind (Got (Numbered 65536 2) bytes) (OperandRead pool at Method bytes) (number_at w16 bytes) _ (u2_good bytes r)
    (λ i pi. good_bind (MemberOf KnownMethod (known_of pool i.0)) (OperandRead pool at Method bytes) (method_by (known_of pool i.0) (flaw.Index (length bytes))) _ (method_by_good (known_of pool i.0) (flaw.Index (length bytes)))
    (λ o po. good_ok (OperandRead pool at Method bytes) (o, i.1) (record { n = 2; of = method_ok pool at i.0 o po; took = omega (arith, pi.took, pi.of.1); ranged = pi.ranged })))

few_units : (count units told : ℕ) → count < 256 → eqb count (told + 1) ≡ true → told ≡ units → units < 255
few_units count units told lt h e = omega (arith, lt, eqb-true count (told + 1) h, e)

interface_good : (pool : List Slot) (at : ℕ) (bytes : List ℕ) → Ranged bytes → Good (OperandRead pool at Interface bytes) (interface_op pool bytes)
unfolding interface_op
interface_good pool at bytes r =
    let Q : Operand × List ℕ → Type 0 = OperandRead pool at Interface bytes in
    good_bind (Got (Numbered 65536 2) bytes) Q (number_at w16 bytes) _ (u2_good bytes r)
    (λ i pi. good_bind (InterfaceOf (known_of pool i.0)) Q (interface_by (known_of pool i.0) (flaw.Index (length bytes))) _ (interface_by_good (known_of pool i.0) (flaw.Index (length bytes)))
    (λ o po. good_bind (Got (Numbered 256 1) i.1) Q (u8_at i.1) _ (u1_good i.1 pi.ranged)
    (λ c pc. good_bind (λ (k : ℕ). eqb c.0 (o.1 + 1) ≡ true) Q (wants (eqb c.0 (o.1 + 1)) (length i.1)) _ (good_wants (eqb c.0 (o.1 + 1)) (length i.1))
    (λ k pk. good_bind (Got (Numbered 256 1) c.1) Q (u8_at c.1) _ (u1_good c.1 pc.ranged)
    (λ z pz. good_bind (λ (k : ℕ). eqb z.0 0 ≡ true) Q (wants (eqb z.0 0) (length c.1)) _ (good_wants (eqb z.0 0) (length c.1))
    (λ j pj. good_ok Q (o.0, z.1) (record {
      n = 4;
      of = interface_ok pool at i.0 o.0 po.0 (few_units c.0 (or_zero (parameter_units (po.0.descriptor))) o.1 pc.of.0 pk po.1);
      took = omega (arith, pi.took, pi.of.1, pc.took, pc.of.1, pz.took, pz.of.1);
      ranged = pz.ranged;
    })))))))

class_good : (pool : List Slot) (at : ℕ) (bytes : List ℕ) → Ranged bytes → Good (OperandRead pool at Class bytes) (class_op pool bytes)
unfolding class_op operand_fits operand_size operand_uses
class_good pool at bytes r =
    good_bind (Got (Uses pool class_uses 2) bytes) (OperandRead pool at Class bytes) (class_named_at pool bytes) _ (class_named_good pool bytes r)
    (λ c pc. good_ok (OperandRead pool at Class bytes) (op.Class c.0, c.1) (record { n = 2; of = record { fits = refl; size = refl; uses = pc.of.0; loads = tt }; took = omega (arith, pc.took, pc.of.1); ranged = pc.ranged }))

some_dims : (n : ℕ) → n < 256 → not (eqb n 0) ≡ true → (nat_lt 0 n && is_u8 n) ≡ true
some_dims n lt h = let ne = eqb-false n 0 (not-true (eqb n 0) h) in rw (lt-ltb 0 n (omega (arith, ne)), lt-ltb n 256 lt) refl

dims_good : (pool : List Slot) (at : ℕ) (bytes : List ℕ) → Ranged bytes → Good (OperandRead pool at Dims bytes) (dims_op pool bytes)
unfolding dims_op operand_fits operand_size operand_uses
dims_good pool at bytes r =
    good_bind (Got (Uses pool class_uses 2) bytes) (OperandRead pool at Dims bytes) (class_named_at pool bytes) _ (class_named_good pool bytes r)
    (λ c pc. good_bind (Got (Numbered 256 1) c.1) (OperandRead pool at Dims bytes) (u8_at c.1) _ (u1_good c.1 pc.ranged)
    (λ n pn. good_bind (λ (k : ℕ). not (eqb n.0 0) ≡ true) (OperandRead pool at Dims bytes) (wants (not (eqb n.0 0)) (length c.1)) _ (good_wants (not (eqb n.0 0)) (length c.1))
    (λ k pk. good_ok (OperandRead pool at Dims bytes) (op.Dims c.0 n.0, n.1)
    (record { n = 3; of = record { fits = some_dims n.0 pn.of.0 pk; size = refl; uses = pc.of.0; loads = tt }; took = omega (arith, pc.took, pc.of.1, pn.took, pn.of.1); ranged = pn.ranged }))))

-- ---- lookupswitch

zeros_good : (count : ℕ) → Reads (λ (z : ℕ) (n : ℕ). n ≡ count) (zeros_at count)
unfolding zeros_at
zeros_good zero bytes r = good_ok (Got (λ (z : ℕ) (n : ℕ). n ≡ 0) bytes) (0, bytes) (record { n = 0; of = refl; took = omega arith; ranged = r })
zeros_good (suc count) bytes r =
    let Q : ℕ × List ℕ → Type 0 = Got (λ (z : ℕ) (n : ℕ). n ≡ suc count) bytes in
    good_bind (Got (Numbered 256 1) bytes) Q (u8_at bytes) _ (u1_good bytes r)
    (λ b pb. good_bind (λ (k : ℕ). eqb b.0 0 ≡ true) Q (wants (eqb b.0 0) (length bytes)) _ (good_wants (eqb b.0 0) (length bytes))
    (λ k pk. good_more (Got (λ (z : ℕ) (n : ℕ). n ≡ count) b.1) Q (zeros_at count b.1) (zeros_good count b.1 pb.ranged)
    (λ x px. record { n = suc count; of = refl; took = omega (arith, pb.took, pb.of.1, px.took, px.of); ranged = px.ranged })))

abbrev CaseOk : Option ℤ → SwitchCase → ℕ → Type 0
CaseOk before c n = (is_signed (2 ^ 31) (c.key) ≡ true) × (is_above before (c.key) ≡ true) × (n ≡ 8)

case_good : (at : ℕ) (before : Option ℤ) → Reads (CaseOk before) (case_at at before)
unfolding case_at
case_good at before bytes r =
    let Q : SwitchCase × List ℕ → Type 0 = Got (CaseOk before) bytes in
    good_bind (Got (Numbered (2 ^ 32) 4) bytes) Q (number_at w32 bytes) _ (u4_good bytes r)
    (λ key pk. good_bind (λ (k : ℕ). is_above before (cast_signed w32 key.0) ≡ true) Q (wants (is_above before (cast_signed w32 key.0)) (length bytes)) _ (good_wants (is_above before (cast_signed w32 key.0)) (length bytes))
    (λ k above. good_bind (Got (Numbered (2 ^ 32) 4) key.1) Q (number_at w32 key.1) _ (u4_good key.1 pk.ranged)
    (λ by pb. good_ok Q (record { key = cast_signed w32 key.0; at = wide_target at by.0 }, by.1) (record { n = 8; of = (signed32_good key.0 pk.of.0, above, refl); took = omega (arith, pk.took, pk.of.1, pb.took, pb.of.1); ranged = pb.ranged }))))

abbrev CasesOk : ℕ → Option ℤ → List SwitchCase → ℕ → Type 0
CasesOk count before cs n = (length cs ≡ count) × (cases_ascend before cs ≡ true) × (n ≡ 8 * count)

cases_good : (count at : ℕ) (before : Option ℤ) → Reads (CasesOk count before) (cases_at count at before)
unfolding cases_at cases_ascend
cases_good zero at before bytes r = good_ok (Got (CasesOk 0 before) bytes) ([], bytes) (record { n = 0; of = (refl, refl, refl); took = omega arith; ranged = r })
cases_good (suc count) at before bytes r =
    let Q : List SwitchCase × List ℕ → Type 0 = Got (CasesOk (suc count) before) bytes in
    good_bind (Got (CaseOk before) bytes) Q (case_at at before bytes) _ (case_good at before bytes r)
    (λ c pc. good_bind (Got (CasesOk count (Some (c.0.key))) c.1) Q (cases_at count at (Some (c.0.key)) c.1) _ (cases_good count at (Some (c.0.key)) c.1 pc.ranged)
    (λ cs pcs. good_ok Q (c.0 ∷ cs.0, cs.1) (record {
      n = 8 * suc count;
      of = (ap (λ (k : ℕ). suc k) pcs.of.0, rw (pc.of.0, pc.of.1) pcs.of.1, refl);
      took = omega (arith, pc.took, pc.of.2, pcs.took, pcs.of.2);
      ranged = pcs.ranged;
    })))

switch_good : (pool : List Slot) (at : ℕ) (bytes : List ℕ) → Ranged bytes → Good (OperandRead pool at Switch bytes) (switch_op at bytes)
unfolding switch_op operand_fits operand_size operand_uses
switch_good pool at bytes r =
    let Q : Operand × List ℕ → Type 0 = OperandRead pool at Switch bytes in
    good_bind (Got (λ (z : ℕ) (n : ℕ). n ≡ padding at) bytes) Q (zeros_at (padding at) bytes) _ (zeros_good (padding at) bytes r)
    (λ z pz. good_bind (Got (Numbered (2 ^ 32) 4) z.1) Q (number_at w32 z.1) _ (u4_good z.1 pz.ranged)
    (λ by pb. good_bind (Got (Numbered (2 ^ 32) 4) by.1) Q (number_at w32 by.1) _ (u4_good by.1 pb.ranged)
    (λ n pn. good_bind (λ (k : ℕ). nat_lt n.0 (2 ^ 31) ≡ true) Q (wants (nat_lt n.0 (2 ^ 31)) (length by.1)) _ (good_wants (nat_lt n.0 (2 ^ 31)) (length by.1))
    (λ k few. good_bind (Got (CasesOk n.0 None) n.1) Q (cases_at n.0 at None n.1) _ (cases_good n.0 at None n.1 pn.ranged)
    (λ cs pcs.
    let count : length cs.0 ≡ n.0 = pcs.of.0 in
    let short : ltb (length cs.0) (2 ^ 31) ≡ true = ap (λ (m : ℕ). ltb m (2 ^ 31)) count ∙ few in
    good_ok Q (op.Switch (wide_target at by.0) cs.0, cs.1) (record {
      n = padding at + 8 + 8 * length cs.0;
      of = record { fits = rw short pcs.of.1; size = refl; uses = tt; loads = tt };
      took = omega (arith, pz.took, pz.of, pb.took, pb.of.1, pn.took, pn.of.1, pcs.took, pcs.of.2, count);
      ranged = pcs.ranged;
    }))))))

-- ---- instructions

plain_good : (pool : List Slot) (at : ℕ) (bytes : List ℕ) → Ranged bytes → Good (OperandRead pool at Plain bytes) (Ok (op.Nothing, bytes))
unfolding operand_fits operand_size operand_uses
plain_good pool at bytes r = good_ok (OperandRead pool at Plain bytes) (op.Nothing, bytes) (record { n = 0; of = record { fits = refl; size = refl; uses = tt; loads = tt }; took = omega arith; ranged = r })

operand_good : (pool : List Slot) → PoolOk pool → (left at : ℕ) → at < 2 ^ 32 → (k : Kind) (bytes : List ℕ) → Ranged bytes → Good (OperandRead pool at k bytes) (operand_at pool left at k bytes)
unfolding operand_at
operand_good pool ok left at la Plain bytes r = plain_good pool at bytes r
operand_good pool ok left at la Byte bytes r = byte_good pool at bytes r
operand_good pool ok left at la Short bytes r = short_good pool at bytes r
operand_good pool ok left at la ArrayOf bytes r = array_good pool at bytes r
operand_good pool ok left at la Load bytes r = load_good pool ok at bytes r
operand_good pool ok left at la LoadWide bytes r = load_wide_good pool ok at bytes r
operand_good pool ok left at la LoadLong bytes r = load_long_good pool ok at bytes r
operand_good pool ok left at la Local bytes r = local_good pool at bytes r
operand_good pool ok left at la Step bytes r = step_good pool at bytes r
operand_good pool ok left at la Jump bytes r = jump_good pool at la bytes r
operand_good pool ok left at la Switch bytes r = switch_good pool at bytes r
operand_good pool ok left at la Field bytes r = field_good pool at bytes r
operand_good pool ok left at la Method bytes r = method_good pool at bytes r
operand_good pool ok left at la Interface bytes r = interface_good pool at bytes r
operand_good pool ok left at la Class bytes r = class_good pool at bytes r
operand_good pool ok left at la Dims bytes r = dims_good pool at bytes r
operand_good pool ok left at la Unknown bytes r = good_err (OperandRead pool at Unknown bytes) (flaw.Opcode left)

pub record InsOk (pool : List Slot) (at : ℕ) (i : Ins) (n : ℕ) : Type 0 where
  pub fits : ins_fits at i ≡ true
  pub size : n ≡ ins_size at i
  pub uses : Stand pool (ins_uses i)
  pub loads : Low pool (ins_first_uses i)

-- behind `wide`
record WideOk (k : Kind) (o : Operand) (n : ℕ) : Type 0 where
  fits : wide_fits k o ≡ true
  size : n ≡ wide_size o
  uses : operand_uses k o ≡ []
  loads : cond (is_load k) (first_uses o) [] ≡ []

abbrev WideRead : Kind → List ℕ → Operand × List ℕ → Type 0
WideRead k bytes = Got (WideOk k) bytes

wide_local_good : (bytes : List ℕ) → Ranged bytes → Good (WideRead Local bytes) (number_at w16 bytes >>= λ n. Ok (op.Local n.0, n.1))
unfolding wide_fits operand_uses
wide_local_good bytes r = good_bind (Got (Numbered 65536 2) bytes) (WideRead Local bytes) (number_at w16 bytes) _ (u2_good bytes r)
    (λ n pn. good_ok (WideRead Local bytes) (op.Local n.0, n.1) (record { n = 2; of = record { fits = lt-ltb n.0 65536 pn.of.0; size = refl; uses = refl; loads = refl }; took = omega (arith, pn.took, pn.of.1); ranged = pn.ranged }))

wide_step_good : (bytes : List ℕ) → Ranged bytes → Good (WideRead Step bytes) (number_at w16 bytes >>= λ n. number_at w16 n.1 >>= λ by. Ok (op.Step n.0 (cast_signed w16 by.0), by.1))
unfolding wide_fits operand_uses
wide_step_good bytes r = good_bind (Got (Numbered 65536 2) bytes) (WideRead Step bytes) (number_at w16 bytes) _ (u2_good bytes r)
    (λ n pn. good_bind (Got (Numbered 65536 2) n.1) (WideRead Step bytes) (number_at w16 n.1) _ (u2_good n.1 pn.ranged)
    (λ by pb. good_ok (WideRead Step bytes) (op.Step n.0 (cast_signed w16 by.0), by.1)
    (record { n = 4; of = record { fits = rw (lt-ltb n.0 65536 pn.of.0) (signed16_good by.0 pb.of.0); size = refl; uses = refl; loads = refl }; took = omega (arith, pn.took, pn.of.1, pb.took, pb.of.1); ranged = pb.ranged })))

wide_operand_good : (left : ℕ) (k : Kind) (bytes : List ℕ) → Ranged bytes → Good (WideRead k bytes) (wide_operand_at left k bytes)
unfolding wide_operand_at
wide_operand_good left Local bytes r = wide_local_good bytes r
wide_operand_good left Step bytes r = wide_step_good bytes r
wide_operand_good left k bytes r = good_err (WideRead k bytes) (flaw.Opcode left)

wide_ok : (pool : List Slot) (at code : ℕ) (o : Operand) (n : ℕ) → code < 256 → WideOk (kind_of code) o n → InsOk pool at (record { code = code; wide = true; operand = o }) (1 + (1 + n))
unfolding ins_fits ins_first_uses
wide_ok pool at code o n lt w = record {
  fits = rw (lt-ltb code 256 lt) w.fits;
  size = omega (arith, w.size);
  uses = subst (Stand pool) (sym w.uses) tt;
  loads = subst (Low pool) (sym w.loads) tt;
}

narrow_ok : (pool : List Slot) (at code : ℕ) (o : Operand) (n : ℕ) → code < 256 → eqb code 0xc4 ≡ false → OperandOk pool at (kind_of code) o n → InsOk pool at (record { code = code; wide = false; operand = o }) (1 + n)
unfolding ins_fits ins_first_uses
narrow_ok pool at code o n lt ne w = record { fits = rw (lt-ltb code 256 lt, ne) w.fits; size = omega (arith, w.size); uses = w.uses; loads = w.loads }

wide_good : (pool : List Slot) (at : ℕ) (bytes : List ℕ) → Ranged bytes → Good (λ (x : Ins × List ℕ). (n : ℕ) × InsOk pool at x.0 (1 + n) × (length bytes ≡ n + length x.1) × Ranged x.1) (wide_at bytes)
unfolding wide_at
wide_good pool at bytes r =
    let Q : Ins × List ℕ → Type 0 = λ (x : Ins × List ℕ). (n : ℕ) × InsOk pool at x.0 (1 + n) × (length bytes ≡ n + length x.1) × Ranged x.1 in
    good_bind (Got (Numbered 256 1) bytes) Q (u8_at bytes) _ (u1_good bytes r)
    (λ code pc. good_bind (WideRead (kind_of code.0) code.1) Q (wide_operand_at (length bytes) (kind_of code.0) code.1) _ (wide_operand_good (length bytes) (kind_of code.0) code.1 pc.ranged)
    (λ o po. good_ok Q (record { code = code.0; wide = true; operand = o.0 }, o.1)
    (1 + po.n, wide_ok pool at code.0 o.0 po.n pc.of.0 po.of, omega (arith, pc.took, pc.of.1, po.took), po.ranged)))

narrow_good : (pool : List Slot) → PoolOk pool → (left at code : ℕ) → at < 2 ^ 32 → code < 256 → eqb code 0xc4 ≡ false → (bytes : List ℕ) → Ranged bytes → Good (λ (x : Ins × List ℕ). (n : ℕ) × InsOk pool at x.0 (1 + n) × (length bytes ≡ n + length x.1) × Ranged x.1) (narrow_at pool left at code bytes)
unfolding narrow_at
narrow_good pool ok left at code la lt ne bytes r =
    let Q : Ins × List ℕ → Type 0 = λ (x : Ins × List ℕ). (n : ℕ) × InsOk pool at x.0 (1 + n) × (length bytes ≡ n + length x.1) × Ranged x.1 in
    good_bind (OperandRead pool at (kind_of code) bytes) Q (operand_at pool left at (kind_of code) bytes) _ (operand_good pool ok left at la (kind_of code) bytes r)
    (λ o po. good_ok Q (record { code = code; wide = false; operand = o.0 }, o.1) (po.n, narrow_ok pool at code o.0 po.n lt ne po.of, po.took, po.ranged))

pub ins_good : (pool : List Slot) → PoolOk pool → (at : ℕ) → at < 2 ^ 32 → Reads (InsOk pool at) (ins_at pool at)
unfolding ins_at
ins_good pool ok at la bytes r =
    let Q : Ins × List ℕ → Type 0 = Got (InsOk pool at) bytes in
    let P : List ℕ → Ins × List ℕ → Type 0 = λ rest x. (n : ℕ) × InsOk pool at x.0 (1 + n) × (length rest ≡ n + length x.1) × Ranged x.1 in
    good_bind (Got (Numbered 256 1) bytes) Q (u8_at bytes) _ (u1_good bytes r)
    (λ code pc. good_if Q (eqb code.0 0xc4) _ _
    (λ h. good_more (P code.1) Q (wide_at code.1) (wide_good pool at code.1 pc.ranged) (λ x px. record { n = 1 + px.0; of = px.1; took = omega (arith, pc.took, pc.of.1, px.2); ranged = px.3 }))
    (λ h. good_more (P code.1) Q (narrow_at pool (length bytes) at code.0 code.1) (narrow_good pool ok (length bytes) at code.0 la pc.of.0 h code.1 pc.ranged) (λ x px. record { n = 1 + px.0; of = px.1; took = omega (arith, pc.took, pc.of.1, px.2); ranged = px.3 })))
