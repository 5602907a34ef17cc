-- What is written is bytes.
use Rattle.std.proofs.Common.{◌≡◌, ◌<◌, ◌^◌, ℕ, zero, suc, ◌+◌, ◌/◌, ◌%◌, Bool, true, false, cond, ltb, eqb, List, [], ◌∷◌, ◌++◌, length, replicate, Option, Some, None, refl, arith}
use Rattle.std.specs.Prelude.{◌&&◌, not, nat_lt, codes}
use Rattle.std.specs.Int.{w16, w32, w64, to_be_bytes, cast_unsigned}
use Rattle.std.specs.List.{flat_map, list_all}
use Rattle.std.proofs.lemmas.Bool.{ltb-true, and_parts}
use Rattle.jc_class_out.specs.declared.forms.Form.{Form}
use Rattle.jc_class_out.specs.declared.forms.Form.TheVariants as form
use Rattle.jc_class_out.specs.declared.format.Kind.{Kind}
use Rattle.jc_class_out.specs.declared.format.Kind.TheVariants as kind
use Rattle.jc_class_out.specs.declared.model.ClassModel.{ClassModel}
use Rattle.jc_class_out.specs.declared.model.CodeModel.{CodeModel}
use Rattle.jc_class_out.specs.declared.model.FieldModel.{FieldModel}
use Rattle.jc_class_out.specs.declared.model.Frame.{Frame}
use Rattle.jc_class_out.specs.declared.model.Handler.{Handler}
use Rattle.jc_class_out.specs.declared.model.InnerModel.{InnerModel}
use Rattle.jc_class_out.specs.declared.model.Ins.{Ins}
use Rattle.jc_class_out.specs.declared.model.Item.{Item}
use Rattle.jc_class_out.specs.declared.model.Item.TheVariants as item
use Rattle.jc_class_out.specs.declared.model.MethodModel.{MethodModel}
use Rattle.jc_class_out.specs.declared.model.Operand.{Operand}
use Rattle.jc_class_out.specs.declared.model.Operand.TheVariants as op
use Rattle.jc_class_out.specs.declared.model.SwitchCase.{SwitchCase}
use Rattle.jc_class_out.specs.Texts.{unit_bytes, text_bytes}
use Rattle.jc_class_out.specs.Descriptors.{parameter_units, or_zero, is_method_descriptor}
use Rattle.jc_class_out.specs.Pool.{Known, KnownText, KnownWhole, KnownLong, KnownBehind, KnownClass, KnownLiteral, KnownField, KnownMethod, KnownInterface, KnownPair}
use Rattle.jc_class_out.specs.Instructions.{kind_of, padding, ins_size}
use Rattle.jc_class_out.specs.Code.{marks_of, size_from}
use Rattle.jc_class_out.specs.Format.{major, is_bodiless}
use Rattle.jc_class_out.specs.Forms.{form_of, written_locals, delta_of}
use Rattle.jc_class_out.specs.Spelling.{is_short, is_load, is_interface, spell_case, spell_switch, spell_number, spell_load, spell_member, spell_operand, spell_wide, spell_ins, spell_code, spell_body, spell_handler, spell_class_or_none, spell_name_or_none, spell_item, spell_near, spell_form, spell_frame, spell_frames, counted, spell_attribute, spell_table, spell_code_attributes, spell_code_model, spell_code_or_none, entry_of_method, spell_method, spell_field, spell_inner, spell_inners, spell_interface, spell_members, spell_member_entry, spell_text, spell_entry, spell_pool, spell_head, pool_for, uses, file_of}
use Rattle.jc_class_out.specs.Fitting.{is_u8, is_u16, text_fits, known_fits, operand_fits, wide_fits, ins_fits, all_fit, ins_lands, ins_all_fit, tables_fit, code_fits, code_or_none_fits, method_fits, field_fits, inner_fits, counts_fit, members_fit, pool_fits, fits_of}
use Rattle.jc_class_out.proofs.Good.{Ranged}
use Rattle.jc_class_out.proofs.CodeGood.{all_append}
use Rattle.jc_class_out.proofs.FileAgain.{all_adds}

record InRange (bytes : List ℕ) : Type 0 where
  ok : Ranged bytes

done : InRange []
done = record { ok = tt }

byte : {b : ℕ} {bytes : List ℕ} → b < 256 → InRange bytes → InRange (b ∷ bytes)
byte lt h = record { ok = (lt, h.ok) }

both : {xs ys : List ℕ} → InRange xs → InRange ys → InRange (xs ++ ys)
both {xs} {ys} h g = record { ok = all_append (λ (b : ℕ). b < 256) xs ys (h.ok) (g.ok) }

each : {A : Type 0} (f : A → List ℕ) → ((x : A) → InRange (f x)) → (xs : List A) → InRange (flat_map f xs)
each f h [] = done
each f h (x ∷ xs) = both (h x) (each f h xs)

each_that : {A : Type 0} (f : A → List ℕ) (test : A → Bool) → ((x : A) → test x ≡ true → InRange (f x)) → (xs : List A) → list_all test xs ≡ true → InRange (flat_map f xs)
each_that f test h [] g = done
each_that f test h (x ∷ xs) g = let p = and_parts (test x) (list_all test xs) g in both (h x p.0) (each_that f test h xs p.1)

u2 : (n : ℕ) → InRange (to_be_bytes w16 n)
u2 n = record { ok = (omega arith, (omega arith, tt)) }

u4 : (n : ℕ) → InRange (to_be_bytes w32 n)
u4 n = record { ok = (omega arith, (omega arith, (omega arith, (omega arith, tt)))) }

u8 : (n : ℕ) → InRange (to_be_bytes w64 n)
u8 n = record { ok = (omega arith, (omega arith, (omega arith, (omega arith, (omega arith, (omega arith, (omega arith, (omega arith, tt)))))))) }

list : {A : Type 0} (f : A → List ℕ) → ((x : A) → InRange (f x)) → (xs : List A) → InRange (counted f xs)
unfolding counted
list f h xs = both (u2 (length xs % 65536)) (each f h xs)

-- ---- texts and the pool

unit_by : (u : ℕ) (a b c : Bool) → u < 65536 → eqb u 0 ≡ a → ltb u 0x80 ≡ b → ltb u 0x800 ≡ c
    → InRange (cond a (0xC0 ∷ 0x80 ∷ []) (cond b (u ∷ []) (cond c ((0xC0 + u / 64) ∷ (0x80 + u % 64) ∷ []) ((0xE0 + u / 4096) ∷ (0x80 + u / 64 % 64) ∷ (0x80 + u % 64) ∷ []))))
unit_by u true b c lt h g i = (byte (omega arith) ((byte (omega arith) done)))
unit_by u false true c lt h g i = let l = ltb-true u 0x80 g in (byte (omega (arith, l)) done)
unit_by u false false true lt h g i = let l = ltb-true u 0x800 i in (byte (omega (arith, l)) ((byte (omega arith) done)))
unit_by u false false false lt h g i = (byte (omega (arith, lt)) ((byte (omega arith) ((byte (omega arith) done)))))

unit : (u : ℕ) → is_u16 u ≡ true → InRange (unit_bytes u)
unit u h = unit_by u (eqb u 0) (ltb u 0x80) (ltb u 0x800) (ltb-true u 65536 h) refl refl refl

text : (t : List ℕ) → text_fits t ≡ true → InRange (spell_text t)
unfolding spell_text text_fits
text t h =
    let p = and_parts (list_all is_u16 t) (nat_lt (length (text_bytes t)) 65536) h in
    (byte (omega arith) (both (u2 (length (text_bytes t) % 65536)) (each_that unit_bytes is_u16 unit t p.0)))

member_entry : (ks : List Known) (tag : ℕ) (c n d : List ℕ) → tag < 256 → InRange (spell_member_entry ks tag c n d)
unfolding spell_member_entry
member_entry ks tag c n d lt = (byte (lt) (both (u2 _) (u2 _)))

entry : (ks : List Known) (k : Known) → known_fits k ≡ true → InRange (spell_entry ks k)
unfolding spell_entry
entry ks (KnownText t) h = text t h
entry ks (KnownWhole n) h = (byte (omega arith) (u4 _))
entry ks (KnownLong n) h = (byte (omega arith) (u8 _))
entry ks (KnownBehind n) h = done
entry ks (KnownClass t) h = (byte (omega arith) (u2 _))
entry ks (KnownLiteral t) h = (byte (omega arith) (u2 _))
entry ks (KnownField c n d) h = member_entry ks 9 c n d (omega arith)
entry ks (KnownMethod c n d) h = member_entry ks 10 c n d (omega arith)
entry ks (KnownInterface c n d) h = member_entry ks 11 c n d (omega arith)
entry ks (KnownPair n d) h = (byte (omega arith) (both (u2 _) (u2 _)))

head : (ks : List Known) → list_all known_fits ks ≡ true → InRange (spell_head ks)
unfolding spell_head spell_pool
head ks h =
    let pool = both (u2 _) (each_that (spell_entry ks) known_fits (entry ks) ks h) in
    both (u4 0xCAFEBABE) (both (u2 0) (both (u2 major) pool))

-- ---- instructions

zeros : (n : ℕ) → InRange (replicate n 0)
zeros zero = done
zeros (suc n) = (byte (omega arith) (zeros n))

case : (at : ℕ) (c : SwitchCase) → InRange (spell_case at c)
unfolding spell_case
case at c = both (u4 _) (u4 _)

switch : (at otherwise : ℕ) (cases : List SwitchCase) → InRange (spell_switch at otherwise cases)
unfolding spell_switch
switch at otherwise cases = both (zeros (padding at)) (both (u4 _) (both (u4 _) (each (spell_case at) (case at) cases)))

tail_by : (b : Bool) (n : ℕ) → InRange (cond b ((n % 256) ∷ 0 ∷ []) [])
tail_by true n = (byte (omega arith) ((byte (omega arith) done)))
tail_by false n = done

number_by : (b : Bool) (n : ℕ) → InRange (cond b (to_be_bytes w16 (n % 65536)) ((n % 256) ∷ []))
number_by true n = u2 (n % 65536)
number_by false n = (byte (omega arith) done)

load_by : (b : Bool) (n : ℕ) → InRange (cond b ((n % 256) ∷ []) (to_be_bytes w16 n))
load_by true n = (byte (omega arith) done)
load_by false n = u2 n

-- the dimensions have a byte
dims_fit : (at : ℕ) (k : Kind) (c : List ℕ) (n : ℕ) → operand_fits at k (op.Dims c n) ≡ true → n < 256
unfolding operand_fits
dims_fit at kind.Dims c n h = ltb-true n 256 (and_parts (nat_lt 0 n) (is_u8 n) h).1
dims_fit at _ c n h = absurd cc

operand : (ks : List Known) (fit at : ℕ) (k : Kind) (o : Operand) → operand_fits fit k o ≡ true → InRange (spell_operand ks at k o)
unfolding spell_operand spell_number spell_load spell_member
operand ks fit at k op.Nothing h = done
operand ks fit at k (op.Number n) h = number_by (is_short k) (cast_unsigned w32 n)
operand ks fit at k (op.Local n) h = (byte (omega arith) done)
operand ks fit at k (op.Step n by) h = (byte (omega arith) ((byte (omega arith) done)))
operand ks fit at k (op.Load l) h = load_by (is_load k) _
operand ks fit at k (op.Member c n d) h = both (u2 _) (tail_by (is_interface k) (or_zero (parameter_units d) + 1))
operand ks fit at k (op.Class c) h = u2 _
operand ks fit at k (op.Dims c n) h = both (u2 _) (byte (dims_fit fit k c n h) done)
operand ks fit at k (op.Jump to) h = u2 _
operand ks fit at k (op.Switch otherwise cases) h = switch at otherwise cases

wide : (o : Operand) → InRange (spell_wide o)
unfolding spell_wide
wide (op.Local n) = u2 n
wide (op.Step n by) = both (u2 _) (u2 _)
wide _ = done

ins_by : (ks : List Known) (fit at : ℕ) (i : Ins) (b : Bool) → cond b (is_u8 (i.code) && wide_fits (kind_of (i.code)) (i.operand)) (is_u8 (i.code) && (not (eqb (i.code) 0xc4) && operand_fits fit (kind_of (i.code)) (i.operand))) ≡ true
    → InRange (cond b (0xc4 ∷ i.code ∷ spell_wide (i.operand)) (i.code ∷ spell_operand ks at (kind_of (i.code)) (i.operand)))
ins_by ks fit at i true h = let p = and_parts (is_u8 (i.code)) (wide_fits (kind_of (i.code)) (i.operand)) h in (byte (omega arith) ((byte (ltb-true (i.code) 256 p.0) (wide (i.operand)))))
ins_by ks fit at i false h =
    let p = and_parts (is_u8 (i.code)) (not (eqb (i.code) 0xc4) && operand_fits fit (kind_of (i.code)) (i.operand)) h in
    let q = and_parts (not (eqb (i.code) 0xc4)) (operand_fits fit (kind_of (i.code)) (i.operand)) p.1 in
    (byte (ltb-true (i.code) 256 p.0) (operand ks fit at (kind_of (i.code)) (i.operand) q.1))

ins : (ks : List Known) (fit at : ℕ) (i : Ins) → ins_fits fit i ≡ true → InRange (spell_ins ks at i)
unfolding ins_fits spell_ins
ins ks fit at i h = ins_by ks fit at i (i.wide) h

code : (ks : List Known) (fit at : ℕ) (is : List Ins) → all_fit fit is ≡ true → InRange (spell_code ks at is)
unfolding all_fit spell_code
code ks fit at [] h = done
code ks fit at (i ∷ is) h =
    let p = and_parts (ins_fits fit i) (all_fit (fit + ins_size fit i) is) h in
    both (ins ks fit (at % 2 ^ 32) i p.0) (code ks (fit + ins_size fit i) (at + length (spell_ins ks (at % 2 ^ 32) i)) is p.1)

-- ---- tables

class_or_none : (ks : List Known) (o : Option (List ℕ)) → InRange (spell_class_or_none ks o)
class_or_none ks None = u2 0
class_or_none ks (Some t) = u2 _

name_or_none : (ks : List Known) (o : Option (List ℕ)) → InRange (spell_name_or_none ks o)
name_or_none ks None = u2 0
name_or_none ks (Some t) = u2 _

handler : (ks : List Known) (h : Handler) → InRange (spell_handler ks h)
unfolding spell_handler
handler ks h = both (u2 _) (both (u2 _) (both (u2 _) (class_or_none ks (h.class))))

items : (ks : List Known) (i : Item) → InRange (spell_item ks i)
unfolding spell_item
items ks item.Top = (byte (omega arith) done)
items ks item.Integer = (byte (omega arith) done)
items ks item.Long = (byte (omega arith) done)
items ks item.NullItem = (byte (omega arith) done)
items ks item.UninitializedThis = (byte (omega arith) done)
items ks (item.Object name) = (byte (omega arith) (u2 _))
items ks (item.Uninitialized at) = (byte (omega arith) (u2 _))

near_by : (b : Bool) (n wide delta : ℕ) → wide < 256 → InRange (cond b ((n % 256) ∷ []) (wide ∷ to_be_bytes w16 delta))
near_by true n wide delta lt = (byte (omega arith) done)
near_by false n wide delta lt = (byte (lt) (u2 delta))

form_ranged : (ks : List Known) (delta : ℕ) (f : Frame) (form : Form) → InRange (spell_form ks delta f form)
unfolding spell_form spell_near
form_ranged ks delta f form.Same = near_by (nat_lt delta 64) (0 + delta) 251 (delta % 65536) (omega arith)
form_ranged ks delta f form.SameItem = both (near_by (nat_lt delta 64) (64 + delta) 247 (delta % 65536) (omega arith)) (each (spell_item ks) (items ks) (f.stack))
form_ranged ks delta f (form.Chop k) = (byte (omega arith) (u2 _))
form_ranged ks delta f (form.Append k) = (byte (omega arith) (both (u2 _) (each (spell_item ks) (items ks) (written_locals f (form.Append k)))))
form_ranged ks delta f form.Full = (byte (omega arith) (both (u2 _) (both (list (spell_item ks) (items ks) (f.locals)) (list (spell_item ks) (items ks) (f.stack)))))

frames : (ks : List Known) (before : Option ℕ) (seen : List Item) (fs : List Frame) → InRange (spell_frames ks before seen fs)
unfolding spell_frames spell_frame
frames ks before seen [] = done
frames ks before seen (f ∷ fs) = both (form_ranged ks (delta_of before (f.at)) f (form_of seen f)) (frames ks (Some (f.at)) (f.locals) fs)

attribute : (ks : List Known) (word content : List ℕ) → InRange content → InRange (spell_attribute ks word content)
unfolding spell_attribute
attribute ks word content h = both (u2 _) (both (u4 _) h)

table : (ks : List Known) (entry : List Item) (fs : List Frame) → InRange (spell_table ks entry fs)
unfolding spell_table
table ks entry fs = both (u2 _) (frames ks None entry fs)

code_attributes : (ks : List Known) (entry : List Item) (fs : List Frame) → InRange (spell_code_attributes ks entry fs)
code_attributes ks entry [] = u2 0
code_attributes ks entry (f ∷ fs) = both (u2 1) (attribute ks (codes "StackMapTable") (spell_table ks entry (f ∷ fs)) (table ks entry (f ∷ fs)))

-- ---- members

code_model : (ks : List Known) (entry : List Item) (c : CodeModel) → code_fits entry c ≡ true → InRange (spell_code_model ks entry c)
unfolding code_fits ins_all_fit spell_code_model spell_body
code_model ks entry c h =
    let a = and_parts (is_u16 (c.stack)) (is_u16 (c.locals) && (ins_all_fit (c.ins) && tables_fit (marks_of (c.ins)) entry c)) h in
    let b = and_parts (is_u16 (c.locals)) (ins_all_fit (c.ins) && tables_fit (marks_of (c.ins)) entry c) a.1 in
    let d = and_parts (ins_all_fit (c.ins)) (tables_fit (marks_of (c.ins)) entry c) b.1 in
    let i1 = and_parts (nat_lt 0 (size_from 0 (c.ins))) (nat_lt (size_from 0 (c.ins)) 65536 && (all_fit 0 (c.ins) && list_all (ins_lands (marks_of (c.ins))) (c.ins))) d.0 in
    let i2 = and_parts (nat_lt (size_from 0 (c.ins)) 65536) (all_fit 0 (c.ins) && list_all (ins_lands (marks_of (c.ins))) (c.ins)) i1.1 in
    let i3 = and_parts (all_fit 0 (c.ins)) (list_all (ins_lands (marks_of (c.ins))) (c.ins)) i2.1 in
    let body = both (u4 _) (code ks 0 0 (c.ins) i3.0) in
    both (u2 _) (both (u2 _) (both body
    (both (list (spell_handler ks) (handler ks) (c.handlers)) (code_attributes ks entry (c.frames)))))

code_or_none : (ks : List Known) (bodiless : Bool) (entry : List Item) (o : Option CodeModel) → code_or_none_fits bodiless entry o ≡ true → InRange (spell_code_or_none ks entry o)
code_or_none ks bodiless entry None h = u2 0
code_or_none ks bodiless entry (Some c) h =
    let p = and_parts (not bodiless) (code_fits entry c) h in
    both (u2 1) (attribute ks (codes "Code") (spell_code_model ks entry c) (code_model ks entry c p.1))

method : (ks : List Known) (class : List ℕ) (m : MethodModel) → method_fits class m ≡ true → InRange (spell_method ks class m)
unfolding method_fits spell_method
method ks class m h =
    let p = and_parts (is_u16 (m.flags)) (is_method_descriptor (m.descriptor) && code_or_none_fits (is_bodiless (m.flags)) (entry_of_method class m) (m.code)) h in
    let q = and_parts (is_method_descriptor (m.descriptor)) (code_or_none_fits (is_bodiless (m.flags)) (entry_of_method class m) (m.code)) p.1 in
    both (u2 _) (both (u2 _) (both (u2 _) (code_or_none ks (is_bodiless (m.flags)) (entry_of_method class m) (m.code) q.1)))

field : (ks : List Known) (f : FieldModel) → InRange (spell_field ks f)
unfolding spell_field
field ks f = both (u2 _) (both (u2 _) (both (u2 _) (u2 0)))

inner : (ks : List Known) (i : InnerModel) → InRange (spell_inner ks i)
unfolding spell_inner
inner ks i = both (u2 _) (both (class_or_none ks (i.outer)) (both (name_or_none ks (i.name)) (u2 _)))

inners : (ks : List Known) (is : List InnerModel) → InRange (spell_inners ks is)
inners ks [] = u2 0
inners ks (i ∷ is) = both (u2 1) (attribute ks (codes "InnerClasses") (counted (spell_inner ks) (i ∷ is)) (list (spell_inner ks) (inner ks) (i ∷ is)))

interface : (ks : List Known) (t : List ℕ) → InRange (spell_interface ks t)
unfolding spell_interface
interface ks t = u2 _

methods : (ks : List Known) (class : List ℕ) (ms : List MethodModel) → list_all (method_fits class) ms ≡ true → InRange (counted (spell_method ks class) ms)
unfolding counted
methods ks class ms h = both (u2 _) (each_that (spell_method ks class) (method_fits class) (method ks class) ms h)

members : (ks : List Known) (c : ClassModel) → members_fit c ≡ true → InRange (spell_members ks c)
unfolding members_fit spell_members
members ks c h =
    let a = and_parts (is_u16 (c.flags)) (counts_fit c && (list_all field_fits (c.fields) && (list_all (method_fits (c.name)) (c.methods) && list_all inner_fits (c.inner)))) h in
    let b = and_parts (counts_fit c) (list_all field_fits (c.fields) && (list_all (method_fits (c.name)) (c.methods) && list_all inner_fits (c.inner))) a.1 in
    let d = and_parts (list_all field_fits (c.fields)) (list_all (method_fits (c.name)) (c.methods) && list_all inner_fits (c.inner)) b.1 in
    let e = and_parts (list_all (method_fits (c.name)) (c.methods)) (list_all inner_fits (c.inner)) d.1 in
    both (u2 _) (both (u2 _) (both (class_or_none ks (c.superclass)) (both (list (spell_interface ks) (interface ks) (c.interfaces))
    (both (list (spell_field ks) (field ks) (c.fields)) (both (methods ks (c.name) (c.methods) e.0) (inners ks (c.inner)))))))

pub file_ranged : (c : ClassModel) → fits_of c ≡ true → Ranged (file_of c)
unfolding fits_of pool_fits file_of
file_ranged c h =
    let p = and_parts (members_fit c) (list_all known_fits (uses c) && _) h in
    let q = and_parts (list_all known_fits (uses c)) _ p.1 in
    (both (head (pool_for c) (all_adds known_fits [] (uses c) refl q.0)) (members (pool_for c) c p.0)).ok
