-- Attributes and code are read again.
use Rattle.std.proofs.Common.{◌≡◌, ◌<◌, ◌≤◌, ◌^◌, ℕ, ◌+◌, ◌-◌, ◌*◌, Bool, true, ltb, eqb, List, [], ◌∷◌, ◌++◌, length, Option, Some, None, Ok, refl, append_assoc, arith}
use Rattle.std.specs.Prelude.{◌&&◌, codes}
use Rattle.std.specs.Int.{w16, w32, to_be_bytes}
use Rattle.std.specs.List.{flat_map, list_all}
use Rattle.std.specs.Str.{bytes_eq}
use Rattle.std.proofs.lemmas.Bool.{ltb-true, eq-eqb, and_parts}
use Rattle.std.proofs.lemmas.List.{length-append}
use Rattle.std.proofs.lemmas.Slice.Eq.{bytes_eq-Decides}
use Rattle.jc_class_out.specs.declared.format.Slot.{Slot}
use Rattle.jc_class_out.specs.declared.model.CodeModel.{CodeModel}
use Rattle.jc_class_out.specs.declared.model.Frame.{Frame}
use Rattle.jc_class_out.specs.declared.model.Handler.{Handler}
use Rattle.jc_class_out.specs.declared.model.Item.{Item}
use Rattle.jc_class_out.specs.Pool.{Known, KnownText}
use Rattle.jc_class_out.specs.Code.{attribute_at, attribute_ends, no_more_at, marks_of, size_from, handler_at, frames_of_at, code_attributes_at, code_at}
use Rattle.jc_class_out.specs.Spelling.{has, ins_uses, ins_first_uses, class_or_none_uses, name_or_none_uses, handler_uses, frames_uses, table_uses, code_uses, counted, spell_handler, spell_class_or_none, spell_attribute, spell_table, spell_body, spell_code_attributes, spell_code_model}
use Rattle.jc_class_out.specs.Fitting.{is_u16, is_count, handler_fits, frames_fit, frames_within, frames_room, all_fit, ins_lands, ins_all_fit, tables_fit, code_fits}
use Rattle.jc_class_out.proofs.Numbers.{u2_again, u4_again, whole_u4, EachAgain, listed_again}
use Rattle.jc_class_out.proofs.Served.{Serves, named_again, HasClass, HasName}
use Rattle.jc_class_out.proofs.InsAgain.{Have, Low}
use Rattle.jc_class_out.proofs.FramesAgain.{table_again, length_frames}
use Rattle.jc_class_out.proofs.CodeAgain.{have_append, length_marks, body_again, handler_again}

-- ---- lengths

length_class_or_none : (ks : List Known) (o : Option (List ℕ)) → length (spell_class_or_none ks o) ≡ 2
length_class_or_none ks None = refl
length_class_or_none ks (Some t) = refl

length_handlers : (ks : List Known) (hs : List Handler) → length (flat_map (spell_handler ks) hs) ≡ 8 * length hs
unfolding spell_handler
length_handlers ks [] = refl
length_handlers ks (h ∷ hs) = omega (arith, length-append (spell_handler ks h) (flat_map (spell_handler ks) hs), length_class_or_none ks h.class, length_handlers ks hs)

-- ---- attributes

pub attribute_again : (slots : List Slot) (ks : List Known) → Serves ks slots → (word content rest : List ℕ) → has ks (KnownText word) ≡ true → length content < 2 ^ 32 → attribute_at slots word (spell_attribute ks word content ++ rest) ≡ Ok (length content, content ++ rest)
unfolding attribute_at spell_attribute
attribute_again slots ks s word content rest h lt =
    let same : bytes_eq word word ≡ true = (bytes_eq-Decides word word).1 refl in
    rw (whole_u4 (length content) lt, named_again ks slots s word (to_be_bytes w32 (length content) ++ (content ++ rest)) h, same) (u4_again (length content) (content ++ rest) lt)

pub ends_again : (content rest : List ℕ) → attribute_ends (length content) (length (content ++ rest)) (length rest) ≡ Ok 0
ends_again content rest =
    let e : eqb (length (content ++ rest) - length rest) (length content) ≡ true = eq-eqb _ _ (omega (arith, length-append content rest)) in
    rw e refl

pub none_more_again : (slots : List Slot) (rest : List ℕ) → no_more_at slots 0 rest ≡ Ok (0, rest)
unfolding no_more_at
none_more_again slots rest = refl

-- ---- code

frames_of_again : (slots : List Slot) (ks : List Known) → Serves ks slots → (marks : List Bool) → length marks < 65536 → (entry : List Item) (fs : List Frame) (rest : List ℕ) → is_count fs ≡ true → frames_fit marks None entry fs ≡ true → length (spell_table ks entry fs) < 2 ^ 32
    → has ks (KnownText (codes "StackMapTable")) ≡ true → Have ks (frames_uses entry fs) → frames_of_at slots marks entry (spell_attribute ks (codes "StackMapTable") (spell_table ks entry fs) ++ rest) ≡ Ok (fs, rest)
unfolding frames_of_at
frames_of_again slots ks s marks lt entry fs rest n h long name u =
    rw (attribute_again slots ks s (codes "StackMapTable") (spell_table ks entry fs) rest name long, table_again slots ks s marks lt entry fs rest n h u, ends_again (spell_table ks entry fs) rest) refl

code_attributes_again : (slots : List Slot) (ks : List Known) → Serves ks slots → (marks : List Bool) → length marks < 65536 → (entry : List Item) (fs : List Frame) (rest : List ℕ) → is_count fs ≡ true → frames_fit marks None entry fs ≡ true → length (spell_table ks entry fs) < 2 ^ 32
    → Have ks (table_uses entry fs) → code_attributes_at slots marks entry (spell_code_attributes ks entry fs ++ rest) ≡ Ok (fs, rest)
unfolding code_attributes_at
code_attributes_again slots ks s marks lt entry [] rest n h long u = rw (u2_again 0 rest (omega arith)) refl
code_attributes_again slots ks s marks lt entry (f ∷ fs) rest n h long u =
    let attribute = spell_attribute ks (codes "StackMapTable") (spell_table ks entry (f ∷ fs)) in
    rw (u2_again 1 (attribute ++ rest) (omega arith), frames_of_again slots ks s marks lt entry (f ∷ fs) rest n h long u.0 u.1, none_more_again slots rest) refl

pub has_class : (ks : List Known) (o : Option (List ℕ)) → Have ks (class_or_none_uses o) → HasClass ks o
has_class ks None u = tt
has_class ks (Some t) u = u.1.0

pub has_name : (ks : List Known) (o : Option (List ℕ)) → Have ks (name_or_none_uses o) → HasName ks o
has_name ks None u = tt
has_name ks (Some t) u = u.0

each_handler : (slots : List Slot) (ks : List Known) → Serves ks slots → (marks : List Bool) → length marks < 65536 → (hs : List Handler) → list_all (handler_fits marks) hs ≡ true → Have ks (flat_map handler_uses hs) → EachAgain (handler_at slots marks) (spell_handler ks) hs
each_handler slots ks s marks lt [] f u = tt
each_handler slots ks s marks lt (h ∷ hs) f u =
    let p = and_parts (handler_fits marks h) (list_all (handler_fits marks) hs) f in
    let v = have_append ks (handler_uses h) (flat_map handler_uses hs) u in
    (λ rest. handler_again slots ks s marks h rest lt p.0 (has_class ks h.class v.0), each_handler slots ks s marks lt hs p.1 v.1)

length_table : (ks : List Known) (entry : List Item) (fs : List Frame) (room : ℕ) → frames_within room None entry fs ≡ true → length (spell_table ks entry fs) ≤ 2 + room
unfolding spell_table
length_table ks entry fs room h = omega (arith, length_frames ks None entry fs room h)

length_attribute : (ks : List Known) (word content : List ℕ) → length (spell_attribute ks word content) ≡ 6 + length content
unfolding spell_attribute
length_attribute ks word content = omega arith

length_code_attributes : (ks : List Known) (entry : List Item) (fs : List Frame) (room : ℕ) → frames_within room None entry fs ≡ true → length (spell_code_attributes ks entry fs) ≤ 10 + room
length_code_attributes ks entry [] room h = omega arith
length_code_attributes ks entry (f ∷ fs) room h = omega (arith, length_table ks entry (f ∷ fs) room h, length_attribute ks (codes "StackMapTable") (spell_table ks entry (f ∷ fs)))

pub record CodeModelAgain (slots : List Slot) (ks : List Known) (entry : List Item) (c : CodeModel) : Type 0 where
  pub is_read : (rest : List ℕ) → code_at slots entry (spell_code_model ks entry c ++ rest) ≡ Ok (c, rest)
  pub short : length (spell_code_model ks entry c) < 2 ^ 32

pub code_model_again : (slots : List Slot) (ks : List Known) → Serves ks slots → (entry : List Item) (c : CodeModel) → code_fits entry c ≡ true → Have ks (code_uses entry c) → Low ks (flat_map ins_first_uses c.ins) → CodeModelAgain slots ks entry c
unfolding code_at spell_code_model code_fits tables_fit code_uses ins_all_fit counted
code_model_again slots ks s entry c h u l =
    let a = and_parts (is_u16 c.stack) (is_u16 c.locals && (ins_all_fit c.ins && tables_fit (marks_of c.ins) entry c)) h in
    let b = and_parts (is_u16 c.locals) (ins_all_fit c.ins && tables_fit (marks_of c.ins) entry c) a.1 in
    let d = and_parts (ins_all_fit c.ins) (tables_fit (marks_of c.ins) entry c) b.1 in
    let t1 = and_parts (is_count c.handlers) (list_all (handler_fits (marks_of c.ins)) c.handlers && (is_count c.frames && (frames_fit (marks_of c.ins) None entry c.frames && frames_within (frames_room c) None entry c.frames))) d.1 in
    let t2 = and_parts (list_all (handler_fits (marks_of c.ins)) c.handlers) (is_count c.frames && (frames_fit (marks_of c.ins) None entry c.frames && frames_within (frames_room c) None entry c.frames)) t1.1 in
    let t3 = and_parts (is_count c.frames) (frames_fit (marks_of c.ins) None entry c.frames && frames_within (frames_room c) None entry c.frames) t2.1 in
    let t4 = and_parts (frames_fit (marks_of c.ins) None entry c.frames) (frames_within (frames_room c) None entry c.frames) t3.1 in
    let v = have_append ks (flat_map ins_uses c.ins) (flat_map handler_uses c.handlers ++ table_uses entry c.frames) u in
    let x = have_append ks (flat_map handler_uses c.handlers) (table_uses entry c.frames) v.1 in
    let i1 = and_parts (ltb 0 (size_from 0 c.ins)) (ltb (size_from 0 c.ins) 65536 && (all_fit 0 c.ins && list_all (ins_lands (marks_of c.ins)) c.ins)) d.0 in
    let i2 = and_parts (ltb (size_from 0 c.ins) 65536) (all_fit 0 c.ins && list_all (ins_lands (marks_of c.ins)) c.ins) i1.1 in
    let small = ltb-true (size_from 0 c.ins) 65536 i2.0 in
    let few = ltb-true (length c.handlers) 65536 t1.0 in
    let marks-short : length (marks_of c.ins) < 65536 = omega (arith, length_marks 0 c.ins, small) in
    let code = body_again slots ks s c.ins d.0 v.0 l in
    let body = spell_body ks c.ins in
    let handlers = counted (spell_handler ks) c.handlers in
    let attributes = spell_code_attributes ks entry c.frames in
    let l1 = length_code_attributes ks entry c.frames (frames_room c) t4.1 in
    let l2 = length_handlers ks c.handlers in
    let l3 = length-append body (handlers ++ attributes) in
    let l4 = length-append handlers attributes in
    let long : length (spell_table ks entry c.frames) < 2 ^ 32 = omega (arith, length_table ks entry c.frames (frames_room c) t4.1, small, few) in
    record {
      is_read = λ rest.
          let regrouped : (body ++ (handlers ++ attributes)) ++ rest ≡ body ++ (handlers ++ (attributes ++ rest)) = simp append_assoc in
          let hs = listed_again (handler_at slots (marks_of c.ins)) (spell_handler ks) c.handlers (attributes ++ rest) few (each_handler slots ks s (marks_of c.ins) marks-short c.handlers t2.0 x.0) in
          rw (
            u2_again c.stack (to_be_bytes w16 c.locals ++ ((body ++ (handlers ++ attributes)) ++ rest)) (ltb-true c.stack 65536 a.0),
            u2_again c.locals ((body ++ (handlers ++ attributes)) ++ rest) (ltb-true c.locals 65536 b.0),
            regrouped,
            code.is_read (handlers ++ (attributes ++ rest)),
            hs,
            code_attributes_again slots ks s (marks_of c.ins) marks-short entry c.frames rest t3.0 t4.0 long x.1,
          ) refl;
      short = omega (arith, l1, l2, l3, l4, code.size, small, few);
    }
