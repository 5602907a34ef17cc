-- A class that fits, its pool left out, uses constants fewer times than a number of 63 bits says.
use Rattle.std.proofs.Common.{◌≡◌, ◌<◌, ◌≤◌, ◌^◌, ℕ, ◌+◌, ◌*◌, Bool, true, false, cond, List, [], ◌∷◌, ◌++◌, length, Option, Some, None, arith}
use Rattle.std.specs.Prelude.{◌&&◌, not, nat_lt}
use Rattle.std.specs.List.{flat_map, list_all}
use Rattle.std.proofs.lemmas.Bool.{ltb-true, and_parts}
use Rattle.std.proofs.lemmas.List.{length-append}
use Rattle.jc_class_out.specs.declared.forms.Form.{Form}
use Rattle.jc_class_out.specs.declared.format.Kind.{Kind}
use Rattle.jc_class_out.specs.declared.model.ClassModel.{ClassModel}
use Rattle.jc_class_out.specs.declared.model.CodeModel.{CodeModel}
use Rattle.jc_class_out.specs.declared.model.FieldModel.{FieldModel}
use Rattle.jc_class_out.specs.declared.model.Frame.{Frame}
use Rattle.jc_class_out.specs.declared.model.InnerModel.{InnerModel}
use Rattle.jc_class_out.specs.declared.model.Ins.{Ins}
use Rattle.jc_class_out.specs.declared.model.Item.{Item}
use Rattle.jc_class_out.specs.declared.model.Item.TheVariants as item
use Rattle.jc_class_out.specs.declared.model.Loaded.TheVariants as loaded
use Rattle.jc_class_out.specs.declared.model.MethodModel.{MethodModel}
use Rattle.jc_class_out.specs.declared.model.Operand.{Operand}
use Rattle.jc_class_out.specs.declared.model.Operand.TheVariants as op
use Rattle.jc_class_out.specs.Descriptors.{is_method_descriptor}
use Rattle.jc_class_out.specs.Pool.{Known}
use Rattle.jc_class_out.specs.Instructions.{kind_of}
use Rattle.jc_class_out.specs.Frames.{begins}
use Rattle.jc_class_out.specs.Code.{marks_of, size_from}
use Rattle.jc_class_out.specs.Format.{is_bodiless}
use Rattle.jc_class_out.specs.Forms.{form_of, written_locals, written_stack}
use Rattle.jc_class_out.specs.Spelling.{class_uses, class_or_none_uses, name_or_none_uses, member_uses, operand_uses, ins_uses, first_uses, ins_first_uses, is_load, handler_uses, item_uses, form_uses, frames_uses, table_uses, entry_of_method, code_uses, code_or_none_uses, method_uses, code_first_uses, method_first_uses, field_uses, inner_uses, inners_uses, members_uses, loads_of, uses}
use Rattle.jc_class_out.specs.Fitting.{is_u16, is_count, item_fits, is_behind, items_fit, form_fits, frame_fits, frames_fit, all_fit, ins_lands, ins_all_fit, handler_fits, frames_within, frames_room, tables_fit, code_fits, code_or_none_fits, method_fits, field_fits, inner_fits, counts_fit, members_fit}
use Rattle.jc_class_out.proofs.CodeAgain.{few_ins}

flat_any : {X : Type 0} (f : X → List Known) (b : ℕ) → ((x : X) → length (f x) ≤ b) → (xs : List X) → length (flat_map f xs) ≤ length xs * b
flat_any f b h [] = omega arith
flat_any f b h (x ∷ xs) = omega (arith, h x, flat_any f b h xs, length-append (f x) (flat_map f xs))

flat_few : {X : Type 0} (f : X → List Known) (test : X → Bool) (b : ℕ) → ((x : X) → test x ≡ true → length (f x) ≤ b) → (xs : List X) → list_all test xs ≡ true → length (flat_map f xs) ≤ length xs * b
flat_few f test b h [] t = omega arith
flat_few f test b h (x ∷ xs) t =
    let p = and_parts (test x) (list_all test xs) t in
    omega (arith, h x p.0, flat_few f test b h xs p.1, length-append (f x) (flat_map f xs))

few_operand : (kind : Kind) (o : Operand) → length (operand_uses kind o) ≤ 6
unfolding operand_uses member_uses
few_operand kind (op.Load (loaded.Whole n)) = omega arith
few_operand kind (op.Load (loaded.Long n)) = omega arith
few_operand kind (op.Load (loaded.Text t)) = omega arith
few_operand kind (op.Member c n d) = omega arith
few_operand kind (op.Class c) = omega arith
few_operand kind (op.Dims c n) = omega arith
few_operand kind _ = omega arith

few_load_by : (o : Operand) (b : Bool) → length (cond b (first_uses o) []) ≤ 1
few_load_by o false = omega arith
few_load_by (op.Load (loaded.Whole n)) true = omega arith
few_load_by (op.Load (loaded.Text t)) true = omega arith
few_load_by (op.Load (loaded.Long n)) true = omega arith
few_load_by _ true = omega arith

few_load : (i : Ins) → length (ins_first_uses i) ≤ 1
unfolding ins_first_uses
few_load i = few_load_by i.operand (is_load (kind_of i.code))

few_class : (o : Option (List ℕ)) → length (class_or_none_uses o) ≤ 2
few_class None = omega arith
few_class (Some t) = omega arith

few_name : (o : Option (List ℕ)) → length (name_or_none_uses o) ≤ 1
few_name None = omega arith
few_name (Some t) = omega arith

few_item : (i : Item) → length (item_uses i) ≤ 2
few_item (item.Object t) = omega arith
few_item _ = omega arith

few_items : (marks : List Bool) (is : List Item) → items_fit marks is ≡ true → length (flat_map item_uses is) ≤ 131072
unfolding items_fit
few_items marks is h =
    let p = and_parts (is_count is) (list_all (item_fits marks) is) h in
    let few = ltb-true (length is) 65536 p.0 in
    omega (arith, few, flat_any item_uses 2 few_item is)

few_form : (marks : List Bool) (f : Frame) (form : Form) → form_fits marks f form ≡ true → length (form_uses f form) ≤ 262144
unfolding form_fits form_uses
few_form marks f form h =
    let c = and_parts (items_fit marks (written_locals f form)) (items_fit marks (written_stack f form)) h in
    omega (arith, few_items marks (written_locals f form) c.0, few_items marks (written_stack f form) c.1, length-append (flat_map item_uses (written_locals f form)) (flat_map item_uses (written_stack f form)))

few_frames : (marks : List Bool) (before : Option ℕ) (seen : List Item) (fs : List Frame) → frames_fit marks before seen fs ≡ true → length (frames_uses seen fs) ≤ length fs * 262144
unfolding frames_fit frame_fits frames_uses
few_frames marks before seen [] h = omega arith
few_frames marks before seen (f ∷ fs) h =
    let p = and_parts (begins marks f.at && (is_behind before f.at && form_fits marks f (form_of seen f))) (frames_fit marks (Some (f.at)) f.locals fs) h in
    let a = and_parts (begins marks f.at) (is_behind before f.at && form_fits marks f (form_of seen f)) p.0 in
    let b = and_parts (is_behind before f.at) (form_fits marks f (form_of seen f)) a.1 in
    omega (arith, few_form marks f (form_of seen f) b.1, few_frames marks (Some (f.at)) f.locals fs p.1, length-append (form_uses f (form_of seen f)) (frames_uses f.locals fs))

few_table : (entry : List Item) (fs : List Frame) → length (table_uses entry fs) ≤ 1 + length (frames_uses entry fs)
few_table entry [] = omega arith
few_table entry (f ∷ fs) = omega arith

record CodeFew (entry : List Item) (c : CodeModel) : Type 0 where
  all : length (code_uses entry c) < 2 ^ 35
  loads : length (flat_map ins_first_uses c.ins) < 65536

few_code : (entry : List Item) (c : CodeModel) → code_fits entry c ≡ true → CodeFew entry c
unfolding code_fits ins_all_fit tables_fit code_uses
few_code entry c h =
    let a = and_parts (is_u16 c.stack) (is_u16 c.locals && (ins_all_fit c.ins && tables_fit (marks_of c.ins) entry c)) h in
    let b = and_parts (is_u16 c.locals) (ins_all_fit c.ins && tables_fit (marks_of c.ins) entry c) a.1 in
    let d = and_parts (ins_all_fit c.ins) (tables_fit (marks_of c.ins) entry c) b.1 in
    let t1 = and_parts (is_count c.handlers) (list_all (handler_fits (marks_of c.ins)) c.handlers && (is_count c.frames && (frames_fit (marks_of c.ins) None entry c.frames && frames_within (frames_room c) None entry c.frames))) d.1 in
    let t2 = and_parts (list_all (handler_fits (marks_of c.ins)) c.handlers) (is_count c.frames && (frames_fit (marks_of c.ins) None entry c.frames && frames_within (frames_room c) None entry c.frames)) t1.1 in
    let t3 = and_parts (is_count c.frames) (frames_fit (marks_of c.ins) None entry c.frames && frames_within (frames_room c) None entry c.frames) t2.1 in
    let t4 = and_parts (frames_fit (marks_of c.ins) None entry c.frames) (frames_within (frames_room c) None entry c.frames) t3.1 in
    let i1 = and_parts (nat_lt 0 (size_from 0 c.ins)) (nat_lt (size_from 0 c.ins) 65536 && (all_fit 0 c.ins && list_all (ins_lands (marks_of c.ins)) c.ins)) d.0 in
    let i2 = and_parts (nat_lt (size_from 0 c.ins) 65536) (all_fit 0 c.ins && list_all (ins_lands (marks_of c.ins)) c.ins) i1.1 in
    let small = ltb-true (size_from 0 c.ins) 65536 i2.0 in
    let few = few_ins 0 c.ins in
    let hs = ltb-true (length c.handlers) 65536 t1.0 in
    let fs = ltb-true (length c.frames) 65536 t3.0 in
    record {
      all = omega (
        arith,
        small,
        few,
        hs,
        fs,
        flat_any ins_uses 6 (λ i. few_operand (kind_of i.code) i.operand) c.ins,
        flat_any handler_uses 2 (λ h. few_class h.class) c.handlers,
        few_frames (marks_of c.ins) None entry c.frames t4.0,
        few_table entry c.frames,
        length-append (flat_map ins_uses c.ins) (flat_map handler_uses c.handlers ++ table_uses entry c.frames),
        length-append (flat_map handler_uses c.handlers) (table_uses entry c.frames),
      );
      loads = omega (arith, small, few, flat_any ins_first_uses 1 few_load c.ins);
    }

few_code_or_none : (b : Bool) (entry : List Item) (o : Option CodeModel) → code_or_none_fits b entry o ≡ true → (length (code_or_none_uses entry o) ≤ 2 ^ 35) × (length (code_first_uses o) ≤ 65536)
few_code_or_none b entry None h = (omega arith, omega arith)
few_code_or_none b entry (Some c) h =
    let p = and_parts (not b) (code_fits entry c) h in
    let f = few_code entry c p.1 in
    (omega (arith, f.all), omega (arith, f.loads))

few_method : (class : List ℕ) (m : MethodModel) → method_fits class m ≡ true → (length (method_uses class m) ≤ 2 ^ 36) × (length (method_first_uses m) ≤ 65536)
unfolding method_fits method_uses
few_method class m h =
    let p = and_parts (is_u16 m.flags) (is_method_descriptor m.descriptor && code_or_none_fits (is_bodiless m.flags) (entry_of_method class m) m.code) h in
    let q = and_parts (is_method_descriptor m.descriptor) (code_or_none_fits (is_bodiless m.flags) (entry_of_method class m) m.code) p.1 in
    let f = few_code_or_none (is_bodiless m.flags) (entry_of_method class m) m.code q.1 in
    (omega (arith, f.0), f.1)

few_field : (f : FieldModel) → length (field_uses f) ≤ 2
unfolding field_uses
few_field f = omega arith

few_inner : (i : InnerModel) → length (inner_uses i) ≤ 5
unfolding inner_uses
few_inner i = omega (arith, few_class i.outer, few_name i.name, length-append (class_or_none_uses i.outer) (name_or_none_uses i.name))

few_inners : (is : List InnerModel) → length (inners_uses is) ≤ 1 + length is * 5
few_inners [] = omega arith
few_inners (i ∷ is) = omega (arith, flat_any inner_uses 5 few_inner (i ∷ is))

two_class : (t : List ℕ) → length (class_uses t) ≤ 2
two_class t = omega arith

pub few_uses : (c : ClassModel) → members_fit c ≡ true → length (uses c) < 2 ^ 63
unfolding members_fit counts_fit uses loads_of members_uses
few_uses c h =
    let a = and_parts (is_u16 c.flags) ((is_count c.interfaces && (is_count c.fields && (is_count c.methods && is_count c.inner))) && (list_all field_fits c.fields && (list_all (method_fits c.name) c.methods && list_all inner_fits c.inner))) h in
    let b = and_parts (is_count c.interfaces && (is_count c.fields && (is_count c.methods && is_count c.inner))) (list_all field_fits c.fields && (list_all (method_fits c.name) c.methods && list_all inner_fits c.inner)) a.1 in
    let n1 = and_parts (is_count c.interfaces) (is_count c.fields && (is_count c.methods && is_count c.inner)) b.0 in
    let n2 = and_parts (is_count c.fields) (is_count c.methods && is_count c.inner) n1.1 in
    let n3 = and_parts (is_count c.methods) (is_count c.inner) n2.1 in
    let f1 = and_parts (list_all field_fits c.fields) (list_all (method_fits c.name) c.methods && list_all inner_fits c.inner) b.1 in
    let f2 = and_parts (list_all (method_fits c.name) c.methods) (list_all inner_fits c.inner) f1.1 in
    let l1 = ltb-true (length c.interfaces) 65536 n1.0 in
    let l2 = ltb-true (length c.fields) 65536 n2.0 in
    let l3 = ltb-true (length c.methods) 65536 n3.0 in
    let l4 = ltb-true (length c.inner) 65536 n3.1 in
    let m1 = flat_few (method_uses c.name) (method_fits c.name) (2 ^ 36) (λ m t. (few_method c.name m t).0) c.methods f2.0 in
    let m2 = flat_few method_first_uses (method_fits c.name) 65536 (λ m t. (few_method c.name m t).1) c.methods f2.0 in
    let i1 = flat_any class_uses 2 two_class c.interfaces in
    let d1 = flat_any field_uses 2 few_field c.fields in
    let ms = flat_map (method_uses c.name) c.methods in
    let us4 = ms ++ inners_uses c.inner in
    let us3 = flat_map field_uses c.fields ++ us4 in
    let us2 = flat_map class_uses c.interfaces ++ us3 in
    let us1 = class_or_none_uses c.superclass ++ us2 in
    omega (arith, l1, l2, l3, l4, m1, m2, i1, d1, few_inners c.inner, few_class c.superclass, length-append (flat_map method_first_uses c.methods) (class_uses c.name ++ us1), length-append (class_or_none_uses c.superclass) us2, length-append (flat_map class_uses c.interfaces) us3, length-append (flat_map field_uses c.fields) us4, length-append ms (inners_uses c.inner))
