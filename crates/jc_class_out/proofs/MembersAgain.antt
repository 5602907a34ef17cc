-- Fields, methods, inner classes and the class behind its pool are read again.
use Rattle.std.proofs.Common.{◌≡◌, ◌<◌, ◌^◌, ℕ, ◌*◌, Bool, true, false, cond, List, [], ◌∷◌, ◌++◌, length, Option, Some, None, Ok, refl, append_assoc, arith}
use Rattle.std.specs.Prelude.{◌&&◌, codes}
use Rattle.std.specs.Int.{w16, to_be_bytes}
use Rattle.std.specs.List.{flat_map, list_all}
use Rattle.std.proofs.lemmas.Bool.{ltb-true, and_parts}
use Rattle.std.proofs.lemmas.List.{length-append}
use Rattle.jc_class_out.specs.declared.format.Slot.{Slot}
use Rattle.jc_class_out.specs.declared.model.ClassModel.{ClassModel}
use Rattle.jc_class_out.specs.declared.model.CodeModel.{CodeModel}
use Rattle.jc_class_out.specs.declared.model.FieldModel.{FieldModel}
use Rattle.jc_class_out.specs.declared.model.InnerModel.{InnerModel}
use Rattle.jc_class_out.specs.declared.model.Item.{Item}
use Rattle.jc_class_out.specs.declared.model.MethodModel.{MethodModel}
use Rattle.jc_class_out.specs.Descriptors.{is_field_descriptor, is_method_descriptor}
use Rattle.jc_class_out.specs.Pool.{Known, KnownText, KnownClass, class_named_at, descriptor_at}
use Rattle.jc_class_out.specs.Format.{field_at, is_bodiless, code_attribute_at, with_code_at, without_code_at, method_at, inner_at, inners_at, class_attributes_at, members_at}
use Rattle.jc_class_out.specs.Spelling.{has, index, entry_of_method, ins_first_uses, class_uses, class_or_none_uses, name_or_none_uses, code_uses, code_or_none_uses, method_uses, code_first_uses, method_first_uses, field_uses, inner_uses, inners_uses, members_uses, loads_of, counted, spell_class_or_none, spell_name_or_none, spell_attribute, spell_code_model, spell_code_or_none, spell_method, spell_field, spell_inner, spell_inners, spell_interface, spell_members}
use Rattle.jc_class_out.specs.Fitting.{is_u16, is_count, code_fits, code_or_none_fits, method_fits, field_fits, inner_fits, counts_fit, members_fit}
use Rattle.jc_class_out.proofs.Numbers.{u2_again, EachAgain, listed_again}
use Rattle.jc_class_out.proofs.Served.{Serves, class_again, named_again, class_or_none_again, name_or_none_again}
use Rattle.jc_class_out.proofs.InsAgain.{Have, Low}
use Rattle.jc_class_out.proofs.CodeAgain.{have_append, low_append}
use Rattle.jc_class_out.proofs.ClassAgain.{has_class, has_name, attribute_again, ends_again, none_more_again, code_model_again}

descriptor_again : (slots : List Slot) (ks : List Known) → Serves ks slots → (test : List ℕ → Bool) (t rest : List ℕ) → test t ≡ true → has ks (KnownText t) ≡ true → descriptor_at test slots (index ks (KnownText t) ++ rest) ≡ Ok (t, rest)
unfolding descriptor_at
descriptor_again slots ks s test t rest f h = rw (named_again ks slots s t rest h, f) refl

-- ---- fields

field_again : (slots : List Slot) (ks : List Known) → Serves ks slots → (f : FieldModel) (rest : List ℕ) → field_fits f ≡ true → Have ks (field_uses f) → field_at slots (spell_field ks f ++ rest) ≡ Ok (f, rest)
unfolding field_at spell_field field_fits field_uses
field_again slots ks s f rest h u =
    let p = and_parts (is_u16 f.flags) (is_field_descriptor f.descriptor) h in
    rw (
      u2_again f.flags (index ks (KnownText f.name) ++ (index ks (KnownText f.descriptor) ++ (to_be_bytes w16 0 ++ rest))) (ltb-true f.flags 65536 p.0),
      named_again ks slots s f.name (index ks (KnownText f.descriptor) ++ (to_be_bytes w16 0 ++ rest)) u.0,
      descriptor_again slots ks s is_field_descriptor f.descriptor (to_be_bytes w16 0 ++ rest) p.1 u.1.0,
      u2_again 0 rest (omega arith),
      none_more_again slots rest,
    ) refl

each_field : (slots : List Slot) (ks : List Known) → Serves ks slots → (fs : List FieldModel) → list_all field_fits fs ≡ true → Have ks (flat_map field_uses fs) → EachAgain (field_at slots) (spell_field ks) fs
each_field slots ks s [] h u = tt
each_field slots ks s (f ∷ fs) h u =
    let p = and_parts (field_fits f) (list_all field_fits fs) h in
    let v = have_append ks (field_uses f) (flat_map field_uses fs) u in
    (λ rest. field_again slots ks s f rest p.0 v.0, each_field slots ks s fs p.1 v.1)

-- ---- methods

code_attribute_again : (slots : List Slot) (ks : List Known) → Serves ks slots → (entry : List Item) (c : CodeModel) (rest : List ℕ) → code_fits entry c ≡ true → has ks (KnownText (codes "Code")) ≡ true → Have ks (code_uses entry c) → Low ks (flat_map ins_first_uses c.ins)
    → code_attribute_at slots entry (spell_attribute ks (codes "Code") (spell_code_model ks entry c) ++ rest) ≡ Ok (c, rest)
unfolding code_attribute_at
code_attribute_again slots ks s entry c rest f h u l =
    let code = code_model_again slots ks s entry c f u l in
    rw (attribute_again slots ks s (codes "Code") (spell_code_model ks entry c) rest h code.short, code.is_read rest, ends_again (spell_code_model ks entry c) rest) refl

with_code_again : (slots : List Slot) (ks : List Known) → Serves ks slots → (entry : List Item) (c : CodeModel) (rest : List ℕ) → code_fits entry c ≡ true → has ks (KnownText (codes "Code")) ≡ true → Have ks (code_uses entry c) → Low ks (flat_map ins_first_uses c.ins)
    → with_code_at slots entry (spell_code_or_none ks entry (Some c) ++ rest) ≡ Ok (Some c, rest)
unfolding with_code_at
with_code_again slots ks s entry c rest f h u l =
    rw (u2_again 1 (spell_attribute ks (codes "Code") (spell_code_model ks entry c) ++ rest) (omega arith), code_attribute_again slots ks s entry c rest f h u l, none_more_again slots rest) refl

without_code_again : (slots : List Slot) (ks : List Known) (rest : List ℕ) → without_code_at slots (to_be_bytes w16 0 ++ rest) ≡ Ok (None, rest)
unfolding without_code_at
without_code_again slots ks rest = rw (u2_again 0 rest (omega arith), none_more_again slots rest) refl

-- code exactly where the flags say so
code_again : (slots : List Slot) (ks : List Known) → Serves ks slots → (entry : List Item) (bodiless : Bool) (o : Option CodeModel) (rest : List ℕ) → code_or_none_fits bodiless entry o ≡ true → Have ks (code_or_none_uses entry o) → Low ks (code_first_uses o)
    → cond bodiless (without_code_at slots (spell_code_or_none ks entry o ++ rest)) (with_code_at slots entry (spell_code_or_none ks entry o ++ rest)) ≡ Ok (o, rest)
code_again slots ks s entry true None rest f u l = without_code_again slots ks rest
code_again slots ks s entry false None rest f u l = absurd cc
code_again slots ks s entry true (Some c) rest f u l = absurd cc
code_again slots ks s entry false (Some c) rest f u l = with_code_again slots ks s entry c rest f u.0 u.1 l

method_again : (slots : List Slot) (ks : List Known) → Serves ks slots → (class : List ℕ) (m : MethodModel) (rest : List ℕ) → method_fits class m ≡ true → Have ks (method_uses class m) → Low ks (method_first_uses m) → method_at slots class (spell_method ks class m ++ rest) ≡ Ok (m, rest)
unfolding method_at spell_method method_fits method_uses
method_again slots ks s class m rest h u l =
    let p = and_parts (is_u16 m.flags) (is_method_descriptor m.descriptor && code_or_none_fits (is_bodiless m.flags) (entry_of_method class m) m.code) h in
    let q = and_parts (is_method_descriptor m.descriptor) (code_or_none_fits (is_bodiless m.flags) (entry_of_method class m) m.code) p.1 in
    let code = spell_code_or_none ks (entry_of_method class m) m.code in
    rw (
      u2_again m.flags (index ks (KnownText m.name) ++ (index ks (KnownText m.descriptor) ++ (code ++ rest))) (ltb-true m.flags 65536 p.0),
      named_again ks slots s m.name (index ks (KnownText m.descriptor) ++ (code ++ rest)) u.0,
      descriptor_again slots ks s is_method_descriptor m.descriptor (code ++ rest) q.0 u.1.0,
      code_again slots ks s (entry_of_method class m) (is_bodiless m.flags) m.code rest q.1 u.1.1 l,
    ) refl

each_method : (slots : List Slot) (ks : List Known) → Serves ks slots → (class : List ℕ) (ms : List MethodModel) → list_all (method_fits class) ms ≡ true → Have ks (flat_map (method_uses class) ms) → Low ks (flat_map method_first_uses ms) → EachAgain (method_at slots class) (spell_method ks class) ms
each_method slots ks s class [] h u l = tt
each_method slots ks s class (m ∷ ms) h u l =
    let p = and_parts (method_fits class m) (list_all (method_fits class) ms) h in
    let v = have_append ks (method_uses class m) (flat_map (method_uses class) ms) u in
    let w = low_append ks (method_first_uses m) (flat_map method_first_uses ms) l in
    (λ rest. method_again slots ks s class m rest p.0 v.0 w.0, each_method slots ks s class ms p.1 v.1 w.1)

-- ---- inner classes

inner_again : (slots : List Slot) (ks : List Known) → Serves ks slots → (i : InnerModel) (rest : List ℕ) → inner_fits i ≡ true → Have ks (inner_uses i) → inner_at slots (spell_inner ks i ++ rest) ≡ Ok (i, rest)
unfolding inner_at spell_inner inner_uses
inner_again slots ks s i rest h u =
    let v = have_append ks (class_or_none_uses i.outer) (name_or_none_uses i.name) u.1.1 in
    let outer = spell_class_or_none ks i.outer in
    let name = spell_name_or_none ks i.name in
    let flags = to_be_bytes w16 i.flags in
    let regrouped : (outer ++ (name ++ flags)) ++ rest ≡ outer ++ (name ++ (flags ++ rest)) = simp append_assoc in
    rw (
      class_again ks slots s i.inner ((outer ++ (name ++ flags)) ++ rest) u.1.0,
      regrouped,
      class_or_none_again ks slots s i.outer (name ++ (flags ++ rest)) (has_class ks i.outer v.0),
      name_or_none_again ks slots s i.name (flags ++ rest) (has_name ks i.name v.1),
      u2_again i.flags rest (ltb-true i.flags 65536 h),
    ) refl

each_inner : (slots : List Slot) (ks : List Known) → Serves ks slots → (is : List InnerModel) → list_all inner_fits is ≡ true → Have ks (flat_map inner_uses is) → EachAgain (inner_at slots) (spell_inner ks) is
each_inner slots ks s [] h u = tt
each_inner slots ks s (i ∷ is) h u =
    let p = and_parts (inner_fits i) (list_all inner_fits is) h in
    let v = have_append ks (inner_uses i) (flat_map inner_uses is) u in
    (λ rest. inner_again slots ks s i rest p.0 v.0, each_inner slots ks s is p.1 v.1)

length_class_or_none : (ks : List Known) (o : Option (List ℕ)) → length (spell_class_or_none ks o) ≡ 2
length_class_or_none ks None = refl
length_class_or_none ks (Some t) = refl

length_name_or_none : (ks : List Known) (o : Option (List ℕ)) → length (spell_name_or_none ks o) ≡ 2
length_name_or_none ks None = refl
length_name_or_none ks (Some t) = refl

length_inner : (ks : List Known) (i : InnerModel) → length (spell_inner ks i) ≡ 8
unfolding spell_inner
length_inner ks i = omega (arith, length-append (spell_class_or_none ks i.outer) (spell_name_or_none ks i.name ++ to_be_bytes w16 i.flags), length-append (spell_name_or_none ks i.name) (to_be_bytes w16 i.flags), length_class_or_none ks i.outer, length_name_or_none ks i.name)

length_inners : (ks : List Known) (is : List InnerModel) → length (flat_map (spell_inner ks) is) ≡ 8 * length is
length_inners ks [] = refl
length_inners ks (i ∷ is) = omega (arith, length-append (spell_inner ks i) (flat_map (spell_inner ks) is), length_inner ks i, length_inners ks is)

length_rows : (ks : List Known) (is : List InnerModel) → length is < 65536 → length (counted (spell_inner ks) is) < 2 ^ 32
unfolding counted
length_rows ks is lt = omega (arith, lt, length_inners ks is)

inners_again : (slots : List Slot) (ks : List Known) → Serves ks slots → (is : List InnerModel) (rest : List ℕ) → length is < 65536 → list_all inner_fits is ≡ true → has ks (KnownText (codes "InnerClasses")) ≡ true → Have ks (flat_map inner_uses is)
    → inners_at slots (spell_attribute ks (codes "InnerClasses") (counted (spell_inner ks) is) ++ rest) ≡ Ok (is, rest)
unfolding inners_at
inners_again slots ks s is rest lt f h u =
    rw (attribute_again slots ks s (codes "InnerClasses") (counted (spell_inner ks) is) rest h (length_rows ks is lt), listed_again (inner_at slots) (spell_inner ks) is rest lt (each_inner slots ks s is f u), ends_again (counted (spell_inner ks) is) rest) refl

class_attributes_again : (slots : List Slot) (ks : List Known) → Serves ks slots → (is : List InnerModel) (rest : List ℕ) → length is < 65536 → list_all inner_fits is ≡ true → Have ks (inners_uses is) → class_attributes_at slots (spell_inners ks is ++ rest) ≡ Ok (is, rest)
unfolding class_attributes_at
class_attributes_again slots ks s [] rest lt f u = rw (u2_again 0 rest (omega arith)) refl
class_attributes_again slots ks s (i ∷ is) rest lt f u =
    rw (u2_again 1 (spell_attribute ks (codes "InnerClasses") (counted (spell_inner ks) (i ∷ is)) ++ rest) (omega arith), inners_again slots ks s (i ∷ is) rest lt f u.0 u.1, none_more_again slots rest) refl

-- ---- interfaces

each_interface : (slots : List Slot) (ks : List Known) → Serves ks slots → (ns : List (List ℕ)) → Have ks (flat_map class_uses ns) → EachAgain (class_named_at slots) (spell_interface ks) ns
unfolding spell_interface
each_interface slots ks s [] u = tt
each_interface slots ks s (n ∷ ns) u = (λ rest. class_again ks slots s n rest u.1.0, each_interface slots ks s ns u.1.1)

-- ---- the class

pub members_again : (slots : List Slot) (ks : List Known) → Serves ks slots → (c : ClassModel) (rest : List ℕ) → members_fit c ≡ true → Have ks (members_uses c) → Low ks (loads_of c) → members_at slots (spell_members ks c ++ rest) ≡ Ok (c, rest)
unfolding members_at spell_members members_fit counts_fit members_uses loads_of
members_again slots ks s c rest h u l =
    let a = and_parts (is_u16 c.flags) ((is_count c.interfaces && (is_count c.fields && (is_count c.methods && is_count c.inner))) && (list_all field_fits c.fields && (list_all (method_fits c.name) c.methods && list_all inner_fits c.inner))) h in
    let b = and_parts (is_count c.interfaces && (is_count c.fields && (is_count c.methods && is_count c.inner))) (list_all field_fits c.fields && (list_all (method_fits c.name) c.methods && list_all inner_fits c.inner)) a.1 in
    let n1 = and_parts (is_count c.interfaces) (is_count c.fields && (is_count c.methods && is_count c.inner)) b.0 in
    let n2 = and_parts (is_count c.fields) (is_count c.methods && is_count c.inner) n1.1 in
    let n3 = and_parts (is_count c.methods) (is_count c.inner) n2.1 in
    let f1 = and_parts (list_all field_fits c.fields) (list_all (method_fits c.name) c.methods && list_all inner_fits c.inner) b.1 in
    let f2 = and_parts (list_all (method_fits c.name) c.methods) (list_all inner_fits c.inner) f1.1 in
    let v0 = have_append ks (class_uses c.name) (class_or_none_uses c.superclass ++ (flat_map class_uses c.interfaces ++ (flat_map field_uses c.fields ++ (flat_map (method_uses c.name) c.methods ++ inners_uses c.inner)))) u in
    let v1 = have_append ks (class_or_none_uses c.superclass) (flat_map class_uses c.interfaces ++ (flat_map field_uses c.fields ++ (flat_map (method_uses c.name) c.methods ++ inners_uses c.inner))) v0.1 in
    let v2 = have_append ks (flat_map class_uses c.interfaces) (flat_map field_uses c.fields ++ (flat_map (method_uses c.name) c.methods ++ inners_uses c.inner)) v1.1 in
    let v3 = have_append ks (flat_map field_uses c.fields) (flat_map (method_uses c.name) c.methods ++ inners_uses c.inner) v2.1 in
    let v4 = have_append ks (flat_map (method_uses c.name) c.methods) (inners_uses c.inner) v3.1 in
    let super = spell_class_or_none ks c.superclass in
    let interfaces = counted (spell_interface ks) c.interfaces in
    let fields = counted (spell_field ks) c.fields in
    let methods = counted (spell_method ks c.name) c.methods in
    let inner = spell_inners ks c.inner in
    let regrouped : (super ++ (interfaces ++ (fields ++ (methods ++ inner)))) ++ rest ≡ super ++ (interfaces ++ (fields ++ (methods ++ (inner ++ rest)))) = simp append_assoc in
    rw (
      u2_again c.flags (index ks (KnownClass c.name) ++ ((super ++ (interfaces ++ (fields ++ (methods ++ inner)))) ++ rest)) (ltb-true c.flags 65536 a.0),
      class_again ks slots s c.name ((super ++ (interfaces ++ (fields ++ (methods ++ inner)))) ++ rest) v0.0.1.0,
      regrouped,
      class_or_none_again ks slots s c.superclass (interfaces ++ (fields ++ (methods ++ (inner ++ rest)))) (has_class ks c.superclass v1.0),
      listed_again (class_named_at slots) (spell_interface ks) c.interfaces (fields ++ (methods ++ (inner ++ rest))) (ltb-true (length c.interfaces) 65536 n1.0) (each_interface slots ks s c.interfaces v2.0),
      listed_again (field_at slots) (spell_field ks) c.fields (methods ++ (inner ++ rest)) (ltb-true (length c.fields) 65536 n2.0) (each_field slots ks s c.fields f1.0 v3.0),
      listed_again (method_at slots c.name) (spell_method ks c.name) c.methods (inner ++ rest) (ltb-true (length c.methods) 65536 n3.0) (each_method slots ks s c.name c.methods f2.0 v4.0 l),
      class_attributes_again slots ks s c.inner rest (ltb-true (length c.inner) 65536 n3.1) f2.1 v4.1,
    ) refl
