-- The constants that a class uses: what each names is used too, and the second place of a long stands behind it.
use Rattle.std.proofs.Common.{◌≡◌, ℕ, ℤ, Bool, true, false, cond, List, [], ◌∷◌, ◌++◌, Option, Some, None, refl}
use Rattle.std.specs.Prelude.{codes}
use Rattle.std.specs.List.{flat_map, AllByRecursion}
use Rattle.jc_class_out.specs.declared.forms.Form.{Form}
use Rattle.jc_class_out.specs.declared.format.Kind.{Kind}
use Rattle.jc_class_out.specs.declared.format.Kind.TheVariants.{Field, Interface}
use Rattle.jc_class_out.specs.declared.model.ClassModel.{ClassModel}
use Rattle.jc_class_out.specs.declared.model.CodeModel.{CodeModel}
use Rattle.jc_class_out.specs.declared.model.FieldModel.{FieldModel}
use Rattle.jc_class_out.specs.declared.model.Frame.{Frame}
use Rattle.jc_class_out.specs.declared.model.InnerModel.{InnerModel}
use Rattle.jc_class_out.specs.declared.model.Ins.{Ins}
use Rattle.jc_class_out.specs.declared.model.Item.{Item}
use Rattle.jc_class_out.specs.declared.model.Item.TheVariants as item
use Rattle.jc_class_out.specs.declared.model.Loaded.{Loaded}
use Rattle.jc_class_out.specs.declared.model.Loaded.TheVariants as loaded
use Rattle.jc_class_out.specs.declared.model.MethodModel.{MethodModel}
use Rattle.jc_class_out.specs.declared.model.Operand.{Operand}
use Rattle.jc_class_out.specs.declared.model.Operand.TheVariants as op
use Rattle.jc_class_out.specs.Pool.{Known, KnownText, KnownWhole, KnownLong, KnownBehind, KnownClass, KnownLiteral, KnownField, KnownMethod, KnownInterface, KnownPair}
use Rattle.jc_class_out.specs.Instructions.{kind_of}
use Rattle.jc_class_out.specs.Forms.{form_of, written_locals, written_stack}
use Rattle.jc_class_out.specs.Spelling.{has, class_uses, class_or_none_uses, name_or_none_uses, member_known, loaded_uses, member_uses, operand_uses, ins_uses, first_uses, ins_first_uses, is_load, handler_uses, item_uses, form_uses, frames_uses, table_uses, entry_of_method, code_uses, code_or_none_uses, method_uses, code_first_uses, method_first_uses, field_uses, inner_uses, inners_uses, members_uses, loads_of, uses}
use Rattle.jc_class_out.proofs.Known.{has_first, has_later, has_left, has_right}
use Rattle.jc_class_out.proofs.Served.{Parts, is_behind_known}

-- ---- parts

-- whatever the one has, the other has
abbrev pub Within : List Known → List Known → Type 0
Within a b = (k : Known) → has a k ≡ true → has b k ≡ true

pub parts_more : (a b : List Known) → Within a b → (k : Known) → Parts a k → Parts b k
parts_more a b w (KnownText t) p = tt
parts_more a b w (KnownWhole n) p = tt
parts_more a b w (KnownLong n) p = tt
parts_more a b w (KnownBehind n) p = tt
parts_more a b w (KnownClass t) p = w (KnownText t) p
parts_more a b w (KnownLiteral t) p = w (KnownText t) p
parts_more a b w (KnownField c n d) p = (w (KnownClass c) p.0, w (KnownPair n d) p.1)
parts_more a b w (KnownMethod c n d) p = (w (KnownClass c) p.0, w (KnownPair n d) p.1)
parts_more a b w (KnownInterface c n d) p = (w (KnownClass c) p.0, w (KnownPair n d) p.1)
parts_more a b w (KnownPair n d) p = (w (KnownText n) p.0, w (KnownText d) p.1)

-- the parts of each of us are in the list
abbrev pub PartsIn : List Known → List Known → Type 0
PartsIn all us = AllByRecursion (Parts all) us

pub all_more : (a b : List Known) → Within a b → (us : List Known) → PartsIn a us → PartsIn b us
all_more a b w [] p = tt
all_more a b w (u ∷ us) p = (parts_more a b w u p.0, all_more a b w us p.1)

pub parts_append : (all us vs : List Known) → PartsIn all us → PartsIn all vs → PartsIn all (us ++ vs)
parts_append all [] vs p q = q
parts_append all (u ∷ us) vs p q = (p.0, parts_append all us vs p.1 q)

abbrev pub Closed : List Known → Type 0
Closed us = PartsIn us us

-- what f gives has its parts in what g gives
parts_flat : {X : Type 0} (f g : X → List Known) → ((x : X) → PartsIn (g x) (f x)) → (xs : List X) → PartsIn (flat_map g xs) (flat_map f xs)
parts_flat f g h [] = tt
parts_flat f g h (x ∷ xs) = parts_append (g x ++ flat_map g xs) (f x) (flat_map f xs)
    (all_more (g x) (g x ++ flat_map g xs) (λ k t. has_left (g x) (flat_map g xs) k t) (f x) (h x))
    (all_more (flat_map g xs) (g x ++ flat_map g xs) (λ k t. has_right (g x) (flat_map g xs) k t) (flat_map f xs) (parts_flat f g h xs))

closed_append : (us vs : List Known) → Closed us → Closed vs → Closed (us ++ vs)
closed_append us vs p q = parts_append (us ++ vs) us vs (all_more us (us ++ vs) (λ k t. has_left us vs k t) us p) (all_more vs (us ++ vs) (λ k t. has_right us vs k t) vs q)

closed_text : (t : List ℕ) (us : List Known) → Closed us → Closed (KnownText t ∷ us)
closed_text t us p = (tt, all_more us (KnownText t ∷ us) (λ k h. has_later (KnownText t) k us h) us p)

closed_class : (t : List ℕ) → Closed (class_uses t)
closed_class t = (tt, (has_first (KnownText t) (KnownClass t ∷ []), tt))

closed_class_or_none : (o : Option (List ℕ)) → Closed (class_or_none_uses o)
closed_class_or_none None = tt
closed_class_or_none (Some t) = closed_class t

closed_name_or_none : (o : Option (List ℕ)) → Closed (name_or_none_uses o)
closed_name_or_none None = tt
closed_name_or_none (Some t) = (tt, tt)

closed_loaded : (l : Loaded) → Closed (loaded_uses l)
closed_loaded (loaded.Whole n) = (tt, tt)
closed_loaded (loaded.Long n) = (tt, (tt, tt))
closed_loaded (loaded.Text t) = (tt, (has_first (KnownText t) (KnownLiteral t ∷ []), tt))

member_parts : (kind : Kind) (all : List Known) (c n d : List ℕ) → has all (KnownClass c) ≡ true → has all (KnownPair n d) ≡ true → Parts all (member_known kind c n d)
member_parts Field all c n d h g = (h, g)
member_parts Interface all c n d h g = (h, g)
member_parts _ all c n d h g = (h, g)

closed_member : (kind : Kind) (c n d : List ℕ) → Closed (member_uses kind c n d)
unfolding member_uses
closed_member kind c n d =
    let m = member_known kind c n d in
    let l5 = KnownPair n d ∷ m ∷ [] in
    let l4 = KnownText d ∷ l5 in
    let l3 = KnownText n ∷ l4 in
    let l2 = KnownClass c ∷ l3 in
    let l1 = KnownText c ∷ l2 in
    let tn : has l1 (KnownText n) ≡ true = has_later (KnownText c) (KnownText n) l2 (has_later (KnownClass c) (KnownText n) l3 (has_first (KnownText n) l4)) in
    let td : has l1 (KnownText d) ≡ true = has_later (KnownText c) (KnownText d) l2 (has_later (KnownClass c) (KnownText d) l3 (has_later (KnownText n) (KnownText d) l4 (has_first (KnownText d) l5))) in
    let tc : has l1 (KnownClass c) ≡ true = has_later (KnownText c) (KnownClass c) l2 (has_first (KnownClass c) l3) in
    let tp : has l1 (KnownPair n d) ≡ true = has_later (KnownText c) (KnownPair n d) l2 (has_later (KnownClass c) (KnownPair n d) l3 (has_later (KnownText n) (KnownPair n d) l4 (has_later (KnownText d) (KnownPair n d) l5 (has_first (KnownPair n d) (m ∷ []))))) in
    (tt, (has_first (KnownText c) l2, (tt, (tt, ((tn, td), (member_parts kind l1 c n d tc tp, tt))))))

closed_operand : (kind : Kind) (o : Operand) → Closed (operand_uses kind o)
unfolding operand_uses
closed_operand kind (op.Load l) = closed_loaded l
closed_operand kind (op.Member c n d) = closed_member kind c n d
closed_operand kind (op.Class c) = closed_class c
closed_operand kind (op.Dims c n) = closed_class c
closed_operand kind _ = tt

closed_flat : {X : Type 0} (f : X → List Known) → ((x : X) → Closed (f x)) → (xs : List X) → Closed (flat_map f xs)
closed_flat f h xs = parts_flat f f h xs

closed_item : (i : Item) → Closed (item_uses i)
closed_item (item.Object t) = closed_class t
closed_item _ = tt

closed_form : (f : Frame) (form : Form) → Closed (form_uses f form)
unfolding form_uses
closed_form f form = closed_append (flat_map item_uses (written_locals f form)) (flat_map item_uses (written_stack f form)) (closed_flat item_uses closed_item (written_locals f form)) (closed_flat item_uses closed_item (written_stack f form))

closed_frames : (seen : List Item) (fs : List Frame) → Closed (frames_uses seen fs)
unfolding frames_uses
closed_frames seen [] = tt
closed_frames seen (f ∷ fs) = closed_append (form_uses f (form_of seen f)) (frames_uses f.locals fs) (closed_form f (form_of seen f)) (closed_frames f.locals fs)

closed_table : (entry : List Item) (fs : List Frame) → Closed (table_uses entry fs)
closed_table entry [] = tt
closed_table entry (f ∷ fs) = closed_text (codes "StackMapTable") (frames_uses entry (f ∷ fs)) (closed_frames entry (f ∷ fs))

closed_code : (entry : List Item) (c : CodeModel) → Closed (code_uses entry c)
unfolding code_uses
closed_code entry c = closed_append (flat_map ins_uses c.ins) (flat_map handler_uses c.handlers ++ table_uses entry c.frames) (closed_flat ins_uses (λ i. closed_operand (kind_of i.code) i.operand) c.ins)
    (closed_append (flat_map handler_uses c.handlers) (table_uses entry c.frames) (closed_flat handler_uses (λ h. closed_class_or_none h.class) c.handlers) (closed_table entry c.frames))

closed_code_or_none : (entry : List Item) (o : Option CodeModel) → Closed (code_or_none_uses entry o)
closed_code_or_none entry None = tt
closed_code_or_none entry (Some c) = closed_text (codes "Code") (code_uses entry c) (closed_code entry c)

closed_method : (class : List ℕ) (m : MethodModel) → Closed (method_uses class m)
unfolding method_uses
closed_method class m = closed_text m.name (KnownText m.descriptor ∷ code_or_none_uses (entry_of_method class m) m.code) (closed_text m.descriptor (code_or_none_uses (entry_of_method class m) m.code) (closed_code_or_none (entry_of_method class m) m.code))

closed_field : (f : FieldModel) → Closed (field_uses f)
unfolding field_uses
closed_field f = (tt, (tt, tt))

closed_inner : (i : InnerModel) → Closed (inner_uses i)
unfolding inner_uses
closed_inner i = closed_append (class_uses i.inner) (class_or_none_uses i.outer ++ name_or_none_uses i.name) (closed_class i.inner) (closed_append (class_or_none_uses i.outer) (name_or_none_uses i.name) (closed_class_or_none i.outer) (closed_name_or_none i.name))

closed_inners : (is : List InnerModel) → Closed (inners_uses is)
closed_inners [] = tt
closed_inners (i ∷ is) = closed_text (codes "InnerClasses") (flat_map inner_uses (i ∷ is)) (closed_flat inner_uses closed_inner (i ∷ is))

closed_members : (c : ClassModel) → Closed (members_uses c)
unfolding members_uses
closed_members c =
    closed_append (class_uses c.name) (class_or_none_uses c.superclass ++ (flat_map class_uses c.interfaces ++ (flat_map field_uses c.fields ++ (flat_map (method_uses c.name) c.methods ++ inners_uses c.inner)))) (closed_class c.name)
    (closed_append (class_or_none_uses c.superclass) (flat_map class_uses c.interfaces ++ (flat_map field_uses c.fields ++ (flat_map (method_uses c.name) c.methods ++ inners_uses c.inner))) (closed_class_or_none c.superclass)
    (closed_append (flat_map class_uses c.interfaces) (flat_map field_uses c.fields ++ (flat_map (method_uses c.name) c.methods ++ inners_uses c.inner)) (closed_flat class_uses closed_class c.interfaces)
    (closed_append (flat_map field_uses c.fields) (flat_map (method_uses c.name) c.methods ++ inners_uses c.inner) (closed_flat field_uses closed_field c.fields)
    (closed_append (flat_map (method_uses c.name) c.methods) (inners_uses c.inner) (closed_flat (method_uses c.name) (closed_method c.name) c.methods) (closed_inners c.inner)))))

-- ---- what ldc loads

load_by : (kind : Kind) (o : Operand) (b : Bool) → PartsIn (operand_uses kind o) (cond b (first_uses o) [])
unfolding operand_uses
load_by kind o false = tt
load_by kind (op.Load (loaded.Whole n)) true = (tt, tt)
load_by kind (op.Load (loaded.Text t)) true = (has_first (KnownText t) (KnownLiteral t ∷ []), tt)
load_by kind (op.Load (loaded.Long n)) true = tt
load_by kind _ true = tt

load_parts : (i : Ins) → PartsIn (ins_uses i) (ins_first_uses i)
unfolding ins_first_uses
load_parts i = load_by (kind_of i.code) i.operand (is_load (kind_of i.code))

code_loads : (entry : List Item) (o : Option CodeModel) → PartsIn (code_or_none_uses entry o) (code_first_uses o)
unfolding code_uses
code_loads entry None = tt
code_loads entry (Some c) =
    let rest = flat_map handler_uses c.handlers ++ table_uses entry c.frames in
    all_more (flat_map ins_uses c.ins) (KnownText (codes "Code") ∷ (flat_map ins_uses c.ins ++ rest)) (λ k h. has_later (KnownText (codes "Code")) k (flat_map ins_uses c.ins ++ rest) (has_left (flat_map ins_uses c.ins) rest k h))
    (flat_map ins_first_uses c.ins) (parts_flat ins_first_uses ins_uses load_parts c.ins)

method_loads : (class : List ℕ) (m : MethodModel) → PartsIn (method_uses class m) (method_first_uses m)
unfolding method_uses
method_loads class m =
    let us = code_or_none_uses (entry_of_method class m) m.code in
    all_more us (KnownText m.name ∷ KnownText m.descriptor ∷ us) (λ k h. has_later (KnownText m.name) k (KnownText m.descriptor ∷ us) (has_later (KnownText m.descriptor) k us h)) (code_first_uses m.code) (code_loads (entry_of_method class m) m.code)

class_loads : (c : ClassModel) → PartsIn (members_uses c) (loads_of c)
unfolding members_uses loads_of
class_loads c =
    let ms = flat_map (method_uses c.name) c.methods in
    let us4 = ms ++ inners_uses c.inner in
    let us3 = flat_map field_uses c.fields ++ us4 in
    let us2 = flat_map class_uses c.interfaces ++ us3 in
    let us1 = class_or_none_uses c.superclass ++ us2 in
    all_more ms (class_uses c.name ++ us1)
    (λ k h. has_right (class_uses c.name) us1 k (has_right (class_or_none_uses c.superclass) us2 k (has_right (flat_map class_uses c.interfaces) us3 k (has_right (flat_map field_uses c.fields) us4 k (has_left ms (inners_uses c.inner) k h)))))
    (flat_map method_first_uses c.methods) (parts_flat method_first_uses (method_uses c.name) (method_loads c.name) c.methods)

pub closed_uses : (c : ClassModel) → Closed (uses c)
unfolding uses
closed_uses c = parts_append (loads_of c ++ members_uses c) (loads_of c) (members_uses c)
    (all_more (members_uses c) (loads_of c ++ members_uses c) (λ k h. has_right (loads_of c) (members_uses c) k h) (loads_of c) (class_loads c))
    (all_more (members_uses c) (loads_of c ++ members_uses c) (λ k h. has_right (loads_of c) (members_uses c) k h) (members_uses c) (closed_members c))

-- ---- longs

abbrev pub pair_next : Known → Option ℤ
pair_next (KnownLong n) = Some n
pair_next _ = None

abbrev pub PairOk : Option ℤ → Known → Type 0
PairOk None k = is_behind_known k ≡ false
PairOk (Some n) k = k ≡ KnownBehind n

-- behind a long, and nowhere else, stands its second place
abbrev pub Paired : Option ℤ → List Known → Type 0
Paired None [] = Unit {0}
Paired (Some n) [] = ⊥
Paired p (k ∷ ks) = PairOk p k × Paired (pair_next k) ks

pub paired_append : (p : Option ℤ) (us vs : List Known) → Paired p us → Paired None vs → Paired p (us ++ vs)
paired_append None [] vs h g = g
paired_append (Some n) [] vs h g = absurd h
paired_append None (u ∷ us) vs h g = (h.0, paired_append (pair_next u) us vs h.1 g)
paired_append (Some n) (u ∷ us) vs h g = (h.0, paired_append (pair_next u) us vs h.1 g)

paired_flat : {X : Type 0} (f : X → List Known) → ((x : X) → Paired None (f x)) → (xs : List X) → Paired None (flat_map f xs)
paired_flat f h [] = tt
paired_flat f h (x ∷ xs) = paired_append None (f x) (flat_map f xs) (h x) (paired_flat f h xs)

paired_class : (t : List ℕ) → Paired None (class_uses t)
paired_class t = (refl, (refl, tt))

paired_class_or_none : (o : Option (List ℕ)) → Paired None (class_or_none_uses o)
paired_class_or_none None = tt
paired_class_or_none (Some t) = paired_class t

paired_name_or_none : (o : Option (List ℕ)) → Paired None (name_or_none_uses o)
paired_name_or_none None = tt
paired_name_or_none (Some t) = (refl, tt)

paired_member : (kind : Kind) (c n d : List ℕ) → Paired None (member_known kind c n d ∷ [])
paired_member Field c n d = (refl, tt)
paired_member Interface c n d = (refl, tt)
paired_member _ c n d = (refl, tt)

paired_operand : (kind : Kind) (o : Operand) → Paired None (operand_uses kind o)
unfolding operand_uses member_uses
paired_operand kind (op.Load (loaded.Whole n)) = (refl, tt)
paired_operand kind (op.Load (loaded.Long n)) = (refl, (refl, tt))
paired_operand kind (op.Load (loaded.Text t)) = (refl, (refl, tt))
paired_operand kind (op.Member c n d) = (refl, (refl, (refl, (refl, (refl, paired_member kind c n d)))))
paired_operand kind (op.Class c) = paired_class c
paired_operand kind (op.Dims c n) = paired_class c
paired_operand kind _ = tt

paired_load_by : (o : Operand) (b : Bool) → Paired None (cond b (first_uses o) [])
paired_load_by o false = tt
paired_load_by (op.Load (loaded.Whole n)) true = (refl, tt)
paired_load_by (op.Load (loaded.Text t)) true = (refl, tt)
paired_load_by (op.Load (loaded.Long n)) true = tt
paired_load_by _ true = tt

paired_load : (i : Ins) → Paired None (ins_first_uses i)
unfolding ins_first_uses
paired_load i = paired_load_by i.operand (is_load (kind_of i.code))

paired_item : (i : Item) → Paired None (item_uses i)
paired_item (item.Object t) = paired_class t
paired_item _ = tt

paired_form : (f : Frame) (form : Form) → Paired None (form_uses f form)
unfolding form_uses
paired_form f form = paired_append None (flat_map item_uses (written_locals f form)) (flat_map item_uses (written_stack f form)) (paired_flat item_uses paired_item (written_locals f form)) (paired_flat item_uses paired_item (written_stack f form))

paired_frames : (seen : List Item) (fs : List Frame) → Paired None (frames_uses seen fs)
unfolding frames_uses
paired_frames seen [] = tt
paired_frames seen (f ∷ fs) = paired_append None (form_uses f (form_of seen f)) (frames_uses f.locals fs) (paired_form f (form_of seen f)) (paired_frames f.locals fs)

paired_table : (entry : List Item) (fs : List Frame) → Paired None (table_uses entry fs)
paired_table entry [] = tt
paired_table entry (f ∷ fs) = (refl, paired_frames entry (f ∷ fs))

paired_code : (entry : List Item) (c : CodeModel) → Paired None (code_uses entry c)
unfolding code_uses
paired_code entry c = paired_append None (flat_map ins_uses c.ins) (flat_map handler_uses c.handlers ++ table_uses entry c.frames) (paired_flat ins_uses (λ i. paired_operand (kind_of i.code) i.operand) c.ins)
    (paired_append None (flat_map handler_uses c.handlers) (table_uses entry c.frames) (paired_flat handler_uses (λ h. paired_class_or_none h.class) c.handlers) (paired_table entry c.frames))

paired_code_or_none : (entry : List Item) (o : Option CodeModel) → Paired None (code_or_none_uses entry o)
paired_code_or_none entry None = tt
paired_code_or_none entry (Some c) = (refl, paired_code entry c)

paired_method : (class : List ℕ) (m : MethodModel) → Paired None (method_uses class m)
unfolding method_uses
paired_method class m = (refl, (refl, paired_code_or_none (entry_of_method class m) m.code))

paired_code_loads : (o : Option CodeModel) → Paired None (code_first_uses o)
paired_code_loads None = tt
paired_code_loads (Some c) = paired_flat ins_first_uses paired_load c.ins

paired_field : (f : FieldModel) → Paired None (field_uses f)
unfolding field_uses
paired_field f = (refl, (refl, tt))

paired_inner : (i : InnerModel) → Paired None (inner_uses i)
unfolding inner_uses
paired_inner i = paired_append None (class_uses i.inner) (class_or_none_uses i.outer ++ name_or_none_uses i.name) (paired_class i.inner) (paired_append None (class_or_none_uses i.outer) (name_or_none_uses i.name) (paired_class_or_none i.outer) (paired_name_or_none i.name))

paired_inners : (is : List InnerModel) → Paired None (inners_uses is)
paired_inners [] = tt
paired_inners (i ∷ is) = (refl, paired_flat inner_uses paired_inner (i ∷ is))

paired_members : (c : ClassModel) → Paired None (members_uses c)
unfolding members_uses
paired_members c =
    paired_append None (class_uses c.name) (class_or_none_uses c.superclass ++ (flat_map class_uses c.interfaces ++ (flat_map field_uses c.fields ++ (flat_map (method_uses c.name) c.methods ++ inners_uses c.inner)))) (paired_class c.name)
    (paired_append None (class_or_none_uses c.superclass) (flat_map class_uses c.interfaces ++ (flat_map field_uses c.fields ++ (flat_map (method_uses c.name) c.methods ++ inners_uses c.inner))) (paired_class_or_none c.superclass)
    (paired_append None (flat_map class_uses c.interfaces) (flat_map field_uses c.fields ++ (flat_map (method_uses c.name) c.methods ++ inners_uses c.inner)) (paired_flat class_uses paired_class c.interfaces)
    (paired_append None (flat_map field_uses c.fields) (flat_map (method_uses c.name) c.methods ++ inners_uses c.inner) (paired_flat field_uses paired_field c.fields)
    (paired_append None (flat_map (method_uses c.name) c.methods) (inners_uses c.inner) (paired_flat (method_uses c.name) (paired_method c.name) c.methods) (paired_inners c.inner)))))

pub paired_uses : (c : ClassModel) → Paired None (uses c)
unfolding uses loads_of
paired_uses c = paired_append None (flat_map method_first_uses c.methods) (members_uses c) (paired_flat method_first_uses (λ m. paired_code_loads m.code) c.methods) (paired_members c)
