-- Frames are read again, each in its shortest form.
use Rattle.std.proofs.Common.{◌≡◌, ◌<◌, ◌≤◌, ℕ, zero, suc, ◌+◌, ◌-◌, ◌%◌, Bool, true, false, cond, ltb, List, [], ◌∷◌, ◌++◌, length, take, Option, Some, None, Ok, refl, sym, ap, subst, ◌∙◌, append_assoc, arith}
use lib.Dec.{leb}
use Rattle.std.specs.Prelude.{◌&&◌}
use Rattle.std.specs.Int.{w16, to_be_bytes}
use Rattle.std.specs.List.{flat_map, list_all}
use Rattle.std.proofs.lemmas.Bool.{ltb-true, leb-true, lt-ltb, le-ltb, le-leb, and_parts}
use Rattle.std.proofs.lemmas.List.{length-append, append-nil}
use Rattle.jc_class_out.specs.declared.forms.Form.{Form}
use Rattle.jc_class_out.specs.declared.forms.Form.TheVariants as form
use Rattle.jc_class_out.specs.declared.format.Slot.{Slot}
use Rattle.jc_class_out.specs.declared.model.Frame.{Frame}
use Rattle.jc_class_out.specs.declared.model.Item.{Item}
use Rattle.jc_class_out.specs.declared.model.Item.TheVariants as item
use Rattle.jc_class_out.specs.Reading.{many, listed}
use Rattle.jc_class_out.specs.Pool.{Known}
use Rattle.jc_class_out.specs.Frames.{begins, offset_item_at, item_by, item_at, place_of, place_at, same_item_at, same_item_extended_at, chop_at, same_extended_at, append_at, full_at, frame_by, frame_at, frames_at, table_at}
use Rattle.jc_class_out.specs.Forms.{form_of, last_of, written_locals, written_stack, delta_of}
use Rattle.jc_class_out.specs.Spelling.{item_uses, form_uses, frames_uses, counted, spell_item, spell_near, spell_form, spell_frame, spell_frames, spell_table}
use Rattle.jc_class_out.specs.Fitting.{is_count, item_fits, is_behind, items_fit, form_fits, frame_fits, frames_fit, item_length, items_length, form_length, frame_length, frames_within}
use Rattle.jc_class_out.proofs.Numbers.{u2_again, whole_u2, EachAgain, many_again, listed_again}
use Rattle.jc_class_out.proofs.Served.{Serves, class_again}
use Rattle.jc_class_out.proofs.Shortest.{FormIs, form_is}
use Rattle.jc_class_out.proofs.InsAgain.{Have}
use Rattle.jc_class_out.proofs.CodeAgain.{have_append, begins_below}

-- ---- items and frames

item_again : (slots : List Slot) (ks : List Known) → Serves ks slots → (marks : List Bool) → length marks < 65536 → (i : Item) (rest : List ℕ) → item_fits marks i ≡ true → Have ks (item_uses i) → item_at slots marks (spell_item ks i ++ rest) ≡ Ok (i, rest)
unfolding item_at item_by spell_item offset_item_at
item_again slots ks s marks lt item.Top rest f u = refl
item_again slots ks s marks lt item.Integer rest f u = refl
item_again slots ks s marks lt item.Long rest f u = refl
item_again slots ks s marks lt item.NullItem rest f u = refl
item_again slots ks s marks lt item.UninitializedThis rest f u = refl
item_again slots ks s marks lt (item.Object name) rest f u = rw (class_again ks slots s name rest u.1.0) refl
item_again slots ks s marks lt (item.Uninitialized at) rest f u =
    let b = begins_below marks at f in
    rw (whole_u2 at (omega (arith, b, lt)), u2_again at rest (omega (arith, b, lt)), f) refl

each_item : (slots : List Slot) (ks : List Known) → Serves ks slots → (marks : List Bool) → length marks < 65536 → (is : List Item) → list_all (item_fits marks) is ≡ true → Have ks (flat_map item_uses is) → EachAgain (item_at slots marks) (spell_item ks) is
each_item slots ks s marks lt [] f u = tt
each_item slots ks s marks lt (i ∷ is) f u =
    let p = and_parts (item_fits marks i) (list_all (item_fits marks) is) f in
    let v = have_append ks (item_uses i) (flat_map item_uses is) u in
    (λ rest. item_again slots ks s marks lt i rest p.0 v.0, each_item slots ks s marks lt is p.1 v.1)

items_again : (slots : List Slot) (ks : List Known) → Serves ks slots → (marks : List Bool) → length marks < 65536 → (is : List Item) (rest : List ℕ) → items_fit marks is ≡ true → Have ks (flat_map item_uses is) → listed (item_at slots marks) (counted (spell_item ks) is ++ rest) ≡ Ok (is, rest)
unfolding items_fit
items_again slots ks s marks lt is rest f u =
    let p = and_parts (is_count is) (list_all (item_fits marks) is) f in
    listed_again (item_at slots marks) (spell_item ks) is rest (ltb-true (length is) 65536 p.0) (each_item slots ks s marks lt is p.1 u)

place_again : (before : Option ℕ) (at : ℕ) → is_behind before at ≡ true → place_of before (delta_of before at) ≡ at
place_again None at h = refl
place_again (Some b) at h = let lt = ltb-true b at h in omega (arith, lt)

delta_small : (before : Option ℕ) (at : ℕ) → delta_of before at ≤ at
delta_small None at = omega arith
delta_small (Some b) at = omega arith

-- ---- each form

-- what stands before a frame, and where the frame is
record Place (marks : List Bool) (before : Option ℕ) (at : ℕ) : Type 0 where
  few : length marks < 65536
  begins : begins marks at ≡ true
  behind : is_behind before at ≡ true

frame_is : (f : Frame) (locals stack : List Item) → f.locals ≡ locals → f.stack ≡ stack → record { at = f.at; locals = locals; stack = stack } ≡ f
frame_is f locals stack l s = rw (sym l, sym s) refl

delta_whole : (marks : List Bool) (before : Option ℕ) (at : ℕ) → Place marks before at → delta_of before at < 65536
delta_whole marks before at p =
    let below = begins_below marks at p.begins in
    omega (arith, below, delta_small before at, p.few)

place_at_again : (marks : List Bool) (before : Option ℕ) (at : ℕ) (rest : List ℕ) → Place marks before at → place_at marks before (to_be_bytes w16 (delta_of before at % 65536) ++ rest) ≡ Ok (at, rest)
unfolding place_at
place_at_again marks before at rest p =
    let lt = delta_whole marks before at p in
    rw (whole_u2 (delta_of before at) lt, u2_again (delta_of before at) rest lt, place_again before at p.behind, p.begins) refl

same_again_by : (slots : List Slot) (ks : List Known) (marks : List Bool) (before : Option ℕ) (seen : List Item) (f : Frame) (rest : List ℕ) (near : Bool) → Place marks before f.at → f.locals ≡ seen → f.stack ≡ [] → ltb (delta_of before f.at) 64 ≡ near
    → frame_at slots marks before seen (cond near ((0 + delta_of before f.at) % 256 ∷ []) (251 ∷ to_be_bytes w16 (delta_of before f.at % 65536)) ++ rest) ≡ Ok (f, rest)
unfolding frame_at frame_by same_extended_at
same_again_by slots ks marks before seen f rest true p l s h =
    let lt = ltb-true (delta_of before f.at) 64 h in
    let e : (0 + delta_of before f.at) % 256 ≡ delta_of before f.at = omega (arith, lt) in
    rw (e, h, place_again before f.at p.behind, p.begins) (ap (λ (x : Frame). Ok (x, rest)) (frame_is f seen [] l s))
same_again_by slots ks marks before seen f rest false p l s h =
    rw (place_at_again marks before f.at rest p) (ap (λ (x : Frame). Ok (x, rest)) (frame_is f seen [] l s))

one_item : (xs : List Item) → length xs ≡ 1 → (i : Item) × (xs ≡ i ∷ [])
one_item [] h = absurd (omega (arith, h))
one_item (x ∷ []) h = (x, refl)
one_item (x ∷ y ∷ xs) h = absurd (omega (arith, h))

same_item_again : (slots : List Slot) (ks : List Known) → Serves ks slots → (marks : List Bool) → length marks < 65536 → (seen : List Item) (f : Frame) (i : Item) (rest : List ℕ) → f.locals ≡ seen → f.stack ≡ i ∷ [] → item_fits marks i ≡ true → Have ks (item_uses i)
    → same_item_at slots marks seen f.at (spell_item ks i ++ rest) ≡ Ok (f, rest)
unfolding same_item_at
same_item_again slots ks s marks lt seen f i rest l st h u = rw (item_again slots ks s marks lt i rest h u) (ap (λ (x : Frame). Ok (x, rest)) (frame_is f seen (i ∷ []) l st))

one_spelled : (ks : List Known) (i : Item) → flat_map (spell_item ks) (i ∷ []) ≡ spell_item ks i
one_spelled ks i = append-nil (spell_item ks i)

with_item_by : (slots : List Slot) (ks : List Known) → Serves ks slots → (marks : List Bool) (before : Option ℕ) (seen : List Item) (f : Frame) (i : Item) (rest : List ℕ) (near : Bool) → Place marks before f.at → f.locals ≡ seen → f.stack ≡ i ∷ [] → item_fits marks i ≡ true → Have ks (item_uses i)
    → ltb (delta_of before f.at) 64 ≡ near
    → frame_at slots marks before seen (cond near ((64 + delta_of before f.at) % 256 ∷ []) (247 ∷ to_be_bytes w16 (delta_of before f.at % 65536)) ++ (spell_item ks i ++ rest)) ≡ Ok (f, rest)
unfolding frame_at frame_by same_item_extended_at
with_item_by slots ks s marks before seen f i rest true p l st h u n =
    let lt = ltb-true (delta_of before f.at) 64 n in
    let e : (64 + delta_of before f.at) % 256 ≡ 64 + delta_of before f.at = omega (arith, lt) in
    let far : ltb (64 + delta_of before f.at) 64 ≡ false = le-ltb _ _ (omega arith) in
    let near : ltb (64 + delta_of before f.at) 128 ≡ true = lt-ltb _ _ (omega (arith, lt)) in
    let less : 64 + delta_of before f.at - 64 ≡ delta_of before f.at = omega arith in
    rw (e, far, near, less, place_again before f.at p.behind, p.begins) (same_item_again slots ks s marks p.few seen f i rest l st h u)
with_item_by slots ks s marks before seen f i rest false p l st h u n =
    rw (place_at_again marks before f.at (spell_item ks i ++ rest) p) (same_item_again slots ks s marks p.few seen f i rest l st h u)

chop_again : (slots : List Slot) (marks : List Bool) (before : Option ℕ) (seen : List Item) (f : Frame) (rest : List ℕ) (left k : ℕ) → Place marks before f.at → k ≤ length seen → f.locals ≡ take (length seen - k) seen → f.stack ≡ []
    → chop_at marks before seen left k (to_be_bytes w16 (delta_of before f.at % 65536) ++ rest) ≡ Ok (f, rest)
unfolding chop_at
chop_again slots marks before seen f rest left k p le l s =
    rw (le-leb k (length seen) le, place_at_again marks before f.at rest p) (ap (λ (x : Frame). Ok (x, rest)) (frame_is f (take (length seen - k) seen) [] l s))

chop_tag : (slots : List Slot) (marks : List Bool) (before : Option ℕ) (seen : List Item) (f : Frame) (rest : List ℕ) (k : ℕ) → Place marks before f.at → 0 < k → k ≤ 3 → k ≤ length seen → f.locals ≡ take (length seen - k) seen → f.stack ≡ []
    → frame_at slots marks before seen ((251 - k) ∷ (to_be_bytes w16 (delta_of before f.at % 65536) ++ rest)) ≡ Ok (f, rest)
unfolding frame_at frame_by
chop_tag slots marks before seen f rest zero p some few le l s = absurd (omega (arith, some))
chop_tag slots marks before seen f rest (suc zero) p some few le l s = chop_again slots marks before seen f rest _ 1 p le l s
chop_tag slots marks before seen f rest (suc (suc zero)) p some few le l s = chop_again slots marks before seen f rest _ 2 p le l s
chop_tag slots marks before seen f rest (suc (suc (suc zero))) p some few le l s = chop_again slots marks before seen f rest _ 3 p le l s
chop_tag slots marks before seen f rest (suc (suc (suc (suc k)))) p some few le l s = absurd (omega (arith, few))

append_again : (slots : List Slot) (ks : List Known) → Serves ks slots → (marks : List Bool) (before : Option ℕ) (seen more : List Item) (f : Frame) (rest : List ℕ) (k : ℕ) → Place marks before f.at → length more ≡ k → f.locals ≡ seen ++ more → f.stack ≡ []
    → list_all (item_fits marks) more ≡ true → Have ks (flat_map item_uses more)
    → append_at slots marks before seen k (to_be_bytes w16 (delta_of before f.at % 65536) ++ (flat_map (spell_item ks) more ++ rest)) ≡ Ok (f, rest)
unfolding append_at
append_again slots ks s marks before seen more f rest k p n l st h u =
    let read : many (item_at slots marks) k (flat_map (spell_item ks) more ++ rest) ≡ Ok (more, rest) =
    ap (λ (x : ℕ). many (item_at slots marks) x (flat_map (spell_item ks) more ++ rest)) (sym n) ∙ many_again (item_at slots marks) (spell_item ks) more rest (each_item slots ks s marks p.few more h u) in
    rw (place_at_again marks before f.at (flat_map (spell_item ks) more ++ rest) p, read) (ap (λ (x : Frame). Ok (x, rest)) (frame_is f (seen ++ more) [] l st))

append_tag : (slots : List Slot) (ks : List Known) → Serves ks slots → (marks : List Bool) (before : Option ℕ) (seen more : List Item) (f : Frame) (rest : List ℕ) (k : ℕ) → Place marks before f.at → 0 < k → k ≤ 3 → length more ≡ k → f.locals ≡ seen ++ more → f.stack ≡ []
    → list_all (item_fits marks) more ≡ true → Have ks (flat_map item_uses more)
    → frame_at slots marks before seen ((251 + k) % 256 ∷ (to_be_bytes w16 (delta_of before f.at % 65536) ++ (flat_map (spell_item ks) more ++ rest))) ≡ Ok (f, rest)
unfolding frame_at frame_by
append_tag slots ks s marks before seen more f rest zero p some few n l st h u = absurd (omega (arith, some))
append_tag slots ks s marks before seen more f rest (suc zero) p some few n l st h u = append_again slots ks s marks before seen more f rest 1 p n l st h u
append_tag slots ks s marks before seen more f rest (suc (suc zero)) p some few n l st h u = append_again slots ks s marks before seen more f rest 2 p n l st h u
append_tag slots ks s marks before seen more f rest (suc (suc (suc zero))) p some few n l st h u = append_again slots ks s marks before seen more f rest 3 p n l st h u
append_tag slots ks s marks before seen more f rest (suc (suc (suc (suc k)))) p some few n l st h u = absurd (omega (arith, few))

full_again : (slots : List Slot) (ks : List Known) → Serves ks slots → (marks : List Bool) (before : Option ℕ) (f : Frame) (rest : List ℕ) → Place marks before f.at → items_fit marks f.locals ≡ true → items_fit marks f.stack ≡ true → Have ks (flat_map item_uses f.locals) → Have ks (flat_map item_uses f.stack)
    → full_at slots marks before (to_be_bytes w16 (delta_of before f.at % 65536) ++ ((counted (spell_item ks) f.locals ++ counted (spell_item ks) f.stack) ++ rest)) ≡ Ok (f, rest)
unfolding full_at
full_again slots ks s marks before f rest p h g u v =
    let ls = counted (spell_item ks) f.locals in
    let st = counted (spell_item ks) f.stack in
    let regrouped : (ls ++ st) ++ rest ≡ ls ++ (st ++ rest) = append_assoc ls st rest in
    rw (place_at_again marks before f.at ((ls ++ st) ++ rest) p, regrouped, items_again slots ks s marks p.few f.locals (st ++ rest) h u, items_again slots ks s marks p.few f.stack rest g v) refl

full_tag : (slots : List Slot) (ks : List Known) → Serves ks slots → (marks : List Bool) (before : Option ℕ) (seen : List Item) (f : Frame) (rest : List ℕ) → Place marks before f.at → items_fit marks f.locals ≡ true → items_fit marks f.stack ≡ true → Have ks (flat_map item_uses f.locals) → Have ks (flat_map item_uses f.stack)
    → frame_at slots marks before seen (255 ∷ (to_be_bytes w16 (delta_of before f.at % 65536) ++ ((counted (spell_item ks) f.locals ++ counted (spell_item ks) f.stack) ++ rest))) ≡ Ok (f, rest)
unfolding frame_at frame_by
full_tag slots ks s marks before seen f rest p h g u v = full_again slots ks s marks before f rest p h g u v

form_again : (slots : List Slot) (ks : List Known) → Serves ks slots → (marks : List Bool) (before : Option ℕ) (seen : List Item) (f : Frame) (form : Form) (rest : List ℕ) → Place marks before f.at → FormIs seen f form → items_fit marks (written_locals f form) ≡ true → items_fit marks (written_stack f form) ≡ true
    → Have ks (flat_map item_uses (written_locals f form)) → Have ks (flat_map item_uses (written_stack f form)) → frame_at slots marks before seen (spell_form ks (delta_of before f.at) f form ++ rest) ≡ Ok (f, rest)
unfolding spell_form spell_near items_fit
form_again slots ks s marks before seen f form.Same rest p is h g u v = same_again_by slots ks marks before seen f rest (ltb (delta_of before f.at) 64) p is.0 is.1 refl
form_again slots ks s marks before seen f form.SameItem rest p is h g u v =
    let one = one_item f.stack is.1 in
    let head = cond (ltb (delta_of before f.at) 64) ((64 + delta_of before f.at) % 256 ∷ []) (247 ∷ to_be_bytes w16 (delta_of before f.at % 65536)) in
    let fits : list_all (item_fits marks) (one.0 ∷ []) ≡ true = ap (list_all (item_fits marks)) (sym one.1) ∙ (and_parts _ _ g).1 in
    let have : Have ks (flat_map item_uses (one.0 ∷ [])) = subst (λ (x : List Item). Have ks (flat_map item_uses x)) one.1 v in
    let spelled : flat_map (spell_item ks) f.stack ≡ spell_item ks one.0 = ap (flat_map (spell_item ks)) one.1 ∙ one_spelled ks one.0 in
    let whole : (head ++ flat_map (spell_item ks) f.stack) ++ rest ≡ head ++ (spell_item ks one.0 ++ rest) = ap (λ (x : List ℕ). (head ++ x) ++ rest) spelled ∙ append_assoc head (spell_item ks one.0) rest in
    ap (frame_at slots marks before seen) whole ∙ with_item_by slots ks s marks before seen f one.0 rest (ltb (delta_of before f.at) 64) p is.0 one.1 (and_parts _ _ fits).0 (have_append ks (item_uses one.0) [] have).0 refl
form_again slots ks s marks before seen f (form.Chop k) rest p is h g u v = chop_tag slots marks before seen f rest k p is.0 is.1 is.2 is.3 is.4
form_again slots ks s marks before seen f (form.Append k) rest p is h g u v =
    let more = last_of k f.locals in
    append_tag slots ks s marks before seen more f rest k p is.0 is.1 is.2 is.3 is.4 (and_parts _ _ h).1 u
form_again slots ks s marks before seen f form.Full rest p is h g u v = full_tag slots ks s marks before seen f rest p h g u v

frame_again : (slots : List Slot) (ks : List Known) → Serves ks slots → (marks : List Bool) → length marks < 65536 → (before : Option ℕ) (seen : List Item) (f : Frame) (rest : List ℕ) → frame_fits marks before seen f ≡ true → Have ks (form_uses f (form_of seen f))
    → frame_at slots marks before seen (spell_frame ks before seen f ++ rest) ≡ Ok (f, rest)
unfolding spell_frame frame_fits form_fits form_uses
frame_again slots ks s marks lt before seen f rest h u =
    let form = form_of seen f in
    let a = and_parts (begins marks f.at) (is_behind before f.at && form_fits marks f (form_of seen f)) h in
    let b = and_parts (is_behind before f.at) (form_fits marks f (form_of seen f)) a.1 in
    let c = and_parts (items_fit marks (written_locals f (form_of seen f))) (items_fit marks (written_stack f (form_of seen f))) b.1 in
    let v = have_append ks (flat_map item_uses (written_locals f (form_of seen f))) (flat_map item_uses (written_stack f (form_of seen f))) u in
    let p : Place marks before f.at = record { few = lt; begins = a.0; behind = b.0 } in
    form_again slots ks s marks before seen f (form_of seen f) rest p (form_is seen f) c.0 c.1 v.0 v.1

frames_again : (slots : List Slot) (ks : List Known) → Serves ks slots → (marks : List Bool) → length marks < 65536 → (before : Option ℕ) (seen : List Item) (fs : List Frame) (rest : List ℕ) → frames_fit marks before seen fs ≡ true → Have ks (frames_uses seen fs)
    → frames_at slots marks (length fs) before seen (spell_frames ks before seen fs ++ rest) ≡ Ok (fs, rest)
unfolding frames_at spell_frames frames_fit frames_uses
frames_again slots ks s marks lt before seen [] rest h u = refl
frames_again slots ks s marks lt before seen (f ∷ fs) rest h u =
    let p = and_parts (frame_fits marks before seen f) (frames_fit marks (Some (f.at)) f.locals fs) h in
    let v = have_append ks (form_uses f (form_of seen f)) (frames_uses f.locals fs) u in
    let regrouped : (spell_frame ks before seen f ++ spell_frames ks (Some (f.at)) f.locals fs) ++ rest ≡ spell_frame ks before seen f ++ (spell_frames ks (Some (f.at)) f.locals fs ++ rest) = append_assoc (spell_frame ks before seen f) (spell_frames ks (Some (f.at)) f.locals fs) rest in
    rw (regrouped, frame_again slots ks s marks lt before seen f (spell_frames ks (Some (f.at)) f.locals fs ++ rest) p.0 v.0, frames_again slots ks s marks lt (Some (f.at)) f.locals fs rest p.1 v.1) refl

pub table_again : (slots : List Slot) (ks : List Known) → Serves ks slots → (marks : List Bool) → length marks < 65536 → (entry : List Item) (fs : List Frame) (rest : List ℕ) → is_count fs ≡ true → frames_fit marks None entry fs ≡ true → Have ks (frames_uses entry fs)
    → table_at slots marks entry (spell_table ks entry fs ++ rest) ≡ Ok (fs, rest)
unfolding table_at spell_table
table_again slots ks s marks lt entry fs rest n h u =
    let few = ltb-true (length fs) 65536 n in
    rw (whole_u2 (length fs) few, u2_again (length fs) (spell_frames ks None entry fs ++ rest) few, frames_again slots ks s marks lt None entry fs rest h u) refl

-- ---- lengths

length_item : (ks : List Known) (i : Item) → length (spell_item ks i) ≡ item_length i
unfolding spell_item
length_item ks item.Top = refl
length_item ks item.Integer = refl
length_item ks item.Long = refl
length_item ks item.NullItem = refl
length_item ks item.UninitializedThis = refl
length_item ks (item.Object name) = refl
length_item ks (item.Uninitialized at) = refl

length_items : (ks : List Known) (is : List Item) → length (flat_map (spell_item ks) is) ≡ items_length is
unfolding items_length
length_items ks [] = refl
length_items ks (i ∷ is) = omega (arith, length-append (spell_item ks i) (flat_map (spell_item ks) is), length_item ks i, length_items ks is)

length_counted_items : (ks : List Known) (is : List Item) → length (counted (spell_item ks) is) ≡ 2 + items_length is
unfolding counted
length_counted_items ks is = omega (arith, length_items ks is)

length_near : (tag wide delta : ℕ) (b : Bool) → length (cond b ((tag + delta) % 256 ∷ []) (wide ∷ to_be_bytes w16 (delta % 65536))) ≡ cond b 1 3
length_near tag wide delta true = refl
length_near tag wide delta false = refl

length_form : (ks : List Known) (delta : ℕ) (f : Frame) (form : Form) → length (spell_form ks delta f form) ≡ form_length delta f form
unfolding spell_form spell_near form_length items_length
length_form ks delta f form.Same = omega (arith, length_near 0 251 delta (ltb delta 64))
length_form ks delta f form.SameItem =
    omega (arith, length_near 64 247 delta (ltb delta 64), length_items ks f.stack, length-append (cond (ltb delta 64) ((64 + delta) % 256 ∷ []) (247 ∷ to_be_bytes w16 (delta % 65536))) (flat_map (spell_item ks) f.stack))
length_form ks delta f (form.Chop k) = refl
length_form ks delta f (form.Append k) = omega (arith, length_items ks (last_of k f.locals))
length_form ks delta f form.Full = omega (arith, length-append (counted (spell_item ks) f.locals) (counted (spell_item ks) f.stack), length_counted_items ks f.locals, length_counted_items ks f.stack)

length_frame : (ks : List Known) (before : Option ℕ) (seen : List Item) (f : Frame) → length (spell_frame ks before seen f) ≡ frame_length before seen f
unfolding spell_frame frame_length
length_frame ks before seen f = length_form ks (delta_of before f.at) f (form_of seen f)

pub length_frames : (ks : List Known) (before : Option ℕ) (seen : List Item) (fs : List Frame) (room : ℕ) → frames_within room before seen fs ≡ true → length (spell_frames ks before seen fs) ≤ room
unfolding frames_within spell_frames
length_frames ks before seen [] room h = omega arith
length_frames ks before seen (f ∷ fs) room h =
    let p = and_parts (leb (frame_length before seen f) room) (frames_within (room - frame_length before seen f) (Some (f.at)) f.locals fs) h in
    let le = leb-true (frame_length before seen f) room p.0 in
    let ih = length_frames ks (Some (f.at)) f.locals fs (room - frame_length before seen f) p.1 in
    omega (arith, le, ih, length_frame ks before seen f, length-append (spell_frame ks before seen f) (spell_frames ks (Some (f.at)) f.locals fs))
