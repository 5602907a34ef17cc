-- What holds of frames that were read: in no form do they take fewer bytes, or name fewer constants, than in the shortest.
use Rattle.std.proofs.Common.{◌≡◌, ◌<◌, ◌≤◌, ℕ, zero, suc, ◌+◌, ◌-◌, Bool, true, false, cond, eqb, List, [], ◌∷◌, ◌++◌, length, take, drop, Option, Some, None, Ok, refl, sym, ap, subst, arith}
use Rattle.std.specs.Prelude.{nat_lt, nat_le, codes}
use Rattle.std.specs.Int.{w16}
use Rattle.std.specs.List.{flat_map, list_all}
use Rattle.std.proofs.lemmas.Bool.{ltb-true, ltb-false, leb-true, eqb-false, lt-ltb, le-leb, and_parts}
use Rattle.std.proofs.lemmas.List.{length-drop}
use Rattle.jc_class_out.specs.declared.forms.Form.{Form}
use Rattle.jc_class_out.specs.declared.forms.Form.TheVariants as form
use Rattle.jc_class_out.specs.declared.format.Flaw.TheVariants as flaw
use Rattle.jc_class_out.specs.declared.format.Slot.{Slot}
use Rattle.jc_class_out.specs.declared.model.Frame.{Frame}
use Rattle.jc_class_out.specs.declared.model.Item.{Item}
use Rattle.jc_class_out.specs.declared.model.Item.TheVariants as item
use Rattle.jc_class_out.specs.Reading.{◌>>=◌, wants, u8_at, number_at, many, listed}
use Rattle.jc_class_out.specs.Pool.{Known, KnownText, class_named_at}
use Rattle.jc_class_out.specs.Frames.{begins, offset_item_at, item_by, item_at, place_of, place_at, same_item_at, same_item_extended_at, chop_at, same_extended_at, append_at, full_at, frame_by, frame_at, frames_at, table_at}
use Rattle.jc_class_out.specs.Code.{attribute_at, attribute_ends, no_more_at, frames_of_at, code_attributes_at}
use Rattle.jc_class_out.specs.Forms.{form_of, last_of, delta_of, near_length}
use Rattle.jc_class_out.specs.Spelling.{class_uses, item_uses, form_uses, frames_uses, table_uses}
use Rattle.jc_class_out.specs.Fitting.{is_count, item_fits, is_behind, items_fit, form_fits, frame_fits, frames_fit, item_length, items_length, form_length, frame_length, frames_within}
use Rattle.jc_class_out.proofs.Good.{Good, good_ok, good_err, good_bind, good_more, good_if, good_wants, Ranged, Got, Numbered, Reads, Each, Counted, Listed, many_good, listed_good, u1_good, u2_good}
use Rattle.jc_class_out.proofs.Shortest.{form_same, form_same_item, form_chop, form_append, last_append}
use Rattle.jc_class_out.proofs.Stands.{Stands, Stand}
use Rattle.jc_class_out.proofs.InsGood.{Uses, class_named_good}
use Rattle.jc_class_out.proofs.CodeGood.{all_append, AttributeOk, attribute_good, ends_good, none_more_good}

-- ---- items

record ItemOk (pool : List Slot) (marks : List Bool) (i : Item) (n : ℕ) : Type 0 where
  fits : item_fits marks i ≡ true
  size : n ≡ item_length i
  uses : Stand pool (item_uses i)

abbrev ItemRead : List Slot → List Bool → List ℕ → Item × List ℕ → Type 0
ItemRead pool marks bytes = Got (ItemOk pool marks) bytes

plain_item : (pool : List Slot) (marks : List Bool) (i : Item) (bytes : List ℕ) → Ranged bytes → ItemOk pool marks i 1 → Good (λ (x : Item × List ℕ). (n : ℕ) × ItemOk pool marks x.0 (1 + n) × (length bytes ≡ n + length x.1) × Ranged x.1) (Ok (i, bytes))
plain_item pool marks i bytes r h = good_ok _ (i, bytes) (0, h, omega arith, r)

offset_good : (pool : List Slot) (marks : List Bool) (bytes : List ℕ) → Ranged bytes → Good (λ (x : Item × List ℕ). (n : ℕ) × ItemOk pool marks x.0 (1 + n) × (length bytes ≡ n + length x.1) × Ranged x.1) (offset_item_at marks bytes)
unfolding offset_item_at
offset_good pool marks bytes r =
    let Q : Item × List ℕ → Type 0 = λ (x : Item × List ℕ). (n : ℕ) × ItemOk pool marks x.0 (1 + n) × (length bytes ≡ n + length x.1) × Ranged x.1 in
    good_bind (Got (Numbered 65536 2) bytes) Q (number_at w16 bytes) _ (u2_good bytes r)
    (λ at pa. good_bind (λ (k : ℕ). begins marks at.0 ≡ true) Q (wants (begins marks at.0) (length bytes)) _ (good_wants (begins marks at.0) (length bytes))
    (λ k h. good_ok Q (item.Uninitialized at.0, at.1) (2, record { fits = h; size = refl; uses = tt }, omega (arith, pa.took, pa.of.1), pa.ranged)))

object_good : (pool : List Slot) (marks : List Bool) (bytes : List ℕ) → Ranged bytes → Good (λ (x : Item × List ℕ). (n : ℕ) × ItemOk pool marks x.0 (1 + n) × (length bytes ≡ n + length x.1) × Ranged x.1) (class_named_at pool bytes >>= λ c. Ok (item.Object c.0, c.1))
object_good pool marks bytes r =
    let Q : Item × List ℕ → Type 0 = λ (x : Item × List ℕ). (n : ℕ) × ItemOk pool marks x.0 (1 + n) × (length bytes ≡ n + length x.1) × Ranged x.1 in
    good_bind (Got (Uses pool class_uses 2) bytes) Q (class_named_at pool bytes) _ (class_named_good pool bytes r)
    (λ c pc. good_ok Q (item.Object c.0, c.1) (2, record { fits = refl; size = refl; uses = pc.of.0 }, omega (arith, pc.took, pc.of.1), pc.ranged))

item_by_good : (pool : List Slot) (marks : List Bool) (left tag : ℕ) (bytes : List ℕ) → Ranged bytes → Good (λ (x : Item × List ℕ). (n : ℕ) × ItemOk pool marks x.0 (1 + n) × (length bytes ≡ n + length x.1) × Ranged x.1) (item_by pool marks left tag bytes)
unfolding item_by
item_by_good pool marks left tag bytes r =
    let Q : Item × List ℕ → Type 0 = λ (x : Item × List ℕ). (n : ℕ) × ItemOk pool marks x.0 (1 + n) × (length bytes ≡ n + length x.1) × Ranged x.1 in
    good_if Q (eqb tag 0) _ _ (λ h. plain_item pool marks item.Top bytes r (record { fits = refl; size = refl; uses = tt }))
    (λ n1. good_if Q (eqb tag 1) _ _ (λ h. plain_item pool marks item.Integer bytes r (record { fits = refl; size = refl; uses = tt }))
    (λ n2. good_if Q (eqb tag 4) _ _ (λ h. plain_item pool marks item.Long bytes r (record { fits = refl; size = refl; uses = tt }))
    (λ n3. good_if Q (eqb tag 5) _ _ (λ h. plain_item pool marks item.NullItem bytes r (record { fits = refl; size = refl; uses = tt }))
    (λ n4. good_if Q (eqb tag 6) _ _ (λ h. plain_item pool marks item.UninitializedThis bytes r (record { fits = refl; size = refl; uses = tt }))
    (λ n5. good_if Q (eqb tag 7) _ _ (λ h. object_good pool marks bytes r)
    (λ n6. good_if Q (eqb tag 8) _ _ (λ h. offset_good pool marks bytes r) (λ n7. good_err Q (flaw.Tag left))))))))

item_good : (pool : List Slot) (marks : List Bool) → Reads (ItemOk pool marks) (item_at pool marks)
unfolding item_at
item_good pool marks bytes r =
    let P : List ℕ → Item × List ℕ → Type 0 = λ rest x. (n : ℕ) × ItemOk pool marks x.0 (1 + n) × (length rest ≡ n + length x.1) × Ranged x.1 in
    good_bind (Got (Numbered 256 1) bytes) (ItemRead pool marks bytes) (u8_at bytes) _ (u1_good bytes r)
    (λ tag pt. good_more (P tag.1) (ItemRead pool marks bytes) (item_by pool marks (length bytes) tag.0 tag.1) (item_by_good pool marks (length bytes) tag.0 tag.1 pt.ranged)
    (λ x px. record { n = 1 + px.0; of = px.1; took = omega (arith, pt.took, pt.of.1, px.2); ranged = px.3 }))

pub record ItemsOk (pool : List Slot) (marks : List Bool) (is : List Item) (n : ℕ) : Type 0 where
  fits : list_all (item_fits marks) is ≡ true
  size : n ≡ items_length is
  uses : Stand pool (flat_map item_uses is)

items_ok : (pool : List Slot) (marks : List Bool) (is : List Item) (n : ℕ) → Each (ItemOk pool marks) is n → ItemsOk pool marks is n
unfolding items_length
items_ok pool marks [] n e = record { fits = refl; size = e; uses = tt }
items_ok pool marks (i ∷ is) n e =
    let one = e.2 in
    let more = items_ok pool marks is e.1 e.3 in
    record { fits = rw one.fits more.fits; size = omega (arith, one.size, more.size, e.4); uses = all_append (Stands pool) (item_uses i) (flat_map item_uses is) one.uses more.uses }

-- ---- the items of a form

none_fit : (marks : List Bool) → items_fit marks [] ≡ true
unfolding items_fit
none_fit marks = refl

some_fit : (marks : List Bool) (is : List Item) → length is < 65536 → list_all (item_fits marks) is ≡ true → items_fit marks is ≡ true
unfolding items_fit
some_fit marks is lt h = rw (lt-ltb (length is) 65536 lt) h

none_long : items_length [] ≡ 0
unfolding items_length
none_long = refl

one_long : (i : Item) → items_length (i ∷ []) ≡ item_length i
unfolding items_length
one_long i = omega arith

all_drop : (f : Item → Bool) (n : ℕ) (is : List Item) → list_all f is ≡ true → list_all f (drop n is) ≡ true
all_drop f zero is h = h
all_drop f (suc n) [] h = refl
all_drop f (suc n) (i ∷ is) h = all_drop f n is (and_parts (f i) (list_all f is) h).1

long_drop : (n : ℕ) (is : List Item) → items_length (drop n is) ≤ items_length is
unfolding items_length
long_drop zero is = omega arith
long_drop (suc n) [] = omega arith
long_drop (suc n) (i ∷ is) = omega (arith, long_drop n is)

behind_first : (pool : List Slot) (us vs : List Known) → Stand pool (us ++ vs) → Stand pool vs
behind_first pool [] vs h = h
behind_first pool (u ∷ us) vs h = behind_first pool us vs h.1

stand_drop : (pool : List Slot) (n : ℕ) (is : List Item) → Stand pool (flat_map item_uses is) → Stand pool (flat_map item_uses (drop n is))
stand_drop pool zero is h = h
stand_drop pool (suc n) [] h = tt
stand_drop pool (suc n) (i ∷ is) h = stand_drop pool n is (behind_first pool (item_uses i) (flat_map item_uses is) h)

-- what a form that was read says of the shortest one
pub record FormOk (pool : List Slot) (marks : List Bool) (delta : ℕ) (f : Frame) (form : Form) (n : ℕ) : Type 0 where
  fits : form_fits marks f form ≡ true
  size : form_length delta f form ≤ n
  uses : Stand pool (form_uses f form)

near_few : (delta : ℕ) (b : Bool) → cond b 1 3 ≤ 3
near_few delta true = omega arith
near_few delta false = omega arith

same_ok : (pool : List Slot) (marks : List Bool) (delta : ℕ) (f : Frame) (n : ℕ) → near_length delta ≤ n → FormOk pool marks delta f form.Same n
unfolding form_fits form_length form_uses
same_ok pool marks delta f n le = record { fits = rw (none_fit marks) refl; size = omega (arith, le, none_long); uses = tt }

same_item_ok : (pool : List Slot) (marks : List Bool) (delta : ℕ) (f : Frame) (i : Item) (n m : ℕ) → f.stack ≡ i ∷ [] → ItemOk pool marks i m → near_length delta + m ≤ n → FormOk pool marks delta f form.SameItem n
unfolding form_fits form_length form_uses
same_item_ok pool marks delta f i n m e h le =
    let all : list_all (item_fits marks) (i ∷ []) ≡ true = rw h.fits refl in
    record {
      fits = rw (none_fit marks, e, some_fit marks (i ∷ []) (omega arith) all) refl;
      size = rw e (omega (arith, none_long, one_long i, h.size, le));
      uses = subst (λ (x : List Item). Stand pool (flat_map item_uses x)) (sym e) (all_append (Stands pool) (item_uses i) [] h.uses tt);
    }

chop_ok : (pool : List Slot) (marks : List Bool) (delta : ℕ) (f : Frame) (k n : ℕ) → 3 ≤ n → FormOk pool marks delta f (form.Chop k) n
unfolding form_fits form_length form_uses
chop_ok pool marks delta f k n le = record { fits = rw (none_fit marks) refl; size = omega (arith, le, none_long); uses = tt }

append_ok : (pool : List Slot) (marks : List Bool) (delta : ℕ) (f : Frame) (more : List Item) (n m : ℕ) → last_of (length more) f.locals ≡ more → length more ≤ 3 → ItemsOk pool marks more m → 3 + m ≤ n → FormOk pool marks delta f (form.Append (length more)) n
unfolding form_fits form_length form_uses
append_ok pool marks delta f more n m e few h le = record {
  fits = rw (e, some_fit marks more (omega (arith, few)) h.fits, none_fit marks) refl;
  size = rw e (omega (arith, none_long, h.size, le));
  uses = all_append (Stands pool) (flat_map item_uses (last_of (length more) f.locals)) [] (subst (λ (x : List Item). Stand pool (flat_map item_uses x)) (sym e) h.uses) tt;
}

-- all of it is more than any form
pub full_ok : (pool : List Slot) (marks : List Bool) (delta : ℕ) (f : Frame) (form : Form) (n k m : ℕ) → length (f.locals) < 65536 → length (f.stack) < 65536 → ItemsOk pool marks (f.locals) k → ItemsOk pool marks (f.stack) m → 7 + (k + m) ≤ n → FormOk pool marks delta f form n
unfolding form_fits form_length form_uses
full_ok pool marks delta f form.Same n k m l1 l2 h g le = record { fits = rw (none_fit marks) refl; size = omega (arith, le, none_long, near_few delta (nat_lt delta 64)); uses = tt }
full_ok pool marks delta f form.SameItem n k m l1 l2 h g le = record { fits = rw (none_fit marks) (some_fit marks f.stack l2 g.fits); size = omega (arith, le, none_long, near_few delta (nat_lt delta 64), g.size); uses = g.uses }
full_ok pool marks delta f (form.Chop c) n k m l1 l2 h g le = record { fits = rw (none_fit marks) refl; size = omega (arith, le, none_long); uses = tt }
full_ok pool marks delta f (form.Append c) n k m l1 l2 h g le =
    let from = length (f.locals) - c in
    record {
      fits = rw (some_fit marks (drop (length (f.locals) - c) (f.locals)) (omega (arith, l1, length-drop (length (f.locals) - c) (f.locals))) (all_drop (item_fits marks) (length (f.locals) - c) (f.locals) h.fits), none_fit marks) refl;
      size = omega (arith, le, none_long, h.size, long_drop (length (f.locals) - c) (f.locals));
      uses = all_append (Stands pool) (flat_map item_uses (drop (length (f.locals) - c) (f.locals))) [] (stand_drop pool (length (f.locals) - c) (f.locals) h.uses) tt;
    }
full_ok pool marks delta f form.Full n k m l1 l2 h g le = record {
  fits = rw (some_fit marks f.locals l1 h.fits) (some_fit marks f.stack l2 g.fits);
  size = omega (arith, le, h.size, g.size);
  uses = all_append (Stands pool) (flat_map item_uses (f.locals)) (flat_map item_uses (f.stack)) h.uses g.uses;
}

-- ---- each form

pub record FrameOk (pool : List Slot) (marks : List Bool) (before : Option ℕ) (seen : List Item) (f : Frame) (n : ℕ) : Type 0 where
  pub fits : frame_fits marks before seen f ≡ true
  pub size : frame_length before seen f ≤ n
  pub uses : Stand pool (form_uses f (form_of seen f))

-- where a frame is
record Placed (marks : List Bool) (before : Option ℕ) (at : ℕ) : Type 0 where
  begins : begins marks at ≡ true
  behind : is_behind before at ≡ true

frame_ok : (pool : List Slot) (marks : List Bool) (before : Option ℕ) (seen : List Item) (f : Frame) (form : Form) (n : ℕ) → form_of seen f ≡ form → Placed marks before (f.at) → FormOk pool marks (delta_of before (f.at)) f form n → FrameOk pool marks before seen f n
unfolding frame_fits frame_length
frame_ok pool marks before seen f form n e p h = record {
  fits = rw (p.begins, p.behind, e) h.fits;
  size = subst (λ (x : Form). form_length (delta_of before (f.at)) f x ≤ n) (sym e) h.size;
  uses = subst (λ (x : Form). Stand pool (form_uses f x)) (sym e) h.uses;
}

behind_place : (before : Option ℕ) (delta : ℕ) → is_behind before (place_of before delta) ≡ true
behind_place None delta = refl
behind_place (Some b) delta = lt-ltb b (b + delta + 1) (omega arith)

delta_back : (before : Option ℕ) (delta : ℕ) → delta_of before (place_of before delta) ≡ delta
delta_back None delta = refl
delta_back (Some b) delta = omega arith

near_one : (before : Option ℕ) (delta : ℕ) → delta < 64 → near_length (delta_of before (place_of before delta)) ≡ 1
near_one before delta lt = rw (delta_back before delta, lt-ltb delta 64 lt) refl

near_three : (delta : ℕ) → near_length delta ≤ 3
near_three delta = near_few delta (nat_lt delta 64)

place_good : (marks : List Bool) (before : Option ℕ) → Reads (λ (at : ℕ) (n : ℕ). Placed marks before at × (n ≡ 2)) (place_at marks before)
unfolding place_at
place_good marks before bytes r =
    let Q : ℕ × List ℕ → Type 0 = Got (λ (at : ℕ) (n : ℕ). Placed marks before at × (n ≡ 2)) bytes in
    good_bind (Got (Numbered 65536 2) bytes) Q (number_at w16 bytes) _ (u2_good bytes r)
    (λ d pd. good_bind (λ (k : ℕ). begins marks (place_of before d.0) ≡ true) Q (wants (begins marks (place_of before d.0)) (length bytes)) _ (good_wants (begins marks (place_of before d.0)) (length bytes))
    (λ k h. good_ok Q (place_of before d.0, d.1) (record { n = 2; of = (record { begins = h; behind = behind_place before d.0 }, refl); took = omega (arith, pd.took, pd.of.1); ranged = pd.ranged })))

-- a frame of which the tag was read already
abbrev FrameBehind : List Slot → List Bool → Option ℕ → List Item → List ℕ → Frame × List ℕ → Type 0
FrameBehind pool marks before seen bytes x = (n : ℕ) × FrameOk pool marks before seen x.0 (1 + n) × (length bytes ≡ n + length x.1) × Ranged x.1

same_item_good : (pool : List Slot) (marks : List Bool) (before : Option ℕ) (seen : List Item) (at size : ℕ) → Placed marks before at → near_length (delta_of before at) ≤ size → (bytes : List ℕ) → Ranged bytes
    → Good (λ (x : Frame × List ℕ). (n : ℕ) × FrameOk pool marks before seen x.0 (size + n) × (length bytes ≡ n + length x.1) × Ranged x.1) (same_item_at pool marks seen at bytes)
unfolding same_item_at
same_item_good pool marks before seen at size p le bytes r =
    let Q : Frame × List ℕ → Type 0 = λ (x : Frame × List ℕ). (n : ℕ) × FrameOk pool marks before seen x.0 (size + n) × (length bytes ≡ n + length x.1) × Ranged x.1 in
    good_bind (ItemRead pool marks bytes) Q (item_at pool marks bytes) _ (item_good pool marks bytes r)
    (λ i pi.
    let f : Frame = record { at = at; locals = seen; stack = i.0 ∷ [] } in
    let ok = same_item_ok pool marks (delta_of before at) f i.0 (size + pi.n) pi.n refl pi.of (omega (arith, le)) in
    good_ok Q (record { at = at; locals = seen; stack = i.0 ∷ [] }, i.1) (pi.n, frame_ok pool marks before seen f form.SameItem (size + pi.n) (form_same_item seen f i.0 refl refl) p ok, pi.took, pi.ranged))

same_extended_good : (pool : List Slot) (marks : List Bool) (before : Option ℕ) (seen : List Item) (bytes : List ℕ) → Ranged bytes → Good (FrameBehind pool marks before seen bytes) (same_extended_at marks before seen bytes)
unfolding same_extended_at
same_extended_good pool marks before seen bytes r =
    let Q : Frame × List ℕ → Type 0 = FrameBehind pool marks before seen bytes in
    good_bind (Got (λ (at : ℕ) (n : ℕ). Placed marks before at × (n ≡ 2)) bytes) Q (place_at marks before bytes) _ (place_good marks before bytes r)
    (λ at pa.
    let f : Frame = record { at = at.0; locals = seen; stack = [] } in
    good_ok Q (record { at = at.0; locals = seen; stack = [] }, at.1)
    (2, frame_ok pool marks before seen f form.Same 3 (form_same seen f refl refl) pa.of.0 (same_ok pool marks (delta_of before at.0) f 3 (near_three (delta_of before at.0))), omega (arith, pa.took, pa.of.1), pa.ranged))

same_item_extended_good : (pool : List Slot) (marks : List Bool) (before : Option ℕ) (seen : List Item) (bytes : List ℕ) → Ranged bytes → Good (FrameBehind pool marks before seen bytes) (same_item_extended_at pool marks before seen bytes)
unfolding same_item_extended_at
same_item_extended_good pool marks before seen bytes r =
    let Q : Frame × List ℕ → Type 0 = FrameBehind pool marks before seen bytes in
    good_bind (Got (λ (at : ℕ) (n : ℕ). Placed marks before at × (n ≡ 2)) bytes) Q (place_at marks before bytes) _ (place_good marks before bytes r)
    (λ at pa. good_more (λ (x : Frame × List ℕ). (n : ℕ) × FrameOk pool marks before seen x.0 (3 + n) × (length at.1 ≡ n + length x.1) × Ranged x.1) Q (same_item_at pool marks seen at.0 at.1)
    (same_item_good pool marks before seen at.0 3 pa.of.0 (near_three (delta_of before at.0)) at.1 pa.ranged)
    (λ x px.
    let e : 3 + px.0 ≡ 1 + (2 + px.0) = omega arith in
    (2 + px.0, subst (λ (k : ℕ). FrameOk pool marks before seen x.0 k) e px.1, omega (arith, pa.took, pa.of.1, px.2), px.3)))

chop_good : (pool : List Slot) (marks : List Bool) (before : Option ℕ) (seen : List Item) (left fewer : ℕ) → 0 < fewer → fewer ≤ 3 → (bytes : List ℕ) → Ranged bytes → Good (FrameBehind pool marks before seen bytes) (chop_at marks before seen left fewer bytes)
unfolding chop_at
chop_good pool marks before seen left fewer some few bytes r =
    let Q : Frame × List ℕ → Type 0 = FrameBehind pool marks before seen bytes in
    good_bind (λ (k : ℕ). nat_le fewer (length seen) ≡ true) Q (wants (nat_le fewer (length seen)) left) _ (good_wants (nat_le fewer (length seen)) left)
    (λ k h. good_bind (Got (λ (at : ℕ) (n : ℕ). Placed marks before at × (n ≡ 2)) bytes) Q (place_at marks before bytes) _ (place_good marks before bytes r)
    (λ at pa.
    let f : Frame = record { at = at.0; locals = take (length seen - fewer) seen; stack = [] } in
    good_ok Q (record { at = at.0; locals = take (length seen - fewer) seen; stack = [] }, at.1)
    (2, frame_ok pool marks before seen f (form.Chop fewer) 3 (form_chop seen f fewer some few (leb-true fewer (length seen) h) refl refl) pa.of.0 (chop_ok pool marks (delta_of before at.0) f fewer 3 (omega arith)), omega (arith, pa.took, pa.of.1), pa.ranged)))

append_good : (pool : List Slot) (marks : List Bool) (before : Option ℕ) (seen : List Item) (count : ℕ) → 0 < count → count ≤ 3 → (bytes : List ℕ) → Ranged bytes → Good (FrameBehind pool marks before seen bytes) (append_at pool marks before seen count bytes)
unfolding append_at
append_good pool marks before seen count some few bytes r =
    let Q : Frame × List ℕ → Type 0 = FrameBehind pool marks before seen bytes in
    good_bind (Got (λ (at : ℕ) (n : ℕ). Placed marks before at × (n ≡ 2)) bytes) Q (place_at marks before bytes) _ (place_good marks before bytes r)
    (λ at pa. good_bind (Got (Counted count (ItemOk pool marks)) at.1) Q (many (item_at pool marks) count at.1) _ (many_good (ItemOk pool marks) (item_at pool marks) (item_good pool marks) count at.1 pa.ranged)
    (λ more pm.
    let f : Frame = record { at = at.0; locals = seen ++ more.0; stack = [] } in
    let items = items_ok pool marks more.0 pm.n pm.of.1 in
    let so : 0 < length more.0 = omega (arith, some, pm.of.0) in
    let le : length more.0 ≤ 3 = omega (arith, few, pm.of.0) in
    let ok = append_ok pool marks (delta_of before at.0) f more.0 (1 + (2 + pm.n)) pm.n (last_append seen more.0) le items (omega arith) in
    good_ok Q (record { at = at.0; locals = seen ++ more.0; stack = [] }, more.1)
    (2 + pm.n, frame_ok pool marks before seen f (form.Append (length more.0)) (1 + (2 + pm.n)) (form_append seen more.0 f so le refl refl) pa.of.0 ok, omega (arith, pa.took, pa.of.1, pm.took), pm.ranged)))

full_good : (pool : List Slot) (marks : List Bool) (before : Option ℕ) (seen : List Item) (bytes : List ℕ) → Ranged bytes → Good (FrameBehind pool marks before seen bytes) (full_at pool marks before bytes)
unfolding full_at
full_good pool marks before seen bytes r =
    let Q : Frame × List ℕ → Type 0 = FrameBehind pool marks before seen bytes in
    good_bind (Got (λ (at : ℕ) (n : ℕ). Placed marks before at × (n ≡ 2)) bytes) Q (place_at marks before bytes) _ (place_good marks before bytes r)
    (λ at pa. good_bind (Got (Listed (ItemOk pool marks)) at.1) Q (listed (item_at pool marks) at.1) _ (listed_good (ItemOk pool marks) (item_at pool marks) (item_good pool marks) at.1 pa.ranged)
    (λ locals pl. good_bind (Got (Listed (ItemOk pool marks)) locals.1) Q (listed (item_at pool marks) locals.1) _ (listed_good (ItemOk pool marks) (item_at pool marks) (item_good pool marks) locals.1 pl.ranged)
    (λ stack ps.
    let f : Frame = record { at = at.0; locals = locals.0; stack = stack.0 } in
    let size = 1 + (2 + (pl.n + ps.n)) in
    let ls = items_ok pool marks locals.0 pl.of.1 pl.of.2 in
    let st = items_ok pool marks stack.0 ps.of.1 ps.of.2 in
    let ok = full_ok pool marks (delta_of before at.0) f (form_of seen f) (1 + (2 + (pl.n + ps.n))) pl.of.1 ps.of.1 pl.of.0 ps.of.0 ls st (omega (arith, pl.of.3, ps.of.3)) in
    good_ok Q (record { at = at.0; locals = locals.0; stack = stack.0 }, stack.1)
    (2 + (pl.n + ps.n), frame_ok pool marks before seen f (form_of seen f) (1 + (2 + (pl.n + ps.n))) refl pa.of.0 ok, omega (arith, pa.took, pa.of.1, pl.took, ps.took), ps.ranged))))

frame_by_good : (pool : List Slot) (marks : List Bool) (before : Option ℕ) (seen : List Item) (left tag : ℕ) (bytes : List ℕ) → Ranged bytes → Good (FrameBehind pool marks before seen bytes) (frame_by pool marks before seen left tag bytes)
unfolding frame_by
frame_by_good pool marks before seen left tag bytes r =
    let Q : Frame × List ℕ → Type 0 = FrameBehind pool marks before seen bytes in
    good_if Q (nat_lt tag 247) _ _ (λ h. good_err Q (flaw.Tag left))
    (λ n1. good_if Q (eqb tag 247) _ _ (λ h. same_item_extended_good pool marks before seen bytes r)
    (λ n2. good_if Q (nat_lt tag 251) _ _ (λ h.
    let lt = ltb-true tag 251 h in
    let le = ltb-false tag 247 n1 in
    let ne = eqb-false tag 247 n2 in
    chop_good pool marks before seen left (251 - tag) (omega (arith, lt)) (omega (arith, le, ne)) bytes r)
    (λ n3. good_if Q (eqb tag 251) _ _ (λ h. same_extended_good pool marks before seen bytes r)
    (λ n4. good_if Q (nat_lt tag 255) _ _ (λ h.
    let lt = ltb-true tag 255 h in
    let le = ltb-false tag 251 n3 in
    let ne = eqb-false tag 251 n4 in
    append_good pool marks before seen (tag - 251) (omega (arith, le, ne)) (omega (arith, lt)) bytes r)
    (λ n5. full_good pool marks before seen bytes r)))))

pub frame_good : (pool : List Slot) (marks : List Bool) (before : Option ℕ) (seen : List Item) → Reads (FrameOk pool marks before seen) (frame_at pool marks before seen)
unfolding frame_at
frame_good pool marks before seen bytes r =
    let Q : Frame × List ℕ → Type 0 = Got (FrameOk pool marks before seen) bytes in
    good_bind (Got (Numbered 256 1) bytes) Q (u8_at bytes) _ (u1_good bytes r)
    (λ tag pt. good_if Q (nat_lt tag.0 64) _ _ (λ near. good_bind (λ (k : ℕ). begins marks (place_of before tag.0) ≡ true) Q (wants (begins marks (place_of before tag.0)) (length bytes)) _ (good_wants (begins marks (place_of before tag.0)) (length bytes))
    (λ k h.
    let f : Frame = record { at = place_of before tag.0; locals = seen; stack = [] } in
    let p : Placed marks before (place_of before tag.0) = record { begins = h; behind = behind_place before tag.0 } in
    let one = near_one before tag.0 (ltb-true tag.0 64 near) in
    good_ok Q (record { at = place_of before tag.0; locals = seen; stack = [] }, tag.1)
    (record { n = 1; of = frame_ok pool marks before seen f form.Same 1 (form_same seen f refl refl) p (same_ok pool marks (delta_of before (place_of before tag.0)) f 1 (omega (arith, one))); took = omega (arith, pt.took, pt.of.1); ranged = pt.ranged })))
    (λ far. good_if Q (nat_lt tag.0 128) _ _ (λ near. good_bind (λ (k : ℕ). begins marks (place_of before (tag.0 - 64)) ≡ true) Q (wants (begins marks (place_of before (tag.0 - 64))) (length bytes)) _ (good_wants (begins marks (place_of before (tag.0 - 64))) (length bytes))
    (λ k h.
    let p : Placed marks before (place_of before (tag.0 - 64)) = record { begins = h; behind = behind_place before (tag.0 - 64) } in
    let lt = ltb-true tag.0 128 near in
    let one = near_one before (tag.0 - 64) (omega (arith, lt)) in
    good_more (λ (x : Frame × List ℕ). (n : ℕ) × FrameOk pool marks before seen x.0 (1 + n) × (length tag.1 ≡ n + length x.1) × Ranged x.1) Q (same_item_at pool marks seen (place_of before (tag.0 - 64)) tag.1)
    (same_item_good pool marks before seen (place_of before (tag.0 - 64)) 1 p (omega (arith, one)) tag.1 pt.ranged)
    (λ x px. record { n = 1 + px.0; of = px.1; took = omega (arith, pt.took, pt.of.1, px.2); ranged = px.3 })))
    (λ farther. good_more (FrameBehind pool marks before seen tag.1) Q (frame_by pool marks before seen (length bytes) tag.0 tag.1) (frame_by_good pool marks before seen (length bytes) tag.0 tag.1 pt.ranged)
    (λ x px. record { n = 1 + px.0; of = px.1; took = omega (arith, pt.took, pt.of.1, px.2); ranged = px.3 }))))

-- ---- the table

pub record FramesOk (pool : List Slot) (marks : List Bool) (before : Option ℕ) (seen : List Item) (fs : List Frame) (n : ℕ) : Type 0 where
  pub fits : frames_fit marks before seen fs ≡ true
  pub size : (room : ℕ) → n ≤ room → frames_within room before seen fs ≡ true
  pub uses : Stand pool (frames_uses seen fs)

frames_none : (pool : List Slot) (marks : List Bool) (before : Option ℕ) (seen : List Item) (n : ℕ) → FramesOk pool marks before seen [] n
unfolding frames_fit frames_within frames_uses
frames_none pool marks before seen n = record { fits = refl; size = λ room le. refl; uses = tt }

frames_more : (pool : List Slot) (marks : List Bool) (before : Option ℕ) (seen : List Item) (f : Frame) (fs : List Frame) (n m : ℕ) → FrameOk pool marks before seen f n → FramesOk pool marks (Some (f.at)) (f.locals) fs m → FramesOk pool marks before seen (f ∷ fs) (n + m)
unfolding frames_fit frames_within frames_uses
frames_more pool marks before seen f fs n m one more = record {
  fits = rw one.fits more.fits;
  size = λ room le. rw (le-leb (frame_length before seen f) room (omega (arith, one.size, le))) (more.size (room - frame_length before seen f) (omega (arith, one.size, le)));
  uses = all_append (Stands pool) (form_uses f (form_of seen f)) (frames_uses (f.locals) fs) one.uses more.uses;
}

abbrev FramesCounted : List Slot → List Bool → ℕ → Option ℕ → List Item → List Frame → ℕ → Type 0
FramesCounted pool marks count before seen fs n = FramesOk pool marks before seen fs n × (length fs ≡ count)

frames_good : (pool : List Slot) (marks : List Bool) (count : ℕ) (before : Option ℕ) (seen : List Item) → Reads (FramesCounted pool marks count before seen) (frames_at pool marks count before seen)
unfolding frames_at
frames_good pool marks zero before seen bytes r = good_ok (Got (FramesCounted pool marks 0 before seen) bytes) ([], bytes) (record { n = 0; of = (frames_none pool marks before seen 0, refl); took = omega arith; ranged = r })
frames_good pool marks (suc count) before seen bytes r =
    let Q : List Frame × List ℕ → Type 0 = Got (FramesCounted pool marks (suc count) before seen) bytes in
    good_bind (Got (FrameOk pool marks before seen) bytes) Q (frame_at pool marks before seen bytes) _ (frame_good pool marks before seen bytes r)
    (λ f pf. good_bind (Got (FramesCounted pool marks count (Some (f.0.at)) (f.0.locals)) f.1) Q (frames_at pool marks count (Some (f.0.at)) (f.0.locals) f.1) _ (frames_good pool marks count (Some (f.0.at)) (f.0.locals) f.1 pf.ranged)
    (λ fs pfs. good_ok Q (f.0 ∷ fs.0, fs.1) (record {
      n = pf.n + pfs.n;
      of = (frames_more pool marks before seen f.0 fs.0 pf.n pfs.n pf.of pfs.of.0, ap (λ (k : ℕ). suc k) pfs.of.1);
      took = omega (arith, pf.took, pfs.took);
      ranged = pfs.ranged;
    })))

-- so many bytes beside those of the frames themselves
pub record TableOk (pool : List Slot) (marks : List Bool) (entry : List Item) (beside : ℕ) (fs : List Frame) (n : ℕ) : Type 0 where
  pub few : is_count fs ≡ true
  pub fits : frames_fit marks None entry fs ≡ true
  pub size : (room : ℕ) → n ≤ beside + room → frames_within room None entry fs ≡ true
  pub uses : Stand pool (table_uses entry fs)

uses_named : (pool : List Slot) (entry : List Item) (fs : List Frame) → Stands pool (KnownText (codes "StackMapTable")) → Stand pool (frames_uses entry fs) → Stand pool (table_uses entry fs)
uses_named pool entry [] h g = tt
uses_named pool entry (f ∷ fs) h g = (h, g)

table_good : (pool : List Slot) (marks : List Bool) (entry : List Item) → Reads (λ (fs : List Frame) (n : ℕ). (k : ℕ) × FramesOk pool marks None entry fs k × (length fs < 65536) × (n ≡ 2 + k)) (table_at pool marks entry)
unfolding table_at
table_good pool marks entry bytes r =
    let Q : List Frame × List ℕ → Type 0 = Got (λ (fs : List Frame) (n : ℕ). (k : ℕ) × FramesOk pool marks None entry fs k × (length fs < 65536) × (n ≡ 2 + k)) bytes in
    good_bind (Got (Numbered 65536 2) bytes) Q (number_at w16 bytes) _ (u2_good bytes r)
    (λ n pn. good_more (Got (FramesCounted pool marks n.0 None entry) n.1) Q (frames_at pool marks n.0 None entry n.1) (frames_good pool marks n.0 None entry n.1 pn.ranged)
    (λ x px. record { n = 2 + px.n; of = (px.n, px.of.0, omega (arith, px.of.1, pn.of.0), refl); took = omega (arith, pn.took, pn.of.1, px.took); ranged = px.ranged }))

frames_of_good : (pool : List Slot) (marks : List Bool) (entry : List Item) → Reads (TableOk pool marks entry 8) (frames_of_at pool marks entry)
unfolding frames_of_at
frames_of_good pool marks entry bytes r =
    let Q : List Frame × List ℕ → Type 0 = Got (TableOk pool marks entry 8) bytes in
    good_bind (Got (AttributeOk pool (codes "StackMapTable")) bytes) Q (attribute_at pool (codes "StackMapTable") bytes) _ (attribute_good pool (codes "StackMapTable") bytes r)
    (λ n pn. good_bind (Got (λ (fs : List Frame) (m : ℕ). (k : ℕ) × FramesOk pool marks None entry fs k × (length fs < 65536) × (m ≡ 2 + k)) n.1) Q (table_at pool marks entry n.1) _ (table_good pool marks entry n.1 pn.ranged)
    (λ fs pf. good_bind (λ (k : ℕ). length n.1 - length fs.1 ≡ n.0) Q (attribute_ends n.0 (length n.1) (length fs.1)) _ (ends_good n.0 (length n.1) (length fs.1))
    (λ k met. good_ok Q fs (record {
      n = 6 + pf.n;
      of = record {
        few = lt-ltb (length fs.0) 65536 pf.of.2;
        fits = pf.of.1.fits;
        size = λ room le. pf.of.1.size room (omega (arith, pf.of.3, le));
        uses = uses_named pool entry fs.0 pn.of.0 pf.of.1.uses;
      };
      took = omega (arith, pn.took, pn.of.2, pf.took);
      ranged = pf.ranged;
    }))))

no_table : (pool : List Slot) (marks : List Bool) (entry : List Item) → TableOk pool marks entry 10 [] 2
unfolding frames_fit frames_within
no_table pool marks entry = record { few = refl; fits = refl; size = λ room le. refl; uses = tt }

pub code_attributes_good : (pool : List Slot) (marks : List Bool) (entry : List Item) → Reads (TableOk pool marks entry 10) (code_attributes_at pool marks entry)
unfolding code_attributes_at
code_attributes_good pool marks entry bytes r =
    let Q : List Frame × List ℕ → Type 0 = Got (TableOk pool marks entry 10) bytes in
    good_bind (Got (Numbered 65536 2) bytes) Q (number_at w16 bytes) _ (u2_good bytes r)
    (λ n pn. good_if Q (eqb n.0 0) _ _ (λ h. good_ok Q ([], n.1) (record { n = 2; of = no_table pool marks entry; took = omega (arith, pn.took, pn.of.1); ranged = pn.ranged }))
    (λ h. good_bind (Got (TableOk pool marks entry 8) n.1) Q (frames_of_at pool marks entry n.1) _ (frames_of_good pool marks entry n.1 pn.ranged)
    (λ fs pf. good_bind (λ (x : ℕ × List ℕ). x.1 ≡ fs.1) Q (no_more_at pool (n.0 - 1) fs.1) _ (none_more_good pool (n.0 - 1) fs.1)
    (λ more same. good_ok Q (fs.0, more.1) (record {
      n = 2 + pf.n;
      of = record { few = pf.of.few; fits = pf.of.fits; size = λ room le. pf.of.size room (omega (arith, le)); uses = pf.of.uses };
      took = omega (arith, pn.took, pn.of.1, pf.took, ap (length {A = ℕ}) same);
      ranged = subst Ranged (sym same) pf.ranged;
    })))))
