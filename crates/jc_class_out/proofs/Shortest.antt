-- What the shortest form of a frame says of it.
use Rattle.std.proofs.Common.{◌≡◌, ◌<◌, ◌≤◌, ℕ, zero, suc, ◌+◌, ◌-◌, Bool, true, false, cond, ltb, eqb, List, [], ◌∷◌, ◌++◌, length, take, drop, refl, sym, ap, ◌∙◌, arith}
use lib.Dec.{leb}
use Rattle.std.specs.Prelude.{◌&&◌}
use Rattle.std.proofs.lemmas.Bool.{ltb-true, leb-true, eqb-true, eq-eqb, ne_eqb, lt-ltb, le-ltb, le-leb, ltb-false, and_parts}
use Rattle.std.proofs.lemmas.List.{length-append, length-drop, length-take-le, take_all, drop_at}
use Rattle.std.proofs.lemmas.Slice.Eq.{bytes_eq-Decides}
use Rattle.jc_rules.proofs.Truths.{not_both}
use Rattle.jc_class_out.specs.declared.forms.Form.{Form}
use Rattle.jc_class_out.specs.declared.forms.Form.TheVariants.{Same, SameItem, Chop, Append, Full}
use Rattle.jc_class_out.specs.declared.model.Frame.{Frame}
use Rattle.jc_class_out.specs.declared.model.Item.{Item}
use Rattle.jc_class_out.specs.declared.model.Item.TheVariants as item
use Rattle.jc_class_out.specs.Forms.{same_item, alike, bare_form, form_of, last_of}

-- ---- items that are the same

same_item_true : (a b : Item) → same_item a b ≡ true → a ≡ b
same_item_true item.Top item.Top h = refl
same_item_true item.Integer item.Integer h = refl
same_item_true item.Long item.Long h = refl
same_item_true item.NullItem item.NullItem h = refl
same_item_true item.UninitializedThis item.UninitializedThis h = refl
same_item_true (item.Object a) (item.Object b) h = ap item.Object ((bytes_eq-Decides a b).0 h)
same_item_true (item.Uninitialized a) (item.Uninitialized b) h = ap item.Uninitialized (eqb-true a b h)
same_item_true _ _ h = absurd cc

same_item_refl : (a : Item) → same_item a a ≡ true
same_item_refl item.Top = refl
same_item_refl item.Integer = refl
same_item_refl item.Long = refl
same_item_refl item.NullItem = refl
same_item_refl item.UninitializedThis = refl
same_item_refl (item.Object a) = (bytes_eq-Decides a a).1 refl
same_item_refl (item.Uninitialized a) = eq-eqb a a refl

pub alike_refl : (xs : List Item) → alike xs xs ≡ true
unfolding alike
alike_refl [] = refl
alike_refl (x ∷ xs) = rw (same_item_refl x, alike_refl xs) refl

-- the longer one begins with the shorter one
pub alike_more : (xs ys : List Item) → alike xs ys ≡ true → length xs ≤ length ys → ys ≡ xs ++ drop (length xs) ys
unfolding alike
alike_more [] ys h le = refl
alike_more (x ∷ xs) [] h le = absurd (omega (arith, le))
alike_more (x ∷ xs) (y ∷ ys) h le =
    let p = and_parts (same_item x y) (alike xs ys) h in
    let ih = alike_more xs ys p.1 (omega (arith, le)) in
    let e : x ≡ y = same_item_true x y p.0 in
    rw e (ap (λ (l : List Item). y ∷ l) ih)

pub alike_less : (xs ys : List Item) → alike xs ys ≡ true → length ys ≤ length xs → ys ≡ take (length ys) xs
unfolding alike
alike_less xs [] h le = refl
alike_less [] (y ∷ ys) h le = absurd (omega (arith, le))
alike_less (x ∷ xs) (y ∷ ys) h le =
    let p = and_parts (same_item x y) (alike xs ys) h in
    let ih = alike_less xs ys p.1 (omega (arith, le)) in
    let e : x ≡ y = same_item_true x y p.0 in
    rw e (ap (λ (l : List Item). y ∷ l) ih)

pub alike_append : (xs ys : List Item) → alike xs (xs ++ ys) ≡ true
unfolding alike
alike_append [] ys = refl
alike_append (x ∷ xs) ys = rw (same_item_refl x, alike_append xs ys) refl

alike_none : (xs : List Item) → alike xs [] ≡ true
unfolding alike
alike_none [] = refl
alike_none (x ∷ xs) = alike_none xs

pub alike_take : (n : ℕ) (xs : List Item) → alike xs (take n xs) ≡ true
unfolding alike
alike_take zero [] = refl
alike_take zero (x ∷ xs) = alike_none xs
alike_take (suc n) [] = refl
alike_take (suc n) (x ∷ xs) = rw (same_item_refl x, alike_take n xs) refl

-- ---- what a form says

abbrev pub FormIs : List Item → Frame → Form → Type 0
FormIs seen f Same = (f.locals ≡ seen) × (f.stack ≡ [])
FormIs seen f SameItem = (f.locals ≡ seen) × (length f.stack ≡ 1)
FormIs seen f (Chop k) = (0 < k) × (k ≤ 3) × (k ≤ length seen) × (f.locals ≡ take (length seen - k) seen) × (f.stack ≡ [])
FormIs seen f (Append k) = (0 < k) × (k ≤ 3) × (length (last_of k f.locals) ≡ k) × (f.locals ≡ seen ++ last_of k f.locals) × (f.stack ≡ [])
FormIs seen f Full = Unit {0}

no_items : (xs : List Item) → length xs ≡ 0 → xs ≡ []
no_items [] h = refl
no_items (x ∷ xs) h = absurd (omega (arith, h))

same_is : (xs ys : List Item) → alike xs ys ≡ true → length xs ≡ length ys → ys ≡ xs
same_is xs ys h e = alike_less xs ys h (omega (arith, e)) ∙ take_all (length ys) xs (omega (arith, e))

chop_is : (xs ys : List Item) → alike xs ys ≡ true → length ys < length xs → ys ≡ take (length xs - (length xs - length ys)) xs
chop_is xs ys h lt =
    let e : length xs - (length xs - length ys) ≡ length ys = omega (arith, lt) in
    alike_less xs ys h (omega (arith, lt)) ∙ ap (λ (n : ℕ). take n xs) (sym e)

append_is : (xs ys : List Item) → alike xs ys ≡ true → length xs ≤ length ys → ys ≡ xs ++ last_of (length ys - length xs) ys
append_is xs ys h le =
    let e : length ys - (length ys - length xs) ≡ length xs = omega (arith, le) in
    alike_more xs ys h le ∙ ap (λ (n : ℕ). xs ++ drop n ys) (sym e)

bare_by : (seen : List Item) (f : Frame) (b c d e : Bool) → alike seen f.locals ≡ true → f.stack ≡ []
    → eqb (length seen) (length f.locals) ≡ b → ltb (length f.locals) (length seen) ≡ c → leb (length seen - length f.locals) 3 ≡ d → leb (length f.locals - length seen) 3 ≡ e
    → FormIs seen f (cond b Same (cond c (cond d (Chop (length seen - length f.locals)) Full) (cond e (Append (length f.locals - length seen)) Full)))
bare_by seen f true c d e a s h1 h2 h3 h4 = (same_is seen f.locals a (eqb-true _ _ h1), s)
bare_by seen f false true true e a s h1 h2 h3 h4 =
    let lt = ltb-true (length f.locals) (length seen) h2 in
    (omega (arith, lt), leb-true _ _ h3, omega arith, chop_is seen f.locals a lt, s)
bare_by seen f false true false e a s h1 h2 h3 h4 = tt
bare_by seen f false false d true a s h1 h2 h3 h4 =
    let le = ltb-false (length f.locals) (length seen) h2 in
    let ne : length seen ≡ length f.locals → ⊥ = λ q. not_both _ (eq-eqb _ _ q) h1 in
    (omega (arith, le, ne), leb-true _ _ h4, omega (arith, length-drop (length f.locals - (length f.locals - length seen)) f.locals, le), append_is seen f.locals a le, s)
bare_by seen f false false d false a s h1 h2 h3 h4 = tt

form_cases : (seen : List Item) (f : Frame) (a b c d : Bool) → alike seen f.locals ≡ a → eqb (length f.stack) 0 ≡ b → eqb (length f.stack) 1 ≡ c → eqb (length seen) (length f.locals) ≡ d
    → FormIs seen f (cond a (cond b (bare_form (length seen) (length f.locals)) (cond (c && d) SameItem Full)) Full)
form_cases seen f false b c d h1 h2 h3 h4 = tt
form_cases seen f true true c d h1 h2 h3 h4 = bare_by seen f _ _ _ _ h1 (no_items f.stack (eqb-true _ _ h2)) refl refl refl refl
form_cases seen f true false true true h1 h2 h3 h4 = (same_is seen f.locals h1 (eqb-true _ _ h4), eqb-true _ _ h3)
form_cases seen f true false true false h1 h2 h3 h4 = tt
form_cases seen f true false false d h1 h2 h3 h4 = tt

pub form_is : (seen : List Item) (f : Frame) → FormIs seen f (form_of seen f)
unfolding form_of
form_is seen f = form_cases seen f (alike seen f.locals) (eqb (length f.stack) 0) (eqb (length f.stack) 1) (eqb (length seen) (length f.locals)) refl refl refl refl

-- ---- the form of a frame of which that much is known

pub form_same : (seen : List Item) (f : Frame) → f.locals ≡ seen → f.stack ≡ [] → form_of seen f ≡ Same
unfolding form_of
form_same seen f l s = rw (l, s, alike_refl seen, eq-eqb (length seen) (length seen) refl) refl

pub form_same_item : (seen : List Item) (f : Frame) (i : Item) → f.locals ≡ seen → f.stack ≡ i ∷ [] → form_of seen f ≡ SameItem
unfolding form_of
form_same_item seen f i l s = rw (l, s, alike_refl seen, eq-eqb (length seen) (length seen) refl) refl

pub form_chop : (seen : List Item) (f : Frame) (k : ℕ) → 0 < k → k ≤ 3 → k ≤ length seen → f.locals ≡ take (length seen - k) seen → f.stack ≡ [] → form_of seen f ≡ Chop k
unfolding form_of
form_chop seen f k some few within l s =
    let n : length (take (length seen - k) seen) ≡ length seen - k = length-take-le (length seen - k) seen (omega arith) in
    let ne : eqb (length seen) (length seen - k) ≡ false = ne_eqb _ _ (λ q. omega (arith, q, some, within)) in
    let lt : ltb (length seen - k) (length seen) ≡ true = lt-ltb _ _ (omega (arith, some, within)) in
    let back : length seen - (length seen - k) ≡ k = omega (arith, within) in
    rw (l, s, alike_take (length seen - k) seen, n, ne, lt, back, le-leb k 3 few) refl

pub form_append : (seen more : List Item) (f : Frame) → 0 < length more → length more ≤ 3 → f.locals ≡ seen ++ more → f.stack ≡ [] → form_of seen f ≡ Append (length more)
unfolding form_of
form_append seen more f some few l s =
    let n : length (seen ++ more) ≡ length seen + length more = length-append seen more in
    let ne : eqb (length seen) (length seen + length more) ≡ false = ne_eqb _ _ (λ q. omega (arith, q, some)) in
    let lt : ltb (length seen + length more) (length seen) ≡ false = le-ltb _ _ (omega arith) in
    let back : (length seen + length more) - length seen ≡ length more = omega arith in
    rw (l, s, alike_append seen more, n, ne, lt, back, le-leb (length more) 3 few) refl

pub last_append : (seen more : List Item) → last_of (length more) (seen ++ more) ≡ more
last_append seen more =
    let n : length (seen ++ more) - length more ≡ length seen = omega (arith, length-append seen more) in
    rw n (drop_at seen more (length seen) refl)
