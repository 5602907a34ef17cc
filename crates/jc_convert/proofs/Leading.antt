-- The steps of each row of the tables lead from the one type to the other.
use Rattle.std.proofs.Common.{◌≡◌, ◌⊎◌, ◌==◌, ◌&&◌, Bool, true, false, Option, Some, None, List, [], ◌∷◌, if◌then◌else◌, inl, inr, refl, sym, ap, subst, ◌∙◌}
use Rattle.std.proofs.lemmas.Bool.{and_from}
use Rattle.jc_rules.proofs.Truths.{and_first, and_second}
use Rattle.jc_types.specs.declared.constant.Constant.{Constant}
use Rattle.jc_types.specs.declared.constant.Constant.TheVariants.{Whole, Text}
use Rattle.jc_types.specs.declared.conversion.Conversion.{Conversion}
use Rattle.jc_types.specs.declared.conversion.Step.TheVariants.{Widen, Narrow, BoxUp, Unbox, Up, Check}
use Rattle.jc_types.specs.declared.environment.Bounds.{Bounds}
use Rattle.jc_types.specs.declared.form.Primitive.{Primitive}
use Rattle.jc_types.specs.declared.form.Primitive.TheVariants.{Boolean, Byte, Short, Char, Int, Long}
use Rattle.jc_types.specs.declared.form.Ty.{Ty, Ty-F, out-Ty, roll-Ty, roll-out-Ty}
use Rattle.jc_types.specs.declared.form.Ty.TheVariants.{Prim, rolls-Prim}
use Rattle.jc_types.specs.declared.table.Table.{Table}
use Rattle.jc_types.specs.Sameness.{same, prim_number}
use Rattle.jc_types.proofs.Sameness.{same_told}
use Rattle.jc_judge.specs.declared.question.Answer.{Answer}
use Rattle.jc_judge.specs.declared.question.Answer.TheVariants.{Yes, No, Deep}
use Rattle.jc_judge.specs.Deciding.{answer_of}
use Rattle.jc_judge.specs.Kinds.{Layer, primitive_below}
use Rattle.jc_convert.specs.declared.answer.Converts.{Converts}
use Rattle.jc_convert.specs.declared.answer.Converts.TheVariants as converts
use Rattle.jc_convert.specs.Rows.{Row, checked, unchecked, truth, decided, first_row}
use Rattle.jc_convert.specs.Converting.{box, up_unless_same, unboxes, first_unboxed, unboxed, unboxing, is_small, constant_fits, narrows, narrows_to_box, converts_unchecked, primitive_rows, reference_rows, boxing_rows, unboxing_rows, rows_from_primitive, rows_from_reference, rows_at, rows}
use Rattle.jc_convert.specs.Casting.{is_numeric, bound_of, is_legal, primitive_casts, reference_casts, unboxing_casts, casts_from_primitive, casts_from_reference, casts_at, cast_rows}
use Rattle.jc_convert.specs.Steps.{IsBoxed, Lead, AssignmentsLead, CastsLead}

-- ---- the row that decides

abbrev pub OneRow : List Row → Conversion → Type 0
OneRow [] c = ⊥
OneRow (r ∷ rs) c = ((r.premise ≡ Yes) × (r.gives ≡ c)) ⊎ OneRow rs c

decided_given : (a : Answer) (g c : Conversion) (rest : Converts) → decided a g rest ≡ converts.Yes c → ((a ≡ Yes) × (g ≡ c)) ⊎ (rest ≡ converts.Yes c)
decided_given Yes g c rest e = let same : g ≡ c = cc in inl (refl, same)
decided_given No g c rest e = inr e
decided_given Deep g c rest e = cc

pub first_given : (rs : List Row) (c : Conversion) → first_row rs ≡ converts.Yes c → OneRow rs c
first_given [] c e = cc
first_given (r ∷ rs) c e = elim (decided_given r.premise r.gives c (first_row rs) e) [ inl h ↦ inl h | inr h ↦ inr (first_given rs c h) ]

-- ---- tests

truth_yes : (b : Bool) → truth b ≡ Yes → b ≡ true
truth_yes true e = refl
truth_yes false e = cc

same_primitive : (p q : Primitive) → (prim_number p == prim_number q) ≡ true → Prim p ≡ Prim q
same_primitive Boolean Boolean e = refl
same_primitive Byte Byte e = refl
same_primitive Short Short e = refl
same_primitive Char Char e = refl
same_primitive Int Int e = refl
same_primitive Long Long e = refl
same_primitive p q e = cc

small_numeric : (p : Primitive) → is_small p ≡ true → is_numeric p ≡ true
small_numeric Boolean e = cc
small_numeric Byte e = refl
small_numeric Short e = refl
small_numeric Char e = refl
small_numeric Int e = refl
small_numeric Long e = cc

fits_numeric : (c : Option Constant) (q : Primitive) → constant_fits c q ≡ true → is_numeric q ≡ true
fits_numeric None q e = cc
fits_numeric (Some (Whole n of)) Boolean e = cc
fits_numeric (Some (Whole n of)) Byte e = refl
fits_numeric (Some (Whole n of)) Short e = refl
fits_numeric (Some (Whole n of)) Char e = refl
fits_numeric (Some (Whole n of)) Int e = refl
fits_numeric (Some (Whole n of)) Long e = refl
fits_numeric (Some (Text units)) q e = cc

narrows_numeric : (c : Option Constant) (p q : Primitive) → narrows c p q ≡ true → (is_numeric p && is_numeric q) ≡ true
narrows_numeric c p q e =
    and_from _ _ (small_numeric p (and_first (is_small p) _ e)) (fits_numeric c q (and_second (is_small p) _ e))

-- ---- steps

abbrev LeadsBy : Table → List Bounds → Ty → Ty → Conversion → Type 0
LeadsBy T env s t c = Lead T env c s c.steps t

along : (T : Table) (env : List Bounds) (s t : Ty) (g c : Conversion) → g ≡ c → LeadsBy T env s t g → LeadsBy T env s t c
along T env s t g c e h = subst (LeadsBy T env s t) e h

stays : (T : Table) (env : List Bounds) (s t : Ty) → s ≡ t → LeadsBy T env s t (checked [])
stays T env s t e = e

widens : (T : Table) (env : List Bounds) (p q : Primitive) → primitive_below p q ≡ true → LeadsBy T env (Prim p) (Prim q) (checked (Widen q ∷ []))
widens T env p q e = (Prim q, record { from = p; is_from = refl; is_to = refl; holds = e }, refl)

narrowed : (T : Table) (env : List Bounds) (p q : Primitive) → (is_numeric p && is_numeric q) ≡ true → LeadsBy T env (Prim p) (Prim q) (checked (Narrow q ∷ []))
narrowed T env p q e = (Prim q, record { from = p; is_from = refl; is_to = refl; holds = e }, refl)

goes_up : (T : Table) (env : List Bounds) (s t : Ty) → answer_of T 64 env s t ≡ Yes → LeadsBy T env s t (checked (Up t ∷ []))
goes_up T env s t e = (t, (refl, inl e), refl)

unchecked_up : (T : Table) (env : List Bounds) (s t : Ty) → converts_unchecked T env s t ≡ true → LeadsBy T env s t (unchecked (Up t ∷ []))
unchecked_up T env s t e = (t, (refl, inr (inl (refl, e))), refl)

is_checked : (T : Table) (env : List Bounds) (s t : Ty) → is_legal T env s t ≡ true → LeadsBy T env s t (checked (Check t ∷ []))
is_checked T env s t e = (t, (refl, inl e), refl)

boxed : (T : Table) (p : Primitive) → IsBoxed T (Prim p) (box T p)
boxed T p = record { of = p; is_primitive = refl; is_class = refl }

up_or_same : (T : Table) (env : List Bounds) (p : Primitive) (t : Ty) (b : Bool) → same (box T p) t ≡ b → answer_of T 64 env (box T p) t ≡ Yes → LeadsBy T env (Prim p) t (checked (BoxUp ∷ (if b then [] else Up t ∷ [])))
up_or_same T env p t true is e = (box T p, boxed T p, same_told (box T p) t is)
up_or_same T env p t false is e = (box T p, boxed T p, (t, (refl, inl e), refl))

boxes_up : (T : Table) (env : List Bounds) (p : Primitive) (t : Ty) → answer_of T 64 env (box T p) t ≡ Yes → LeadsBy T env (Prim p) t (checked (BoxUp ∷ up_unless_same (box T p) t))
boxes_up T env p t e = up_or_same T env p t (same (box T p) t) refl e

boxes_unchecked : (T : Table) (env : List Bounds) (p : Primitive) (t : Ty) → converts_unchecked T env (box T p) t ≡ true → LeadsBy T env (Prim p) t (unchecked (BoxUp ∷ Up t ∷ []))
boxes_unchecked T env p t e = (box T p, boxed T p, (t, (refl, inr (inl (refl, e))), refl))

-- a constant that narrows to q and is boxed
boxes_constant : (T : Table) (env : List Bounds) (c : Option Constant) (p : Primitive) (t : Ty) (q : Primitive) → narrows_to_box T c p t q ≡ true → LeadsBy T env (Prim p) t (checked (Narrow q ∷ BoxUp ∷ []))
boxes_constant T env c p t q e =
    let is : t ≡ box T q = same_told t (box T q) (and_first (same t (box T q)) _ e) in
    let ok = narrows_numeric c p q (and_second (same t (box T q)) _ e) in
    (Prim q, record { from = p; is_from = refl; is_to = refl; holds = ok }, (t, record { of = q; is_primitive = refl; is_class = is }, refl))

-- ---- unboxing

abbrev UnboxedTo : Table → List Bounds → Ty → Option Primitive → Type 0
UnboxedTo T env s None = Unit {0}
UnboxedTo T env s (Some p) = unboxes T env s p ≡ true

first_by : (T : Table) (env : List Bounds) (s : Ty) (p : Primitive) (o : Option Primitive) (b : Bool) → unboxes T env s p ≡ b → UnboxedTo T env s o → UnboxedTo T env s (if b then Some p else o)
first_by T env s p o true e h = e
first_by T env s p o false e h = h

first_is : (T : Table) (env : List Bounds) (s : Ty) (ps : List Primitive) → UnboxedTo T env s (first_unboxed T env s ps)
first_is T env s [] = tt
first_is T env s (p ∷ ps) = first_by T env s p (first_unboxed T env s ps) (unboxes T env s p) refl (first_is T env s ps)

unboxed_is : (T : Table) (env : List Bounds) (s : Ty) → UnboxedTo T env s (unboxed T env s)
unfolding unboxed
unboxed_is T env s = first_is T env s (Boolean ∷ Byte ∷ Short ∷ Char ∷ Int ∷ Long ∷ [])

unboxing_by : (T : Table) (env : List Bounds) (s : Ty) (p q : Primitive) (own equal : Bool) → same s (box T p) ≡ own → (prim_number p == prim_number q) ≡ equal → unboxes T env s p ≡ true → primitive_below p q ≡ true → LeadsBy T env s (Prim q) (checked (if own then (if equal then Unbox ∷ [] else Unbox ∷ Widen q ∷ []) else (if equal then Up (box T p) ∷ Unbox ∷ [] else Up (box T p) ∷ Unbox ∷ Widen q ∷ [])))
unboxing_by T env s p q true true is equal above below =
    let own = same_told s (box T p) is in
    (Prim p, record { of = p; is_primitive = refl; is_class = own }, same_primitive p q equal)
unboxing_by T env s p q true false is equal above below =
    let own = same_told s (box T p) is in
    (Prim p, record { of = p; is_primitive = refl; is_class = own }, (Prim q, record { from = p; is_from = refl; is_to = refl; holds = below }, refl))
unboxing_by T env s p q false true is equal above below =
    (box T p, (refl, inr (inr (record { of = p; is_class = refl; above = above }))), (Prim p, boxed T p, same_primitive p q equal))
unboxing_by T env s p q false false is equal above below =
    (box T p, (refl, inr (inr (record { of = p; is_class = refl; above = above }))), (Prim p, boxed T p, (Prim q, record { from = p; is_from = refl; is_to = refl; holds = below }, refl)))

unboxing_leads : (T : Table) (env : List Bounds) (s : Ty) (p q : Primitive) → unboxes T env s p ≡ true → primitive_below p q ≡ true → LeadsBy T env s (Prim q) (checked (unboxing T s p q))
unboxing_leads T env s p q above below = unboxing_by T env s p q (same s (box T p)) (prim_number p == prim_number q) refl refl above below

-- ---- tables

primitives_lead : (T : Table) (env : List Bounds) (k : Option Constant) (p q : Primitive) (c : Conversion) → OneRow (primitive_rows k p q) c → LeadsBy T env (Prim p) (Prim q) c
primitives_lead T env k p q c (inl h) = along T env _ _ _ c h.1 (same_primitive p q (truth_yes _ h.0))
primitives_lead T env k p q c (inr (inl h)) = along T env _ _ _ c h.1 (widens T env p q (truth_yes _ h.0))
primitives_lead T env k p q c (inr (inr (inl h))) = along T env _ _ _ c h.1 (narrowed T env p q (narrows_numeric k p q (truth_yes _ h.0)))
primitives_lead T env k p q c (inr (inr (inr h))) = absurd h

references_lead : (T : Table) (env : List Bounds) (s t : Ty) (c : Conversion) → OneRow (reference_rows T env s t) c → LeadsBy T env s t c
references_lead T env s t c (inl h) = along T env _ _ _ c h.1 (same_told s t (truth_yes _ h.0))
references_lead T env s t c (inr (inl h)) = along T env _ _ _ c h.1 (goes_up T env s t h.0)
references_lead T env s t c (inr (inr (inl h))) = along T env _ _ _ c h.1 (unchecked_up T env s t (truth_yes _ h.0))
references_lead T env s t c (inr (inr (inr h))) = absurd h

boxings_lead : (T : Table) (env : List Bounds) (k : Option Constant) (p : Primitive) (t : Ty) (c : Conversion) → OneRow (boxing_rows T env k p t) c → LeadsBy T env (Prim p) t c
boxings_lead T env k p t c (inl h) = along T env _ _ _ c h.1 (boxes_up T env p t h.0)
boxings_lead T env k p t c (inr (inl h)) = along T env _ _ _ c h.1 (boxes_unchecked T env p t (truth_yes _ h.0))
boxings_lead T env k p t c (inr (inr (inl h))) = along T env _ _ _ c h.1 (boxes_constant T env k p t Byte (truth_yes _ h.0))
boxings_lead T env k p t c (inr (inr (inr (inl h)))) = along T env _ _ _ c h.1 (boxes_constant T env k p t Short (truth_yes _ h.0))
boxings_lead T env k p t c (inr (inr (inr (inr (inl h))))) = along T env _ _ _ c h.1 (boxes_constant T env k p t Char (truth_yes _ h.0))
boxings_lead T env k p t c (inr (inr (inr (inr (inr h))))) = absurd h

unboxings_lead : (T : Table) (env : List Bounds) (s : Ty) (o : Option Primitive) (q : Primitive) (c : Conversion) → UnboxedTo T env s o → OneRow (unboxing_rows T s o q) c → LeadsBy T env s (Prim q) c
unboxings_lead T env s None q c is h = absurd h
unboxings_lead T env s (Some p) q c is (inl h) = along T env _ _ _ c h.1 (unboxing_leads T env s p q is (truth_yes _ h.0))
unboxings_lead T env s (Some p) q c is (inr h) = absurd h

prim_casts_lead : (T : Table) (env : List Bounds) (p q : Primitive) (c : Conversion) → OneRow (primitive_casts p q) c → LeadsBy T env (Prim p) (Prim q) c
prim_casts_lead T env p q c (inl h) = along T env _ _ _ c h.1 (same_primitive p q (truth_yes _ h.0))
prim_casts_lead T env p q c (inr (inl h)) = along T env _ _ _ c h.1 (widens T env p q (truth_yes _ h.0))
prim_casts_lead T env p q c (inr (inr (inl h))) = along T env _ _ _ c h.1 (narrowed T env p q (truth_yes _ h.0))
prim_casts_lead T env p q c (inr (inr (inr h))) = absurd h

ref_casts_lead : (T : Table) (env : List Bounds) (s t : Ty) (c : Conversion) → OneRow (reference_casts T env s t) c → LeadsBy T env s t c
ref_casts_lead T env s t c (inl h) = along T env _ _ _ c h.1 (same_told s t (truth_yes _ h.0))
ref_casts_lead T env s t c (inr (inl h)) = along T env _ _ _ c h.1 (goes_up T env s t h.0)
ref_casts_lead T env s t c (inr (inr (inl h))) = along T env _ _ _ c h.1 (unchecked_up T env s t (truth_yes _ h.0))
ref_casts_lead T env s t c (inr (inr (inr (inl h)))) = along T env _ _ _ c h.1 (is_checked T env s t (truth_yes _ h.0))
ref_casts_lead T env s t c (inr (inr (inr (inr h)))) = absurd h

checks_box : (T : Table) (env : List Bounds) (s : Ty) (q : Primitive) → answer_of T 64 env (box T q) (bound_of T env s) ≡ Yes → LeadsBy T env s (Prim q) (checked (Check (box T q) ∷ Unbox ∷ []))
checks_box T env s q e =
    (box T q, (refl, inr (record { of = q; is_class = refl; below = e })), (Prim q, boxed T q, refl))

unbox_casts_lead : (T : Table) (env : List Bounds) (s : Ty) (o : Option Primitive) (q : Primitive) (c : Conversion) → UnboxedTo T env s o → OneRow (unboxing_casts T env s o q) c → LeadsBy T env s (Prim q) c
unbox_casts_lead T env s None q c is (inl h) = along T env _ _ _ c h.1 (checks_box T env s q h.0)
unbox_casts_lead T env s None q c is (inr h) = absurd h
unbox_casts_lead T env s (Some p) q c is (inl h) = along T env _ _ _ c h.1 (unboxing_leads T env s p q is (truth_yes _ h.0))
unbox_casts_lead T env s (Some p) q c is (inr (inl h)) = along T env _ _ _ c h.1 (checks_box T env s q h.0)
unbox_casts_lead T env s (Some p) q c is (inr (inr h)) = absurd h

-- ---- any two types

primitive_is : (t : Ty) (p : Primitive) → out-Ty t ≡ Ty-F.Prim p → Prim p ≡ t
primitive_is t p e = sym (sym (roll-out-Ty t) ∙ ap roll-Ty e ∙ rolls-Prim p)

to_primitive : (T : Table) (env : List Bounds) (s t : Ty) (q : Primitive) (c : Conversion) → out-Ty t ≡ Ty-F.Prim q → LeadsBy T env s (Prim q) c → LeadsBy T env s t c
to_primitive T env s t q c e h = subst (λ x. LeadsBy T env s x c) (primitive_is t q e) h

from_primitive : (T : Table) (env : List Bounds) (s t : Ty) (p : Primitive) (c : Conversion) → out-Ty s ≡ Ty-F.Prim p → LeadsBy T env (Prim p) t c → LeadsBy T env s t c
from_primitive T env s t p c e h = subst (λ x. LeadsBy T env x t c) (primitive_is s p e) h

rows_of_primitive : (T : Table) (env : List Bounds) (k : Option Constant) (p : Primitive) (t : Ty) (m : Layer) (c : Conversion) → out-Ty t ≡ m → OneRow (rows_from_primitive T env k p t m) c → LeadsBy T env (Prim p) t c
rows_of_primitive T env k p t (Ty-F.Prim q) c e h = to_primitive T env (Prim p) t q c e (primitives_lead T env k p q c h)
rows_of_primitive T env k p t m c e h = boxings_lead T env k p t c h

rows_of_reference : (T : Table) (env : List Bounds) (s t : Ty) (m : Layer) (c : Conversion) → out-Ty t ≡ m → OneRow (rows_from_reference T env s t m) c → LeadsBy T env s t c
rows_of_reference T env s t (Ty-F.Prim q) c e h = to_primitive T env s t q c e (unboxings_lead T env s (unboxed T env s) q c (unboxed_is T env s) h)
rows_of_reference T env s t m c e h = references_lead T env s t c h

rows_of : (T : Table) (env : List Bounds) (k : Option Constant) (s t : Ty) (l : Layer) (c : Conversion) → out-Ty s ≡ l → OneRow (rows_at T env k s t l (out-Ty t)) c → LeadsBy T env s t c
rows_of T env k s t (Ty-F.Prim p) c e h = from_primitive T env s t p c e (rows_of_primitive T env k p t (out-Ty t) c refl h)
rows_of T env k s t l c e h = rows_of_reference T env s t (out-Ty t) c refl h

pub assignments_lead : AssignmentsLead
unfolding rows
assignments_lead T env s k t c e = rows_of T env k s t (out-Ty s) c refl (first_given _ c e)

casts_of_primitive : (T : Table) (env : List Bounds) (p : Primitive) (t : Ty) (m : Layer) (c : Conversion) → out-Ty t ≡ m → OneRow (casts_from_primitive T env p t m) c → LeadsBy T env (Prim p) t c
casts_of_primitive T env p t (Ty-F.Prim q) c e h = to_primitive T env (Prim p) t q c e (prim_casts_lead T env p q c h)
casts_of_primitive T env p t m c e h = boxings_lead T env None p t c h

casts_of_reference : (T : Table) (env : List Bounds) (s t : Ty) (m : Layer) (c : Conversion) → out-Ty t ≡ m → OneRow (casts_from_reference T env s t m) c → LeadsBy T env s t c
casts_of_reference T env s t (Ty-F.Prim q) c e h = to_primitive T env s t q c e (unbox_casts_lead T env s (unboxed T env s) q c (unboxed_is T env s) h)
casts_of_reference T env s t m c e h = ref_casts_lead T env s t c h

casts_of : (T : Table) (env : List Bounds) (s t : Ty) (l : Layer) (c : Conversion) → out-Ty s ≡ l → OneRow (casts_at T env s t l (out-Ty t)) c → LeadsBy T env s t c
casts_of T env s t (Ty-F.Prim p) c e h = from_primitive T env s t p c e (casts_of_primitive T env p t (out-Ty t) c refl h)
casts_of T env s t l c e h = casts_of_reference T env s t (out-Ty t) c refl h

pub casts_lead : CastsLead
unfolding cast_rows
casts_lead T env s t c e = casts_of T env s t (out-Ty s) c refl (first_given _ c e)
