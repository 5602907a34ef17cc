-- Each argument of one place is contained in what the place gets.
use Rattle.std.proofs.Common.{◌≡◌, inl, inr, ◌+◌, ◌==◌, ◌||◌, not, ℕ, zero, suc, Bool, true, false, Option, Some, None, List, [], ◌∷◌, length, drop, slice_get, refl, sym, ap, subst, ◌∙◌, if◌then◌else◌, arith}
use Rattle.jc_rules.proofs.Truths.{and_first, and_second, equal_numbers}
use Rattle.jc_types.specs.declared.form.Arg.{Arg, Arg-F, out-Arg}
use Rattle.jc_types.specs.declared.form.Arg.TheVariants.{Any, outs-Any}
use Rattle.jc_types.specs.declared.form.Ty.{Ty}
use Rattle.jc_types.specs.declared.ids.VarId.{VarId}
use Rattle.jc_types.proofs.Sameness.{same_self}
use Rattle.jc_lub.specs.Columns.{one_raw, or_any, column, all_same, upper_at, upper_of, with_upper, uppers, joined_uppers, joined, joined_from}
use Rattle.jc_lub.specs.Uncaptured.{same_args, same_arg_at, args_of}
use Rattle.jc_header_rules.specs.Checked.{IsAmong}
use Rattle.jc_lub_laws.specs.Under.{IsIn, as_it_is, any, AllIn}

alike_layer : (l : Arg-F Arg Ty) → same_arg_at l l ≡ true
alike_layer (Arg-F.Exact t) = same_self t
alike_layer Arg-F.Any = refl
alike_layer (Arg-F.Extends t) = same_self t
alike_layer (Arg-F.Super t) = same_self t

alike_self : (a : Arg) → same_args a a ≡ true
unfolding same_args
alike_self a = alike_layer (out-Arg a)

all_alike : (c a : Arg) (cs : List Arg) → all_same c cs ≡ true → IsAmong a cs → same_args a c ≡ true
all_alike c a [] e o = absurd o
all_alike c a (b ∷ cs) e (inl s) = subst (λ x. same_args x c ≡ true) (sym s) (and_first (same_args b c) (all_same c cs) e)
all_alike c a (b ∷ cs) e (inr o) = all_alike c a cs (and_second (same_args b c) (all_same c cs) e) o

-- ---- upper bounds of a place

abbrev UpperAmong : Arg → List Ty → Type 0
UpperAmong a ts = (t : Ty) × (upper_of a ≡ Some t) × IsAmong t ts

some_eq : {X : Type 0} (x y : X) → Some x ≡ Some y → x ≡ y
some_eq x y e = cc

further : (a : Arg) (u : Ty) (us : List Ty) → UpperAmong a us → UpperAmong a (u ∷ us)
further a u us (t, e, o) = (t, e, inr o)

upper_by : (a c : Arg) (cs : List Arg) (ts : List Ty) (o : Option Ty) (os : Option (List Ty)) → upper_of c ≡ o → uppers cs ≡ os → with_upper o os ≡ Some ts
    → ((us : List Ty) → uppers cs ≡ Some us → IsAmong a cs → UpperAmong a us) → IsAmong a (c ∷ cs) → UpperAmong a ts
upper_by a c cs ts None os e f g h o = cc
upper_by a c cs ts (Some u) None e f g h o = cc
upper_by a c cs ts (Some u) (Some us) e f g h (inl s) =
    subst (λ (x : List Ty). UpperAmong a x) (some_eq (u ∷ us) ts g) (u, ap upper_of s ∙ e, inl refl)
upper_by a c cs ts (Some u) (Some us) e f g h (inr o) =
    subst (λ (x : List Ty). UpperAmong a x) (some_eq (u ∷ us) ts g) (further a u us (h us f o))

-- an argument of a place has an upper bound among those of the place, where there are some
upper_among : (a : Arg) (cs : List Arg) (ts : List Ty) → uppers cs ≡ Some ts → IsAmong a cs → UpperAmong a ts
upper_among a [] ts e o = absurd o
upper_among a (c ∷ cs) ts e o = upper_by a c cs ts (upper_of c) (uppers cs) refl refl e (λ us f m. upper_among a cs us f m) o

-- an upper bound of a place is one of its arguments
from_uppers_by : (x : Ty) (c : Arg) (cs : List Arg) (us : List Ty) (o : Option Ty) (os : Option (List Ty)) → upper_of c ≡ o → uppers cs ≡ os → with_upper o os ≡ Some us
    → ((ws : List Ty) → uppers cs ≡ Some ws → IsAmong x ws → (a : Arg) × IsAmong a cs × (upper_of a ≡ Some x)) → IsAmong x us → (a : Arg) × IsAmong a (c ∷ cs) × (upper_of a ≡ Some x)
from_uppers_by x c cs us None os e f g h o = cc
from_uppers_by x c cs us (Some w) None e f g h o = cc
from_uppers_by x c cs us (Some w) (Some ws) e f g h o =
    elim (subst (IsAmong x) (sym (some_eq (w ∷ ws) us g)) o) [
      | inl s ↦ (c, inl refl, e ∙ ap Some (sym s))
      | inr m ↦ let r = h ws f m in (r.0, inr r.1, r.2)
    ]

from_uppers : (x : Ty) (cs : List Arg) (us : List Ty) → uppers cs ≡ Some us → IsAmong x us → (a : Arg) × IsAmong a cs × (upper_of a ≡ Some x)
from_uppers x [] us e o = absurd (subst (IsAmong x) (sym (some_eq [] us e)) o)
from_uppers x (c ∷ cs) us e o = from_uppers_by x c cs us (upper_of c) (uppers cs) refl refl e (λ ws f m. from_uppers x cs ws f m) o

-- each upper bound of some arguments is such a type
abbrev pub AreBounded : (Ty → Type 0) → List Arg → Type 0
AreBounded P cs = (c : Arg) → IsAmong c cs → (x : Ty) → upper_of c ≡ Some x → P x

any_upper : upper_of Any ≡ None
unfolding upper_of
any_upper = ap upper_at outs-Any

no_upper : (x : Ty) → upper_of Any ≡ Some x → ⊥
no_upper x e = let none : None ≡ Some x = sym any_upper ∙ e in cc

slice_among : (xs : List Arg) (i : ℕ) (a : Arg) → slice_get xs i ≡ Some a → IsAmong a xs
slice_among [] i a e = cc
slice_among (x ∷ xs) zero a e = let s : a ≡ x = cc in inl s
slice_among (x ∷ xs) (suc i) a e = inr (slice_among xs i a e)

at_place : (P : Ty → Type 0) (c : Arg) (w : Ty) (i : ℕ) (o : Option Arg) → slice_get (args_of w) i ≡ o → c ≡ or_any o → AreBounded P (args_of w) → (x : Ty) → upper_of c ≡ Some x → P x
at_place P c w i None e s h x u = absurd (no_upper x (sym (ap upper_of s) ∙ u))
at_place P c w i (Some a) e s h x u = h a (slice_among (args_of w) i a e) x (sym (ap upper_of s) ∙ u)

column_bounded : (P : Ty → Type 0) (i : ℕ) (vs : List Ty) → ((v : Ty) → IsAmong v vs → AreBounded P (args_of v)) → AreBounded P (column i vs)
column_bounded P i [] h c o x u = absurd o
column_bounded P i (w ∷ vs) h c (inl s) x u = at_place P c w i (slice_get (args_of w) i) refl s (h w (inl refl)) x u
column_bounded P i (w ∷ vs) h c (inr o) x u = column_bounded P i vs (λ v m. h v (inr m)) c o x u

-- ---- one place

-- f joins types of P
module _ (P : Ty → Type 0) (R : Ty → Ty → Type 0) (f : List Ty → Arg)
    (ok : (ts : List Ty) (t : Ty) (a : Arg) → ((x : Ty) → IsAmong x ts → P x) → IsAmong t ts → upper_of a ≡ Some t → IsIn R a (f ts)) where
  in_uppers : (a : Arg) (cs : List Arg) (os : Option (List Ty)) → AreBounded P cs → uppers cs ≡ os → IsAmong a cs → IsIn R a (joined_uppers f os)
  in_uppers a cs None h e o = any a
  in_uppers a cs (Some ts) h e o =
      let u : UpperAmong a ts = upper_among a cs ts e o in
      ok ts u.0 a (λ x m. let r = from_uppers x cs ts e m in h r.0 r.1 x r.2) u.2 u.1

  in_joined_by : (a c : Arg) (cs : List Arg) (t : Bool) → AreBounded P (c ∷ cs) → all_same c cs ≡ t → IsAmong a (c ∷ cs) → IsIn R a (if t then c else joined_uppers f (uppers (c ∷ cs)))
  in_joined_by a c cs true h e (inl s) = as_it_is a c (subst (λ x. same_args x c ≡ true) (sym s) (alike_self c))
  in_joined_by a c cs true h e (inr o) = as_it_is a c (all_alike c a cs e o)
  in_joined_by a c cs false h e o = in_uppers a (c ∷ cs) (uppers (c ∷ cs)) h refl o

  in_joined : (a : Arg) (cs : List Arg) → AreBounded P cs → IsAmong a cs → IsIn R a (joined f cs)
  in_joined a [] h o = absurd o
  in_joined a (c ∷ cs) h o = in_joined_by a c cs (all_same c cs) h refl o

  -- ---- all places of a view

  in_column : (i : ℕ) (v : Ty) (vs : List Ty) → IsAmong v vs → IsAmong (or_any (slice_get (args_of v) i)) (column i vs)
  in_column i v [] o = absurd o
  in_column i v (w ∷ vs) (inl s) = inl (ap (λ (x : Ty). or_any (slice_get (args_of x) i)) s)
  in_column i v (w ∷ vs) (inr o) = inr (in_column i v vs o)

  dropped_head : {X : Type 0} (i : ℕ) (xs : List X) (y : X) (ys : List X) → drop i xs ≡ y ∷ ys → slice_get xs i ≡ Some y
  dropped_head zero [] y ys e = cc
  dropped_head (suc i) [] y ys e = cc
  dropped_head zero (x ∷ xs) y ys e = cc
  dropped_head (suc i) (x ∷ xs) y ys e = dropped_head i xs y ys e

  dropped_tail : {X : Type 0} (i : ℕ) (xs : List X) (y : X) (ys : List X) → drop i xs ≡ y ∷ ys → drop (suc i) xs ≡ ys
  dropped_tail zero [] y ys e = cc
  dropped_tail (suc i) [] y ys e = cc
  dropped_tail zero (x ∷ xs) y ys e = cc
  dropped_tail (suc i) (x ∷ xs) y ys e = dropped_tail i xs y ys e

  all_from : (v : Ty) (vs : List Ty) → ((w : Ty) → IsAmong w vs → AreBounded P (args_of w)) → IsAmong v vs → (i : ℕ) (ps : List VarId) (xs : List Arg) → drop i (args_of v) ≡ xs → length xs ≡ length ps → AllIn R xs (joined_from f vs i ps)
  all_from v vs h o i [] [] d e = tt
  all_from v vs h o i [] (a ∷ xs) d e = cc
  all_from v vs h o i (p ∷ ps) [] d e = cc
  all_from v vs h o i (p ∷ ps) (a ∷ xs) d e =
      let g : slice_get (args_of v) i ≡ Some a = dropped_head i (args_of v) a xs d in
      let one : suc i ≡ i + 1 = omega arith in
      let next : drop (i + 1) (args_of v) ≡ xs = subst (λ (n : ℕ). drop n (args_of v) ≡ xs) one (dropped_tail i (args_of v) a xs d) in
      let shorter : length xs ≡ length ps = omega (arith, e) in
      (in_joined a (column i vs) (column_bounded P i vs h) (subst (λ (x : Arg). IsAmong x (column i vs)) (ap or_any g) (in_column i v vs o)), all_from v vs h o (i + 1) ps xs next shorter)

  pub all_in : (v : Ty) (vs : List Ty) (ps : List VarId) → ((w : Ty) → IsAmong w vs → AreBounded P (args_of w)) → IsAmong v vs → length (args_of v) ≡ length ps → AllIn R (args_of v) (joined_from f vs 0 ps)
  all_in v vs ps h o e = all_from v vs h o 0 ps (args_of v) refl e

not_raw_by : (b c : Bool) → (not b || c) ≡ false → (b ≡ true) × (c ≡ false)
not_raw_by true c e = (refl, e)
not_raw_by false c e = cc

-- where no view is raw, each has as many arguments as its class has parameters
pub as_many : (n : ℕ) (v : Ty) (vs : List Ty) → one_raw n vs ≡ false → IsAmong v vs → length (args_of v) ≡ n
as_many n v [] e o = absurd o
as_many n v (w ∷ vs) e (inl s) = ap (λ (x : Ty). length (args_of x)) s ∙ equal_numbers (length (args_of w)) n (not_raw_by (length (args_of w) == n) (one_raw n vs) e).0
as_many n v (w ∷ vs) e (inr o) = as_many n v vs (not_raw_by (length (args_of w) == n) (one_raw n vs) e).1 o
