-- Each type is under the least upper bound.
use Rattle.std.proofs.Common.{◌≡◌, inl, inr, ◌≤◌, not, ℕ, suc, Bool, true, false, Option, Some, None, List, [], ◌∷◌, ◌++◌, map, length, min, refl, sym, ap, subst, ◌∙◌, if◌then◌else◌, arith}
use Rattle.std.specs.Prelude.{is_some}
use Rattle.std.specs.List.{filter}
use Rattle.jc_rules.proofs.Truths.{and_first, and_second}
use Rattle.jc_types.specs.declared.environment.Bounds.{Bounds}
use Rattle.jc_types.specs.declared.form.Arg.{Arg}
use Rattle.jc_types.specs.declared.form.Ty.{Ty}
use Rattle.jc_types.specs.declared.form.Ty.TheVariants.{Class, Raw}
use Rattle.jc_types.specs.declared.ids.ClassId.{ClassId}
use Rattle.jc_types.specs.declared.table.Table.{Table}
use Rattle.jc_types.specs.Accessors.{vars_of}
use Rattle.jc_types.specs.Sameness.{same}
use Rattle.jc_types.proofs.Sameness.{same_self}
use Rattle.jc_judge.specs.Kinds.{is_null}
use Rattle.jc_judge.specs.Meeting.{as_one}
use Rattle.jc_lub.specs.Columns.{one_raw, upper_of, joined_from, joined_views}
use Rattle.jc_lub.specs.Lubs.{all_same_types, numbers_from, is_above_all, common, least_class, least_interface, candidates, if_there, views, joined_at, by_supers, depth, shared_with, shared, stripped, unless_same, not_null, arrays_and_supers, through, join}
use Rattle.jc_lub.specs.Uncaptured.{args_of, up_view}
use Rattle.jc_header_rules.specs.Checked.{IsAmong}
use Rattle.jc_lub_laws.specs.Under.{IsIn, any, extending, IsUnderWithin, OperandsAreUnder}
use Rattle.jc_lub_laws.proofs.Lists.{among_map, of_map, among_parts, passed, kept}
use Rattle.jc_lub_laws.proofs.Arguments.{AreBounded, all_in, as_many}
use Rattle.jc_lub_laws.proofs.Beneath.{Beneath, by_itself, by_null, by_top, by_raw, by_class, by_parts, by_elements, forget}

some_of : (o : Option Ty) → is_some o ≡ true → (v : Ty) × (o ≡ Some v)
some_of None e = cc
some_of (Some v) e = (v, refl)

among_behind : {X : Type 0} (x : X) (xs ys : List X) → IsAmong x ys → IsAmong x (xs ++ ys)
among_behind x [] ys o = o
among_behind x (y ∷ xs) ys o = inr (among_behind x xs ys o)

-- ---- the dimensions that all have

least_left : (m n : ℕ) → min m n ≤ m
least_left m n = omega arith

least_right : (m n : ℕ) → min m n ≤ n
least_right m n = omega arith

within_start : (n : ℕ) (ts : List Ty) → shared_with n ts ≤ n
within_start n [] = omega arith
within_start n (t ∷ ts) = omega (arith, within_start (min n (depth t)) ts, least_left n (depth t))

within_each : (n : ℕ) (ts : List Ty) (t : Ty) → IsAmong t ts → shared_with n ts ≤ depth t
within_each n [] t o = absurd o
within_each n (u ∷ ts) t (inl s) =
    subst (λ (x : Ty). shared_with (min n (depth u)) ts ≤ depth x) (sym s) (omega (arith, within_start (min n (depth u)) ts, least_right n (depth u)))
within_each n (u ∷ ts) t (inr o) = within_each (min n (depth u)) ts t o

shared_each : (ts : List Ty) (t : Ty) → IsAmong t ts → shared ts ≤ depth t
shared_each [] t o = absurd o
shared_each (u ∷ ts) t (inl s) = subst (λ (x : Ty). shared_with (depth u) ts ≤ depth x) (sym s) (within_start (depth u) ts)
shared_each (u ∷ ts) t (inr o) = within_each (depth u) ts t o

alike_each : (u t : Ty) (us : List Ty) → all_same_types u us ≡ true → IsAmong t us → same t u ≡ true
alike_each u t [] e o = absurd o
alike_each u t (v ∷ us) e (inl s) = subst (λ (x : Ty). same x u ≡ true) (sym s) (and_first (same v u) (all_same_types u us) e)
alike_each u t (v ∷ us) e (inr o) = alike_each u t us (and_second (same v u) (all_same_types u us) e) o

-- ---- the least upper bound, where f joins arguments

-- from some of the views of the types
from_views : (T : Table) (env : List Bounds) (k : ClassId) (ts : List Ty) (v : Ty) → IsAmong v (views T env k ts) → (t : Ty) × IsAmong t ts × (up_view T env k t ≡ Some v)
from_views T env k [] v o = absurd o
from_views T env k (u ∷ ts) v o =
    elim (among_parts v (if_there (up_view T env k u)) (views T env k ts) o) [
      | inl p ↦ (u, inl refl, only (up_view T env k u) v p)
      | inr q ↦ let r = from_views T env k ts v q in (r.0, inr r.1, r.2)
    ]
  where
    only : (o : Option Ty) (v : Ty) → IsAmong v (if_there o) → o ≡ Some v
    only None v m = absurd m
    only (Some w) v (inl s) = ap Some (sym s)
    only (Some w) v (inr m) = absurd m

-- each upper bound of the arguments of the supertypes of an operand, or of its elements, is such a type
abbrev pub Operands : Table → List Bounds → (Ty → Type 0) → List Ty → Type 0
Operands T env P ts = (t : Ty) → IsAmong t ts → (d : ℕ) → d ≤ depth t → (k : ClassId) (v : Ty) → up_view T env k (stripped d t) ≡ Some v → AreBounded P (args_of v)

abbrev Viewed : Table → List Bounds → (Ty → Type 0) → List Ty → Type 0
Viewed T env P ts = (t : Ty) → IsAmong t ts → (k : ClassId) (v : Ty) → up_view T env k t ≡ Some v → AreBounded P (args_of v)

-- the least upper bound is above what is null where N holds of it
module _ (T : Table) (env : List Bounds) (N P : Ty → Type 0) (R : Ty → Ty → Type 0) (f : List Ty → Arg)
    (ok : (ts : List Ty) (t : Ty) (a : Arg) → ((x : Ty) → IsAmong x ts → P x) → IsAmong t ts → upper_of a ≡ Some t → IsIn R a (f ts)) where
  in_views : (k : ClassId) (ts : List Ty) (t v : Ty) → up_view T env k t ≡ Some v → IsAmong t ts → IsAmong v (views T env k ts)
  in_views k [] t v e o = absurd o
  in_views k (u ∷ ts) t v e (inl s) =
      subst (λ (x : Option Ty). IsAmong v (if_there x ++ views T env k ts)) (sym e ∙ ap (up_view T env k) s) (inl refl)
  in_views k (u ∷ ts) t v e (inr o) = among_behind v (if_there (up_view T env k u)) (views T env k ts) (in_views k ts t v e o)

  under_views_by : (t v : Ty) (k : ClassId) (vs : List Ty) (r : Bool) → ((w : Ty) → IsAmong w vs → AreBounded P (args_of w)) → one_raw (length (vars_of T k)) vs ≡ r → up_view T env k t ≡ Some v → IsAmong v vs
      → Beneath T env N R t (if r then Raw k else Class k (joined_from f vs 0 (vars_of T k)))
  under_views_by t v k vs true h e g o = by_raw t v k g
  under_views_by t v k vs false h e g o =
      by_class t v k (joined_from f vs 0 (vars_of T k)) g (all_in P R f ok v vs (vars_of T k) h o (as_many (length (vars_of T k)) v vs e o))

  above_each : (k : ClassId) (ts : List Ty) (t : Ty) → is_above_all T env ts k ≡ true → IsAmong t ts → is_some (up_view T env k t) ≡ true
  above_each k [] t e o = absurd o
  above_each k (u ∷ ts) t e (inl s) =
      subst (λ (x : Ty). is_some (up_view T env k x) ≡ true) (sym s) (and_first (is_some (up_view T env k u)) (is_above_all T env ts k) e)
  above_each k (u ∷ ts) t e (inr o) = above_each k ts t (and_second (is_some (up_view T env k u)) (is_above_all T env ts k) e) o

  under_joined : (t : Ty) (ts : List Ty) (k : ClassId) → Viewed T env P ts → is_above_all T env ts k ≡ true → IsAmong t ts → Beneath T env N R t (joined_at T env f ts k)
  unfolding joined_at joined_views
  under_joined t ts k h e o =
      let s : (v : Ty) × (up_view T env k t ≡ Some v) = some_of (up_view T env k t) (above_each k ts t e o) in
      under_views_by t s.0 k (views T env k ts) (one_raw (length (vars_of T k)) (views T env k ts)) (λ w m. let r = from_views T env k ts w m in h r.0 r.1 k w r.2) refl s.1 (in_views k ts t s.0 s.1 o)

  is_candidate : (k : ClassId) (all : List ClassId) → IsAmong k (candidates T all) → IsAmong k all
  unfolding candidates
  is_candidate k all o =
      elim (among_parts k (filter (least_class T all) all) (filter (least_interface T all) all) o) [
        | inl p ↦ (passed (least_class T all) k all p).0
        | inr q ↦ (passed (least_interface T all) k all q).0
      ]

  is_common : (k : ClassId) (ts : List Ty) → IsAmong k (common T env ts) → is_above_all T env ts k ≡ true
  unfolding common
  is_common k ts o = (passed (is_above_all T env ts) k (numbers_from 0 T.classes) o).1

  under_one : (t : Ty) (us : List Ty) → ((u : Ty) → IsAmong u us → Beneath T env N R t u) → Beneath T env N R t (as_one us)
  under_one t [] h = by_top t
  under_one t (u ∷ []) h = h u (inl refl)
  under_one t (u ∷ v ∷ us) h = by_parts t (u ∷ v ∷ us) h

  under_supers : (t : Ty) (ts : List Ty) → Viewed T env P ts → IsAmong t ts → Beneath T env N R t (by_supers T env f ts)
  unfolding by_supers
  under_supers t ts h o =
      under_one t (map (joined_at T env f ts) (candidates T (common T env ts)))
      (of_map (joined_at T env f ts) (Beneath T env N R t) (candidates T (common T env ts))
      (λ k m. under_joined t ts k h (is_common k ts (is_candidate k (common T env ts) m)) o))

  stripped_viewed : (ts : List Ty) (d : ℕ) → ((t : Ty) → IsAmong t ts → d ≤ depth t) → Operands T env P ts → Viewed T env P (map (stripped d) ts)
  stripped_viewed ts d le h u m k v e =
      of_map (stripped d) (λ u. (k : ClassId) (v : Ty) → up_view T env k u ≡ Some v → AreBounded P (args_of v)) ts (λ t o. h t o d (le t o)) u m k v e

  under_arrays : (t : Ty) (ts : List Ty) → Operands T env P ts → IsAmong t ts → Beneath T env N R t (arrays_and_supers T env f ts)
  under_arrays t ts h o =
      let d : ℕ = shared ts in
      by_elements t (by_supers T env f (map (stripped d) ts)) d (shared_each ts t o) (under_supers (stripped d t) (map (stripped d) ts) (stripped_viewed ts d (shared_each ts) h) (among_map (stripped d) t ts o))

  under_unless_by : (t u : Ty) (us : List Ty) (r : Bool) → Operands T env P (u ∷ us) → all_same_types u us ≡ r → IsAmong t (u ∷ us) → Beneath T env N R t (if r then u else arrays_and_supers T env f (u ∷ us))
  under_unless_by t u us true h e (inl s) = by_itself t u (subst (λ (x : Ty). same x u ≡ true) (sym s) (same_self u))
  under_unless_by t u us true h e (inr o) = by_itself t u (alike_each u t us e o)
  under_unless_by t u us false h e o = under_arrays t (u ∷ us) h o

  under_unless : (t : Ty) (ts : List Ty) → Operands T env P ts → IsAmong t ts → Beneath T env N R t (unless_same (arrays_and_supers T env f) ts)
  under_unless t [] h o = absurd o
  under_unless t (u ∷ us) h o = under_unless_by t u us (all_same_types u us) h refl o

  under_through_by : (t : Ty) (ts : List Ty) (b : Bool) → N (unless_same (arrays_and_supers T env f) (filter not_null ts)) → Operands T env P ts → is_null t ≡ b → IsAmong t ts → Beneath T env N R t (unless_same (arrays_and_supers T env f) (filter not_null ts))
  under_through_by t ts true n h e o = by_null t (unless_same (arrays_and_supers T env f) (filter not_null ts)) e n
  under_through_by t ts false n h e o = under_unless t (filter not_null ts) (λ u m. h u (passed not_null u ts m).0) (kept not_null t ts (ap not e) o)

  pub under_through : (t : Ty) (ts : List Ty) → N (through T env f ts) → Operands T env P ts → IsAmong t ts → Beneath T env N R t (through T env f ts)
  unfolding through
  under_through t ts n h o = under_through_by t ts (is_null t) n h refl o

-- ---- at both levels

abbrev Whatever : Ty → Type 0
Whatever t = Unit {0}

any_joined : (T : Table) (env : List Bounds) (ts : List Ty) (t : Ty) (a : Arg) → ((x : Ty) → IsAmong x ts → Whatever x) → IsAmong t ts → upper_of a ≡ Some t → IsIn (IsUnderWithin T env 0) a (join T env 0 ts)
any_joined T env ts t a h o e = any a

under_at : (T : Table) (env : List Bounds) (n : ℕ) (f : List Ty → Arg) → ((ts : List Ty) (t : Ty) (a : Arg) → ((x : Ty) → IsAmong x ts → Whatever x) → IsAmong t ts → upper_of a ≡ Some t → IsIn (IsUnderWithin T env n) a (f ts))
    → (ts : List Ty) (t : Ty) → IsAmong t ts → IsUnderWithin T env (suc n) t (through T env f ts)
under_at T env n f ok ts t o =
    forget T env Whatever (IsUnderWithin T env n) t (through T env f ts) (under_through T env Whatever Whatever (IsUnderWithin T env n) f ok t ts tt (λ t m d l k v e c n x u. tt) o)

extends_joined : (T : Table) (env : List Bounds) (ts : List Ty) (t : Ty) (a : Arg) → ((x : Ty) → IsAmong x ts → Whatever x) → IsAmong t ts → upper_of a ≡ Some t → IsIn (IsUnderWithin T env 1) a (join T env 1 ts)
extends_joined T env ts t a h o e = extending a t (through T env (join T env 0) ts) e (under_at T env 0 (join T env 0) (any_joined T env) ts t o)

pub operands_are_under : OperandsAreUnder
operands_are_under T env ts t o = under_at T env 1 (join T env 1) (extends_joined T env) ts t o
