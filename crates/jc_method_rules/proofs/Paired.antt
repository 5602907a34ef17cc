-- Methods of other names, and of classes that aren't above one another, break nothing beside one another.
use Rattle.std.proofs.Common.{◌≡◌, ◌≢◌, ◌⊎◌, inl, inr, nat_lt, not, ℕ, suc, ◌+◌, Bool, true, false, ◌&&◌, ◌||◌, cond, Some, List, [], ◌∷◌, ◌++◌, length, slice_get, Option, add-one, refl, sym, ap, ◌∙◌}
use Rattle.std.specs.Str.{bytes_eq}
use Rattle.std.proofs.lemmas.Bool.{or_parts}
use Rattle.jc_rules.proofs.Truths.{and_none, other_bytes}
use Rattle.jc_rules.specs.declared.rule.Place.{Place}
use Rattle.jc_rules.specs.declared.rule.Refusal.{Refusal}
use Rattle.jc_types.specs.declared.declarations.MethodDecl.{MethodDecl}
use Rattle.jc_types.specs.declared.ids.MethodId.{MethodId}
use Rattle.jc_types.specs.declared.table.Table.{Table}
use Rattle.jc_types.specs.Accessors.{method_name_in, method_name_of}
use Rattle.jc_types.specs.Breaks.{least}
use Rattle.jc_judge.specs.Views.{view}
use Rattle.jc_overriding.specs.Overriding.{has_name, hides, is_above, is_inheritable, is_instance, is_method, is_viewed, overrides, owner, same_class, subsignature_of}
use Rattle.jc_overriding.specs.Signatures.{is_erasure, override_equivalent, same_signature, subsignature}
use Rattle.jc_overriding.specs.Viewing.{class_view, declared_view, is_static, own_type}
use Rattle.jc_header_rules.specs.Headers.{differ, is_before, is_same_sort, overrides_some, pair_broken, repeats, replaces, replacing_broken, says_wrongly, statics_meet}
use Rattle.jc_header_rules.specs.Places.{broken_if, of_each}
use Rattle.jc_members.specs.Named.{all_named, named_from}
use Rattle.jc_members.proofs.Replacing.{own_below, overrides_told, hides_told}
use Rattle.jc_members.proofs.Standing.{unnamed}
use Rattle.jc_method_rules.specs.Owned.{ids_of, is_standing, picked, standing, stands_in}
use Rattle.jc_method_rules.specs.Pairs.{AreEnough, overrides_one, pair_breaks, pairs_breaks}

-- ---- statics

statics_assoc : (a b s c d e : Bool) → (a && b && s && c && d && e) ≡ (a && b && s && (c && d && e))
statics_assoc true true true c d e = refl
statics_assoc true true false c d e = refl
statics_assoc true false s c d e = refl
statics_assoc false b s c d e = refl

meet_told : (T : Table) (m n : MethodId) → statics_meet T m n ≡ (is_method T m && is_method T n && differ (is_static T m) (is_static T n) && own_below T m n)
meet_told T m n =
    statics_assoc (is_method T m) (is_method T n) (differ (is_static T m) (is_static T n)) (is_above T (owner T m) (owner T n)) (is_inheritable T (owner T m) n)
    (subsignature_of T (class_view T (owner T m) m) (class_view T (owner T m) n))

same_differ : (s t : Bool) → s ≡ t → differ s t ≡ false
same_differ true true e = refl
same_differ false false e = refl
same_differ true false e = cc
same_differ false true e = cc

other_differ : (s t : Bool) → s ≢ t → differ s t ≡ true
other_differ true true ne = absurd (ne refl)
other_differ false false ne = absurd (ne refl)
other_differ true false ne = refl
other_differ false true ne = refl

module _ (T : Table) (m n : MethodId) where
  pub meet_no_method : is_method T m ≡ false → statics_meet T m n ≡ false
  meet_no_method e = meet_told T m n ∙ ap (λ a. a && is_method T n && differ (is_static T m) (is_static T n) && own_below T m n) e

  pub meet_none : is_method T n ≡ false → statics_meet T m n ≡ false
  meet_none e = meet_told T m n ∙ ap (λ b. is_method T m && b && differ (is_static T m) (is_static T n) && own_below T m n) e ∙ ap (λ b. b && differ (is_static T m) (is_static T n) && own_below T m n) (and_none (is_method T m))

  pub meet_alike : is_static T m ≡ is_static T n → statics_meet T m n ≡ false
  meet_alike e = meet_told T m n ∙ ap (λ b. is_method T m && is_method T n && b && own_below T m n) (same_differ (is_static T m) (is_static T n) e) ∙ ap (λ b. b && own_below T m n) (and_none (is_method T m && is_method T n))

  pub meet_unlike : is_method T m ≡ true → is_method T n ≡ true → is_static T m ≢ is_static T n → statics_meet T m n ≡ own_below T m n
  meet_unlike e f ne =
      meet_told T m n ∙ ap (λ a. a && is_method T n && differ (is_static T m) (is_static T n) && own_below T m n) e ∙ ap (λ b. true && b && differ (is_static T m) (is_static T n) && own_below T m n) f
      ∙ ap (λ b. true && true && b && own_below T m n) (other_differ (is_static T m) (is_static T n) ne)

pub ruleset statics_told = (meet_no_method, meet_none, meet_alike, meet_unlike)

-- ---- other names

module _ (T : Table) (m n : MethodId) (other : bytes_eq (method_name_of T n) (method_name_of T m) ≡ false) where
  turned : bytes_eq (method_name_of T m) (method_name_of T n) ≡ false
  turned = other_bytes (method_name_of T n) (method_name_of T m) other

  not_below : own_below T m n ≡ false
  not_below =
      ap (λ b. is_above T (owner T m) (owner T n) && is_inheritable T (owner T m) n && b) (unnamed T (owner T m) m n turned)
      ∙ and_none (is_above T (owner T m) (owner T n) && is_inheritable T (owner T m) n)

  not_overridden : overrides T m n ≡ false
  not_overridden = overrides_told T m n ∙ ap (λ b. is_instance T m && is_instance T n && b) not_below ∙ and_none (is_instance T m && is_instance T n)

  not_hidden : hides T m n ≡ false
  not_hidden = hides_told T m n ∙ ap (λ b. is_method T m && is_method T n && is_static T m && is_static T n && b) not_below ∙ and_none (is_method T m && is_method T n && is_static T m && is_static T n)

  not_replaced : replaces T m n ≡ false
  not_replaced = ap (λ b. b || hides T m n) not_overridden ∙ not_hidden

  not_meeting : statics_meet T m n ≡ false
  not_meeting = meet_told T m n ∙ ap (λ b. is_method T m && is_method T n && differ (is_static T m) (is_static T n) && b) not_below ∙ and_none (is_method T m && is_method T n && differ (is_static T m) (is_static T n))

  not_equivalent : override_equivalent T (declared_view T m) (declared_view T n) ≡ false
  not_equivalent =
      ap (λ b. (b && (same_signature (declared_view T m) (declared_view T n) || is_erasure T (declared_view T m) (declared_view T n))) || subsignature T (declared_view T n) (declared_view T m)) turned
      ∙ ap (λ b. b && (same_signature (declared_view T n) (declared_view T m) || is_erasure T (declared_view T n) (declared_view T m))) other

  not_repeated : repeats T m n ≡ false
  not_repeated = ap (λ b. is_before T n m && is_same_sort T n m && b) not_equivalent ∙ and_none (is_before T n m && is_same_sort T n m)

  nothing_broken : (place : Place) → pair_breaks T m place n ≡ []
  nothing_broken place =
      ap (λ b. broken_if b 503 place ++ broken_if (statics_meet T m n) 505 place ++ replacing_broken T m n place (replaces T m n)) not_repeated
      ∙ ap (λ b. [] ++ broken_if b 505 place ++ replacing_broken T m n place (replaces T m n)) not_meeting ∙ ap (λ b. [] ++ [] ++ replacing_broken T m n place b) not_replaced

pub named_apart : (T : Table) (m n : MethodId) (place : Place) (found : Option Refusal) → bytes_eq (method_name_of T n) (method_name_of T m) ≡ false → found ≡ least found (pair_breaks T m place n)
named_apart T m n place found e = ap (least found) (sym (nothing_broken T m n e place))

pub overrides_no_other : (T : Table) (m n : MethodId) → bytes_eq (method_name_of T n) (method_name_of T m) ≡ false → overrides T m n ≡ false
overrides_no_other T m n e = not_overridden T m n e

-- ---- all of a name

pairs_from : (T : Table) (m : MethodId) (place : Place) (i : ℕ) (ds : List MethodDecl) → of_each (pair_broken T m place) i ds ≡ pairs_breaks T m place (named_from T (method_name_of T m) i (length ds))
pairs_from T m place i [] = refl
pairs_from T m place i (d ∷ ds) = by (has_name T (method_name_of T m) (record { 0 = i })) refl (pairs_from T m place (suc i) ds)
  where
    by : (b : Bool) → has_name T (method_name_of T m) (record { 0 = i }) ≡ b → of_each (pair_broken T m place) (suc i) ds ≡ pairs_breaks T m place (named_from T (method_name_of T m) (suc i) (length ds))
        → pair_breaks T m place (record { 0 = i }) ++ of_each (pair_broken T m place) (suc i) ds ≡ pairs_breaks T m place (cond b (record { 0 = i } ∷ []) [] ++ named_from T (method_name_of T m) (suc i) (length ds))
    by true e r = ap (λ xs. pair_breaks T m place (record { 0 = i }) ++ xs) r
    by false e r = ap (λ xs. xs ++ of_each (pair_broken T m place) (suc i) ds) (nothing_broken T m (record { 0 = i }) e place) ∙ r

pub pairs_listed : (T : Table) (m : MethodId) (place : Place) → of_each (pair_broken T m place) 0 T.methods ≡ pairs_breaks T m place (all_named T (method_name_of T m))
pairs_listed T m place = pairs_from T m place 0 T.methods

overrides_from : (T : Table) (m : MethodId) (i : ℕ) (ds : List MethodDecl) → overrides_some T m i ds ≡ overrides_one T m (named_from T (method_name_of T m) i (length ds))
overrides_from T m i [] = refl
overrides_from T m i (d ∷ ds) = by (has_name T (method_name_of T m) (record { 0 = i })) refl (ap (λ k. overrides_some T m k ds) (add-one i) ∙ overrides_from T m (suc i) ds)
  where
    by : (b : Bool) → has_name T (method_name_of T m) (record { 0 = i }) ≡ b → overrides_some T m (i + 1) ds ≡ overrides_one T m (named_from T (method_name_of T m) (suc i) (length ds))
        → (overrides T m (record { 0 = i }) || overrides_some T m (i + 1) ds) ≡ overrides_one T m (cond b (record { 0 = i } ∷ []) [] ++ named_from T (method_name_of T m) (suc i) (length ds))
    by true e r = ap (λ b. overrides T m (record { 0 = i }) || b) r
    by false e r = ap (λ b. b || overrides_some T m (i + 1) ds) (not_overridden T m (record { 0 = i }) e) ∙ r

pub overrides_listed : (T : Table) (m : MethodId) → overrides_some T m 0 T.methods ≡ overrides_one T m (all_named T (method_name_of T m))
overrides_listed T m = overrides_from T m 0 T.methods

named_at : (T : Table) (m : MethodId) (d : MethodDecl) → slice_get T.methods m.0 ≡ Some d → method_name_of T m ≡ d.name
named_at T m d e = ap method_name_in e

named_enough : (T : Table) (m : MethodId) (d : MethodDecl) (ids : List MethodId) → slice_get T.methods m.0 ≡ Some d → ids ≡ all_named T d.name → AreEnough T m ids
named_enough T m d ids at e =
    let is : ids ≡ all_named T (method_name_of T m) = e ∙ ap (all_named T) (sym (named_at T m d at)) in
    record { pairs = λ place. ap (pairs_breaks T m place) is ∙ sym (pairs_listed T m place); overridden = ap (overrides_one T m) is ∙ sym (overrides_listed T m) }

-- ---- all of a class and of those above it

module _ (T : Table) (m n : MethodId) (out : stands_in T (owner T m) n ≡ false) where
  abbrev other_class : (same_class (owner T n) (owner T m) ≡ false) × (is_viewed (view T (owner T n) (own_type T (owner T m))) ≡ false)
  other_class = or_parts (same_class (owner T n) (owner T m)) (is_viewed (view T (owner T n) (own_type T (owner T m)))) out

  far_below : own_below T m n ≡ false
  far_below =
      ap (λ b. not (same_class (owner T m) (owner T n)) && b && is_inheritable T (owner T m) n && subsignature_of T (class_view T (owner T m) m) (class_view T (owner T m) n)) other_class.1
      ∙ ap (λ b. b && is_inheritable T (owner T m) n && subsignature_of T (class_view T (owner T m) m) (class_view T (owner T m) n)) (and_none (not (same_class (owner T m) (owner T n))))

  far_overridden : overrides T m n ≡ false
  far_overridden = overrides_told T m n ∙ ap (λ b. is_instance T m && is_instance T n && b) far_below ∙ and_none (is_instance T m && is_instance T n)

  far_hidden : hides T m n ≡ false
  far_hidden = hides_told T m n ∙ ap (λ b. is_method T m && is_method T n && is_static T m && is_static T n && b) far_below ∙ and_none (is_method T m && is_method T n && is_static T m && is_static T n)

  far_replaced : replaces T m n ≡ false
  far_replaced = ap (λ b. b || hides T m n) far_overridden ∙ far_hidden

  far_meeting : statics_meet T m n ≡ false
  far_meeting = meet_told T m n ∙ ap (λ b. is_method T m && is_method T n && differ (is_static T m) (is_static T n) && b) far_below ∙ and_none (is_method T m && is_method T n && differ (is_static T m) (is_static T n))

  far_repeated : repeats T m n ≡ false
  far_repeated =
      ap (λ b. nat_lt n.0 m.0 && b && is_same_sort T n m && override_equivalent T (declared_view T m) (declared_view T n)) other_class.0
      ∙ ap (λ b. b && is_same_sort T n m && override_equivalent T (declared_view T m) (declared_view T n)) (and_none (nat_lt n.0 m.0))

  far_broken : (place : Place) → pair_breaks T m place n ≡ []
  far_broken place =
      ap (λ b. broken_if b 503 place ++ broken_if (statics_meet T m n) 505 place ++ replacing_broken T m n place (replaces T m n)) far_repeated
      ∙ ap (λ b. [] ++ broken_if b 505 place ++ replacing_broken T m n place (replaces T m n)) far_meeting ∙ ap (λ b. [] ++ [] ++ replacing_broken T m n place b) far_replaced

pairs_stand : (T : Table) (m : MethodId) (place : Place) (i : ℕ) (ds : List MethodDecl) → of_each (pair_broken T m place) i ds ≡ pairs_breaks T m place (ids_of (picked (is_standing T (owner T m)) i (length ds)))
pairs_stand T m place i [] = refl
pairs_stand T m place i (d ∷ ds) = by (is_standing T (owner T m) i) refl (pairs_stand T m place (suc i) ds)
  where
    by : (b : Bool) → is_standing T (owner T m) i ≡ b → of_each (pair_broken T m place) (suc i) ds ≡ pairs_breaks T m place (ids_of (picked (is_standing T (owner T m)) (suc i) (length ds)))
        → pair_breaks T m place (record { 0 = i }) ++ of_each (pair_broken T m place) (suc i) ds ≡ pairs_breaks T m place (ids_of (cond b (i ∷ []) [] ++ picked (is_standing T (owner T m)) (suc i) (length ds)))
    by true e r = ap (λ xs. pair_breaks T m place (record { 0 = i }) ++ xs) r
    by false e r = ap (λ xs. xs ++ of_each (pair_broken T m place) (suc i) ds) (far_broken T m (record { 0 = i }) e place) ∙ r

overrides_stand : (T : Table) (m : MethodId) (i : ℕ) (ds : List MethodDecl) → overrides_some T m i ds ≡ overrides_one T m (ids_of (picked (is_standing T (owner T m)) i (length ds)))
overrides_stand T m i [] = refl
overrides_stand T m i (d ∷ ds) = by (is_standing T (owner T m) i) refl (ap (λ k. overrides_some T m k ds) (add-one i) ∙ overrides_stand T m (suc i) ds)
  where
    by : (b : Bool) → is_standing T (owner T m) i ≡ b → overrides_some T m (i + 1) ds ≡ overrides_one T m (ids_of (picked (is_standing T (owner T m)) (suc i) (length ds)))
        → (overrides T m (record { 0 = i }) || overrides_some T m (i + 1) ds) ≡ overrides_one T m (ids_of (cond b (i ∷ []) [] ++ picked (is_standing T (owner T m)) (suc i) (length ds)))
    by true e r = ap (λ b. overrides T m (record { 0 = i }) || b) r
    by false e r = ap (λ b. b || overrides_some T m (i + 1) ds) (far_overridden T m (record { 0 = i }) e) ∙ r

standing_enough : (T : Table) (m : MethodId) (ids : List MethodId) → ids ≡ standing T (owner T m) → AreEnough T m ids
standing_enough T m ids e =
    record { pairs = λ place. ap (pairs_breaks T m place) e ∙ sym (pairs_stand T m place 0 T.methods); overridden = ap (overrides_one T m) e ∙ sym (overrides_stand T m 0 T.methods) }

-- the shorter one of both
pub either_enough : (T : Table) (m : MethodId) (d : MethodDecl) (named all ids : List MethodId) → slice_get T.methods m.0 ≡ Some d → named ≡ all_named T d.name → all ≡ standing T (owner T m)
    → (ids ≡ named) ⊎ (ids ≡ all) → AreEnough T m ids
either_enough T m d named all ids at e f (inl is) = named_enough T m d ids at (is ∙ e)
either_enough T m d named all ids at e f (inr is) = standing_enough T m ids (is ∙ f)

-- what is said wrongly, where the methods are enough
pub wrongly_told : (T : Table) (m : MethodId) (d : MethodDecl) (ids : List MethodId) (one : Bool) → AreEnough T m ids → d.modifiers.says_override ≡ true → one ≡ overrides_one T m ids → not one ≡ says_wrongly T m d
wrongly_told T m d ids one enough said e = ap not (e ∙ enough.overridden) ∙ ap (λ b. b && not (overrides_some T m 0 T.methods)) (sym said)
