-- A body that a class inherits for a method is among the methods of the method's name, and among those of the class and of the classes above it.
use Rattle.std.proofs.Common.{◌≡◌, ◌⊎◌, inl, inr, ℕ, zero, suc, ◌+◌, ◌<◌, ◌≤◌, arith, Bool, true, false, not, ◌&&◌, ◌||◌, ◌==◌, cond, Option, Some, None, List, [], ◌∷◌, ◌++◌, length, slice_get, if◌then◌else◌, refl, sym, ap, subst, ◌∙◌}
use Rattle.std.specs.List.{list_any}
use Rattle.std.specs.Str.{bytes_eq}
use Rattle.std.proofs.lemmas.Bool.Decides.{nat_tests}
use Rattle.std.proofs.lemmas.Option.{slice_get_within}
use Rattle.jc_types.specs.declared.declarations.MethodDecl.{MethodDecl}
use Rattle.jc_types.specs.declared.ids.ClassId.{ClassId}
use Rattle.jc_types.specs.declared.ids.MethodId.{MethodId}
use Rattle.jc_types.specs.declared.table.Table.{Table}
use Rattle.jc_types.specs.Accessors.{class_count, method_kind_in, method_name_of, methods_of}
use Rattle.jc_overriding.specs.declared.view.MethodView.{MethodView}
use Rattle.jc_overriding.specs.Overriding.{body_for, declared_for, has_name, if_body, in_superclass, is_abstract, is_inheritable, is_instance, is_member_of, is_method, kind_in, or_further, overrides, owner, same_class, select, standing_in, standing_within, stands_for, subsignature_of, superclass}
use Rattle.jc_overriding.specs.Viewing.{class_view, is_static}
use Rattle.jc_members.specs.Named.{all_named, named_from}
use Rattle.jc_members.proofs.Standing.{unnamed}
use Rattle.jc_method_rules.specs.Owned.{ids_of, is_standing, picked, standing, stands_in}
use Rattle.jc_unchecked_spec.specs.Heads.{are_open, are_open_views, is_open_selection, is_selected_by}
use Rattle.jc_unchecked_heads.specs.Asked.{AreAmong, is_rival, is_selected_open}
use Rattle.jc_unchecked_heads.proofs.Standing.{no_view}

-- ---- truths

never : false ≡ true → ⊥
never e = cc

no_some : (n : MethodId) → None ≡ Some n → ⊥
no_some n e = cc

and_first : (p q : Bool) → (p && q) ≡ true → p ≡ true
and_first true q e = refl
and_first false q e = cc

and_second : (p q : Bool) → (p && q) ≡ true → q ≡ true
and_second true q e = e
and_second false q e = cc

both : (p q : Bool) → p ≡ true → q ≡ true → (p && q) ≡ true
both true q e f = f
both false q e f = cc

or_second : (p q : Bool) → p ≡ false → (p || q) ≡ true → q ≡ true
or_second true q e f = cc
or_second false q e f = f

or_true : (p : Bool) → (p || true) ≡ true
or_true true = refl
or_true false = refl

not_true : (p : Bool) → not p ≡ true → p ≡ false
not_true true e = cc
not_true false e = refl

same_number : (a b : ℕ) → (a == b) ≡ true → a ≡ b
same_number a b e = grind (arith, nat_tests)

further : (a b : ℕ) → (a == b) ≡ false → a ≤ b → a < b
further a b e h = grind (arith, nat_tests)

-- ---- among all

module _ (f : MethodId → Bool) (n : ℕ) (holds : f (record { 0 = n }) ≡ true) where
  standing_has : (T : Table) (k : ClassId) → is_standing T k n ≡ true → (i len : ℕ) → i ≤ n → n < i + len → list_any f (ids_of (picked (is_standing T k) i len)) ≡ true
  standing_has T k e i zero le lt = absurd (omega (arith, le, lt))
  standing_has T k e i (suc len) le lt = by (i == n) refl (λ h. standing_has T k e (suc i) len (omega (arith, h)) (omega (arith, lt)))
    where
      there : (b : Bool) → list_any f (ids_of (picked (is_standing T k) (suc i) len)) ≡ true → list_any f (ids_of (cond b (i ∷ []) [] ++ picked (is_standing T k) (suc i) len)) ≡ true
      there true r = ap (λ x. f (record { 0 = i }) || x) r ∙ or_true (f (record { 0 = i }))
      there false r = r

      by : (b : Bool) → (i == n) ≡ b → (i < n → list_any f (ids_of (picked (is_standing T k) (suc i) len)) ≡ true) → list_any f (ids_of (cond (is_standing T k i) (i ∷ []) [] ++ picked (is_standing T k) (suc i) len)) ≡ true
      by true g r =
          ap (λ b. list_any f (ids_of (cond b (i ∷ []) [] ++ picked (is_standing T k) (suc i) len))) (ap (is_standing T k) (same_number i n g) ∙ e)
          ∙ ap (λ b. b || list_any f (ids_of (picked (is_standing T k) (suc i) len))) (ap (λ j. f (record { 0 = j })) (same_number i n g) ∙ holds)
      by false g r = there (is_standing T k i) (r (further i n g le))

  named_has : (T : Table) (name : List ℕ) → has_name T name (record { 0 = n }) ≡ true → (i len : ℕ) → i ≤ n → n < i + len → list_any f (named_from T name i len) ≡ true
  named_has T name e i zero le lt = absurd (omega (arith, le, lt))
  named_has T name e i (suc len) le lt = by (i == n) refl (λ h. named_has T name e (suc i) len (omega (arith, h)) (omega (arith, lt)))
    where
      there : (b : Bool) → list_any f (named_from T name (suc i) len) ≡ true → list_any f (cond b (record { 0 = i } ∷ []) [] ++ named_from T name (suc i) len) ≡ true
      there true r = ap (λ x. f (record { 0 = i }) || x) r ∙ or_true (f (record { 0 = i }))
      there false r = r

      by : (b : Bool) → (i == n) ≡ b → (i < n → list_any f (named_from T name (suc i) len) ≡ true) → list_any f (cond (has_name T name (record { 0 = i })) (record { 0 = i } ∷ []) [] ++ named_from T name (suc i) len) ≡ true
      by true g r =
          ap (λ b. list_any f (cond b (record { 0 = i } ∷ []) [] ++ named_from T name (suc i) len)) (ap (λ j. has_name T name (record { 0 = j })) (same_number i n g) ∙ e)
          ∙ ap (λ b. b || list_any f (named_from T name (suc i) len)) (ap (λ j. f (record { 0 = j })) (same_number i n g) ∙ holds)
      by false g r = there (has_name T name (record { 0 = i })) (r (further i n g le))

in_table : (T : Table) (n : MethodId) → is_method T n ≡ true → n.0 < length T.methods
in_table T n e = by (slice_get T.methods n.0) refl
  where
    by : (o : Option MethodDecl) → slice_get T.methods n.0 ≡ o → n.0 < length T.methods
    by None f = absurd (never (ap (λ o. kind_in (method_kind_in o)) (sym f) ∙ e))
    by (Some d) f = slice_get_within T.methods n.0 d f

-- ---- what is selected stands for the method

or_some : (a b : Option MethodId) (n : MethodId) → or_further a b ≡ Some n → (a ≡ Some n) ⊎ (b ≡ Some n)
or_some None b n e = inr e
or_some (Some p) b n e = inl e

module _ (T : Table) (k : ClassId) (m : MethodId) where
  declared_stands : (ns : List MethodId) (n : MethodId) → declared_for T k m ns ≡ Some n → stands_for T k n m ≡ true
  declared_stands [] n e = absurd (no_some n e)
  declared_stands (p ∷ ps) n e = by (stands_for T k p m) refl (declared_stands ps n) e
    where
      by : (b : Bool) → stands_for T k p m ≡ b → (declared_for T k m ps ≡ Some n → stands_for T k n m ≡ true) → (if b then Some p else declared_for T k m ps) ≡ Some n → stands_for T k n m ≡ true
      by true f later e = let is : p ≡ n = cc in ap (λ q. stands_for T k q m) (sym is) ∙ f
      by false f later e = later e

  body_stands : (ns : List MethodId) (n : MethodId) → body_for T k m ns ≡ Some n → stands_for T k n m ≡ true
  body_stands [] n e = absurd (no_some n e)
  body_stands (p ∷ ps) n e = by (not (is_abstract T p) && stands_for T k p m) refl (body_stands ps n) e
    where
      by : (b : Bool) → (not (is_abstract T p) && stands_for T k p m) ≡ b → (body_for T k m ps ≡ Some n → stands_for T k n m ≡ true) → (if b then Some p else body_for T k m ps) ≡ Some n → stands_for T k n m ≡ true
      by true f later e = let is : p ≡ n = cc in ap (λ q. stands_for T k q m) (sym is) ∙ and_second (not (is_abstract T p)) (stands_for T k p m) f
      by false f later e = later e

  one_stands : (ns : List MethodId) (n : MethodId) → standing_in T k m ns ≡ Some n → stands_for T k n m ≡ true
  one_stands ns n e = by (or_some (body_for T k m ns) (declared_for T k m ns) n e)
    where
      by : (body_for T k m ns ≡ Some n) ⊎ (declared_for T k m ns ≡ Some n) → stands_for T k n m ≡ true
      by (inl f) = body_stands ns n f
      by (inr f) = declared_stands ns n f

  within_stands : (steps : ℕ) (c : ClassId) (n : MethodId) → standing_within T steps k m c ≡ Some n → stands_for T k n m ≡ true
  unfolding standing_within
  within_stands zero c n e = absurd (no_some n e)
  within_stands (suc steps) c n e = by (λ d. within_stands steps d n) (or_some (standing_in T k m (methods_of T c)) (in_superclass (standing_within T steps k m) (superclass T c)) n e)
    where
      up : (o : Option ClassId) → ((d : ClassId) → standing_within T steps k m d ≡ Some n → stands_for T k n m ≡ true) → in_superclass (standing_within T steps k m) o ≡ Some n → stands_for T k n m ≡ true
      up None later f = absurd (no_some n f)
      up (Some d) later f = later d f

      by : ((d : ClassId) → standing_within T steps k m d ≡ Some n → stands_for T k n m ≡ true) → (standing_in T k m (methods_of T c) ≡ Some n) ⊎ (in_superclass (standing_within T steps k m) (superclass T c) ≡ Some n)
          → stands_for T k n m ≡ true
      by later (inl f) = one_stands (methods_of T c) n f
      by later (inr f) = up (superclass T c) later f

  body_is : (o : Option MethodId) (n : MethodId) → if_body T o ≡ Some n → (o ≡ Some n) × (is_abstract T n ≡ false)
  body_is None n e = absurd (no_some n e)
  body_is (Some p) n e = by (is_abstract T p) refl e
    where
      by : (b : Bool) → is_abstract T p ≡ b → cond b None (Some p) ≡ Some n → (Some p ≡ Some n) × (is_abstract T n ≡ false)
      by true f e = absurd (no_some n e)
      by false f e = let is : p ≡ n = cc in (e, ap (is_abstract T) (sym is) ∙ f)

  -- ---- a body that is told of is a rival

  module _ (n : MethodId) (selected : select T k m ≡ Some n) (is_open : is_open_selection T k m (Some n) ≡ true) where
    abbrev elsewhere : Bool
    elsewhere = not (same_class (owner T n) k)

    abbrev other : Bool
    other = not (n.0 == m.0)

    abbrev unlike : Bool
    unlike = not (overrides T n m)

    abbrev new : Bool
    new = not (is_selected_by T m n (superclass T k))

    is_there : (is_abstract T n ≡ false) × (stands_for T k n m ≡ true)
    is_there = let is : _ = body_is (standing_within T (class_count T + 1) k m k) n selected in (is.1, within_stands (class_count T + 1) k n is.0)

    apart : (elsewhere && other) ≡ true
    apart = and_first (elsewhere && other) unlike (and_first (elsewhere && other && unlike) new (and_first (elsewhere && other && unlike && new) (are_open T k n m) is_open))

    are_other : other ≡ true
    are_other = and_second elsewhere other apart

    abbrev instances : Bool
    instances = is_instance T n && is_instance T m

    stands : (instances && is_member_of T k n && is_inheritable T (owner T n) m && subsignature_of T (class_view T k n) (class_view T k m)) ≡ true
    stands =
        or_second (n.0 == m.0) (instances && is_member_of T k n && is_inheritable T (owner T n) m && subsignature_of T (class_view T k n) (class_view T k m)) (not_true (n.0 == m.0) are_other) is_there.1

    instance : is_instance T n ≡ true
    instance =
        and_first (is_instance T n) (is_instance T m)
        (and_first instances (is_member_of T k n)
        (and_first (instances && is_member_of T k n) (is_inheritable T (owner T n) m)
        (and_first (instances && is_member_of T k n && is_inheritable T (owner T n) m) (subsignature_of T (class_view T k n) (class_view T k m)) stands)))

    same_name : has_name T (method_name_of T m) n ≡ true
    same_name = by (has_name T (method_name_of T m) n) refl
      where
        by : (b : Bool) → has_name T (method_name_of T m) n ≡ b → b ≡ true
        by true f = refl
        by false f =
            absurd
            (never (sym (unnamed T k n m f) ∙ and_second (instances && is_member_of T k n && is_inheritable T (owner T n) m) (subsignature_of T (class_view T k n) (class_view T k m)) stands))

    rival : is_rival T k m n ≡ true
    unfolding is_rival
    rival =
        both (has_name T (method_name_of T m) n && elsewhere && other && not (is_abstract T n)) (is_instance T n)
        (both (has_name T (method_name_of T m) n && elsewhere && other) (not (is_abstract T n))
        (both (has_name T (method_name_of T m) n && elsewhere) other (both (has_name T (method_name_of T m) n) elsewhere same_name (and_first elsewhere other apart)) are_other)
        (ap not is_there.0))
        instance

    stands_there : stands_in T k n ≡ true
    stands_there = by (stands_in T k n) refl
      where
        by : (b : Bool) → stands_in T k n ≡ b → b ≡ true
        by true f = refl
        by false f =
            absurd
            (never (sym (ap (λ a. are_open_views T a (class_view T k m)) (no_view T k n f)) ∙ and_second (elsewhere && other && unlike && new) (are_open T k n m) is_open))

    within : n.0 < length T.methods
    within = in_table T n (and_first (is_method T n) (not (is_static T n)) instance)

    among_some : (ids : List MethodId) → AreAmong T k m ids → list_any (is_rival T k m) ids ≡ true
    among_some ids (inl e) =
        ap (list_any (is_rival T k m)) e ∙ named_has (is_rival T k m) n.0 rival T (method_name_of T m) same_name 0 (length T.methods) (omega arith) (let lt : n.0 < length T.methods = within in omega (arith, lt))
    among_some ids (inr e) =
        ap (list_any (is_rival T k m)) e ∙ standing_has (is_rival T k m) n.0 rival T k stands_there 0 (length T.methods) (omega arith) (let lt : n.0 < length T.methods = within in omega (arith, lt))

  not_open : (n : MethodId) (ids : List MethodId) → select T k m ≡ Some n → AreAmong T k m ids → list_any (is_rival T k m) ids ≡ false → is_open_selection T k m (Some n) ≡ false
  not_open n ids e a none = by (is_open_selection T k m (Some n)) refl
    where
      by : (b : Bool) → is_open_selection T k m (Some n) ≡ b → b ≡ false
      by false f = refl
      by true f = absurd (never (sym none ∙ among_some n e f ids a))

pub no_rival : (T : Table) (k : ClassId) (m : MethodId) (ids : List MethodId) → AreAmong T k m ids → list_any (is_rival T k m) ids ≡ false → is_selected_open T k m ≡ false
unfolding is_selected_open
no_rival T k m ids a none = by (select T k m) refl
  where
    by : (o : Option MethodId) → select T k m ≡ o → is_open_selection T k m o ≡ false
    by None f = refl
    by (Some n) f = not_open T k m n ids f a none

pub ruleset rivals = (no_rival)

pub among : (T : Table) (k : ClassId) (m : MethodId) (named all ids : List MethodId) → named ≡ all_named T (method_name_of T m) → all ≡ standing T k → (ids ≡ named) ⊎ (ids ≡ all) → AreAmong T k m ids
among T k m named all ids e f (inl is) = inl (is ∙ e)
among T k m named all ids e f (inr is) = inr (is ∙ f)
