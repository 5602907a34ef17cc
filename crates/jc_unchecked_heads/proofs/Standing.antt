-- A test that only methods of a class and of those above it pass, or only those of a name, is one of all methods.
use Rattle.std.proofs.Common.{◌≡◌, ◌⊎◌, inl, inr, ℕ, suc, Bool, true, false, not, ◌&&◌, ◌||◌, ◌==◌, cond, Option, Some, None, List, [], ◌∷◌, ◌++◌, length, slice_get, refl, sym, ap, ◌∙◌}
use Rattle.std.specs.List.{list_any}
use Rattle.std.specs.Str.{bytes_eq}
use Rattle.std.proofs.lemmas.Bool.{or_parts}
use Rattle.jc_rules.proofs.Truths.{and_none}
use Rattle.jc_types.specs.declared.declarations.MethodDecl.{MethodDecl}
use Rattle.jc_types.specs.declared.form.Ty.{Ty}
use Rattle.jc_types.specs.declared.ids.ClassId.{ClassId}
use Rattle.jc_types.specs.declared.ids.MethodId.{MethodId}
use Rattle.jc_types.specs.declared.table.Table.{Table}
use Rattle.jc_types.specs.Accessors.{method_name_in, method_name_of, method_owner_of}
use Rattle.jc_judge.specs.Views.{view}
use Rattle.jc_overriding.specs.declared.view.MethodView.{MethodView}
use Rattle.jc_overriding.specs.Overriding.{has_name, is_above, is_inheritable, is_instance, is_viewed, or_object, overrides, owner, same_class, select, subsignature_of, superclass}
use Rattle.jc_overriding.specs.Viewing.{class_view, own_type, view_of_owner, viewed_in}
use Rattle.jc_members.specs.Named.{all_named, named_from}
use Rattle.jc_members.proofs.Replacing.{overrides_told, own_below}
use Rattle.jc_method_rules.specs.Owned.{ids_of, is_standing, picked, standing, stands_in}
use Rattle.jc_method_rules.proofs.Paired.{overrides_no_other}
use Rattle.jc_unchecked_spec.specs.Heads.{are_open, are_open_views, is_open_selection, is_selected_by, overrides_open, selects_open}
use Rattle.jc_unchecked_heads.specs.Asked.{is_over_open, is_selected_open}

-- ---- some of all methods

module _ (f : MethodId → Bool) (g : ℕ → List MethodDecl → Bool) (none : (i : ℕ) → g i [] ≡ false) (some : (i : ℕ) (d : MethodDecl) (ds : List MethodDecl) → g i (d ∷ ds) ≡ (f (record { 0 = i }) || g (suc i) ds)) where
  standing_any : (T : Table) (k : ClassId) → ((m : MethodId) → stands_in T k m ≡ false → f m ≡ false) → (i : ℕ) (ds : List MethodDecl) → list_any f (ids_of (picked (is_standing T k) i (length ds))) ≡ g i ds
  standing_any T k apart i [] = sym (none i)
  standing_any T k apart i (d ∷ ds) = by (is_standing T k i) refl (standing_any T k apart (suc i) ds) ∙ sym (some i d ds)
    where
      by : (b : Bool) → is_standing T k i ≡ b → list_any f (ids_of (picked (is_standing T k) (suc i) (length ds))) ≡ g (suc i) ds
          → list_any f (ids_of (cond b (i ∷ []) [] ++ picked (is_standing T k) (suc i) (length ds))) ≡ (f (record { 0 = i }) || g (suc i) ds)
      by true e r = ap (λ b. f (record { 0 = i }) || b) r
      by false e r = r ∙ ap (λ b. b || g (suc i) ds) (sym (apart (record { 0 = i }) e))

  named_any : (T : Table) (name : List ℕ) → ((m : MethodId) → has_name T name m ≡ false → f m ≡ false) → (i : ℕ) (ds : List MethodDecl) → list_any f (named_from T name i (length ds)) ≡ g i ds
  named_any T name apart i [] = sym (none i)
  named_any T name apart i (d ∷ ds) = by (has_name T name (record { 0 = i })) refl (named_any T name apart (suc i) ds) ∙ sym (some i d ds)
    where
      by : (b : Bool) → has_name T name (record { 0 = i }) ≡ b → list_any f (named_from T name (suc i) (length ds)) ≡ g (suc i) ds
          → list_any f (cond b (record { 0 = i } ∷ []) [] ++ named_from T name (suc i) (length ds)) ≡ (f (record { 0 = i }) || g (suc i) ds)
      by true e r = ap (λ b. f (record { 0 = i }) || b) r
      by false e r = r ∙ ap (λ b. b || g (suc i) ds) (sym (apart (record { 0 = i }) e))

-- ---- what a method overrides

module _ (T : Table) (m : MethodId) where
  not_over : (n : MethodId) → overrides T m n ≡ false → is_over_open T m n ≡ false
  unfolding is_over_open
  not_over n e = ap (λ b. b && are_open T (owner T m) m n) e

  far_below : (n : MethodId) → stands_in T (owner T m) n ≡ false → own_below T m n ≡ false
  far_below n out =
      let apart = or_parts (same_class (owner T n) (owner T m)) (is_viewed (view T (owner T n) (own_type T (owner T m)))) out in
      ap (λ b. not (same_class (owner T m) (owner T n)) && b && is_inheritable T (owner T m) n && subsignature_of T (class_view T (owner T m) m) (class_view T (owner T m) n)) apart.1
      ∙ ap (λ b. b && is_inheritable T (owner T m) n && subsignature_of T (class_view T (owner T m) m) (class_view T (owner T m) n)) (and_none (not (same_class (owner T m) (owner T n))))

  far_over : (n : MethodId) → stands_in T (owner T m) n ≡ false → is_over_open T m n ≡ false
  far_over n out = not_over n (overrides_told T m n ∙ ap (λ b. is_instance T m && is_instance T n && b) (far_below n out) ∙ and_none (is_instance T m && is_instance T n))

  other_over : (n : MethodId) → has_name T (method_name_of T m) n ≡ false → is_over_open T m n ≡ false
  other_over n e = not_over n (overrides_no_other T m n e)

  all_standing_over : list_any (is_over_open T m) (standing T (owner T m)) ≡ overrides_open T m 0 T.methods
  unfolding is_over_open
  all_standing_over = standing_any (is_over_open T m) (overrides_open T m) (λ i. refl) (λ i d ds. refl) T (owner T m) far_over 0 T.methods

  all_named_over : list_any (is_over_open T m) (all_named T (method_name_of T m)) ≡ overrides_open T m 0 T.methods
  unfolding is_over_open
  all_named_over = named_any (is_over_open T m) (overrides_open T m) (λ i. refl) (λ i d ds. refl) T (method_name_of T m) other_over 0 T.methods

-- the shorter one of both
pub either_over : (T : Table) (m : MethodId) (d : MethodDecl) (named all ids : List MethodId) → slice_get T.methods m.0 ≡ Some d → named ≡ all_named T d.name → all ≡ standing T (owner T m)
    → (ids ≡ named) ⊎ (ids ≡ all) → list_any (is_over_open T m) ids ≡ overrides_open T m 0 T.methods
either_over T m d named all ids at e f (inl is) =
    let name : method_name_of T m ≡ d.name = ap method_name_in at in ap (list_any (is_over_open T m)) (is ∙ e ∙ ap (all_named T) (sym name)) ∙ all_named_over T m
either_over T m d named all ids at e f (inr is) = ap (list_any (is_over_open T m)) (is ∙ f) ∙ all_standing_over T m

-- ---- what a class selects

unviewed : (v : Option Ty) → is_viewed v ≡ false → v ≡ None
unviewed None e = refl
unviewed (Some t) e = cc

unopened : (T : Table) (a : Option MethodView) → are_open_views T a None ≡ false
unopened T None = refl
unopened T (Some a) = refl

module _ (T : Table) (k : ClassId) where
  pub no_view : (m : MethodId) → stands_in T k m ≡ false → class_view T k m ≡ None
  no_view m out = by (method_owner_of T m) refl
    where
      by : (o : Option ClassId) → method_owner_of T m ≡ o → viewed_in T m (view_of_owner T (own_type T k) o) ≡ None
      by None f = refl
      by (Some o) f =
          let apart = or_parts (same_class (owner T m) k) (is_viewed (view T (owner T m) (own_type T k))) out in
          ap (viewed_in T m) (unviewed (view T o (own_type T k)) (ap (λ p. is_viewed (view T (or_object p) (own_type T k))) (sym f) ∙ apart.1))

  none_selected : (m : MethodId) (n : Option MethodId) → class_view T k m ≡ None → is_open_selection T k m n ≡ false
  none_selected m None e = refl
  none_selected m (Some n) e =
      ap (λ b. not (same_class (owner T n) k) && not (n.0 == m.0) && not (overrides T n m) && not (is_selected_by T m n (superclass T k)) && b) (ap (are_open_views T (class_view T k n)) e ∙ unopened T (class_view T k n))
      ∙ and_none (not (same_class (owner T n) k) && not (n.0 == m.0) && not (overrides T n m) && not (is_selected_by T m n (superclass T k)))

  far_selected : (m : MethodId) → stands_in T k m ≡ false → is_selected_open T k m ≡ false
  unfolding is_selected_open
  far_selected m out = none_selected m (select T k m) (no_view m out)

  all_selected : list_any (is_selected_open T k) (standing T k) ≡ selects_open T k 0 T.methods
  unfolding is_selected_open
  all_selected = standing_any (is_selected_open T k) (selects_open T k) (λ i. refl) (λ i d ds. refl) T k far_selected 0 T.methods

pub selects_told : (T : Table) (k : ClassId) (all : List MethodId) (r : Bool) → all ≡ standing T k → r ≡ list_any (is_selected_open T k) all → r ≡ selects_open T k 0 T.methods
selects_told T k all r e f = f ∙ ap (list_any (is_selected_open T k)) e ∙ all_selected T k
