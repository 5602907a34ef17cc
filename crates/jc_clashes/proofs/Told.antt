-- The clashes of a table are those that are found name by name.
use Rattle.std.proofs.Common.{◌≡◌, ◌⊎◌, inl, inr, ℕ, suc, ◌+◌, ◌==◌, ◌<◌, ◌≤◌, arith, Bool, true, false, not, ◌&&◌, ◌||◌, cond, Option, Some, None, List, [], ◌∷◌, ◌++◌, map, length, refl, sym, ap, subst, ◌∙◌}
use Rattle.std.proofs.lemmas.Bool.Decides.{nat_tests}
use Rattle.std.specs.Str.{bytes_eq}
use Rattle.std.proofs.lemmas.Bool.{or_right, and_from, and_right, and_parts}
use Rattle.jc_rules.proofs.Truths.{same_bytes, own_bytes, not_both, not_false, as_true, self_equal, equal_numbers}
use Rattle.jc_rules.specs.declared.rule.Place.{Place}
use Rattle.jc_rules.specs.declared.rule.Refusal.{Refusal}
use Rattle.jc_types.specs.declared.declarations.ClassDecl.{ClassDecl}
use Rattle.jc_types.specs.declared.declarations.MethodDecl.{MethodDecl}
use Rattle.jc_types.specs.declared.form.Ty.{Ty}
use Rattle.jc_types.specs.declared.form.Ty.TheVariants.{outs-Class}
use Rattle.jc_types.specs.declared.ids.ClassId.{ClassId}
use Rattle.jc_types.specs.declared.ids.MethodId.{MethodId}
use Rattle.jc_types.specs.declared.table.Table.{Table}
use Rattle.jc_types.specs.Accessors.{method_name_of, method_owner_of}
use Rattle.jc_types.specs.Breaks.{IsOf, LeastOf, least}
use Rattle.jc_types.proofs.Least.{least_append, least_of, told}
use Rattle.jc_judge.specs.Kinds.{class_at, class_of}
use Rattle.jc_judge.specs.Views.{is_class}
use Rattle.jc_overriding.specs.declared.view.MethodView.{MethodView}
use Rattle.jc_overriding.specs.Overriding.{candidates_from, inherits_in, is_candidate, is_method, is_viewed, owner, remaining, replaced, same_class, subsignature_of, with_view, without_replaced}
use Rattle.jc_overriding.specs.Signatures.{subsignature}
use Rattle.jc_overriding.specs.Viewing.{class_view, is_static, own_type, seeing_of, view_of_owner, viewed_by, viewed_in}
use Rattle.jc_header_rules.specs.Clashes.{all_methods, clash_place, clashes, clashes_breaks, clashes_in, erased_params, erasures_meet, is_among, is_settled, members_broken, pairs_broken, reaches}
use Rattle.jc_header_rules.specs.Inheriting.{with_body}
use Rattle.jc_header_rules.specs.Places.{broken_if, of_each}
use Rattle.jc_members.specs.Below.{replaces}
use Rattle.jc_members.specs.Fixed.{is_fixed}
use Rattle.jc_members.specs.Listing.{has_method}
use Rattle.jc_members.specs.Named.{all_named}
use Rattle.jc_members.proofs.Remaining.{id_of_view}
use Rattle.jc_clashes.specs.declared.shapes.Shape.{Shape}
use Rattle.jc_clashes.specs.Clashing.{belongs, beside_broken, clash_at, class_clashes, group_broken, groups_broken, is_member, is_replaced, member_broken, passed_over, settles, shape_place, views_clash}
use Rattle.jc_clashes.specs.Constructors.{constructors_breaks}
use Rattle.jc_clashes.specs.Erasures.{share_some}
use Rattle.jc_clashes.specs.Marks.{behind_first, first_mark}
use Rattle.jc_clashes.specs.Shapes.{above_in, groups, shape_of, shapes_of}
use Rattle.jc_clashes.specs.Spreading.{below_in, erasures_within}
use Rattle.jc_clashes.specs.Stage.{IsFirstClash, all_clashes}
use Rattle.jc_clashes.proofs.Lists.{In, all_same, any_in, in_any, in_either, in_left, in_right, is_false}
use Rattle.jc_clashes.proofs.Fixed.{same_erasure, same_fixed}
use Rattle.jc_clashes.proofs.Alike.{Meeting, above_told, fixed_name, fixed_of, group_in, group_named, group_told, in_above, meet_told, meeting_of, of_shape, shape_in}
use Rattle.jc_clashes.proofs.Named.{IsNamed, in_named, named_in}
use Rattle.jc_clashes.proofs.Placed.{place_told}
use Rattle.jc_clashes.proofs.Reaching.{reached_told, replaces_named, replaces_signed}

-- ---- breaks in lists

of_left : (b : Refusal) (xs ys : List Refusal) → IsOf b xs → IsOf b (xs ++ ys)
of_left b [] ys m = absurd m
of_left b (x ∷ xs) ys (inl e) = inl e
of_left b (x ∷ xs) ys (inr m) = inr (of_left b xs ys m)

of_right : (b : Refusal) (xs ys : List Refusal) → IsOf b ys → IsOf b (xs ++ ys)
of_right b [] ys m = m
of_right b (x ∷ xs) ys m = inr (of_right b xs ys m)

of_either : (b : Refusal) (xs ys : List Refusal) → IsOf b (xs ++ ys) → IsOf b xs ⊎ IsOf b ys
of_either b [] ys m = inr m
of_either b (x ∷ xs) ys (inl e) = inl (inl e)
of_either b (x ∷ xs) ys (inr m) = by (of_either b xs ys m)
  where
    by : IsOf b xs ⊎ IsOf b ys → IsOf b (x ∷ xs) ⊎ IsOf b ys
    by (inl m) = inl (inr m)
    by (inr m) = inr m

broken_true : (b : Refusal) (c : Bool) (rule : ℕ) (place : Place) → IsOf b (broken_if c rule place) → c ≡ true
broken_true b true rule place m = refl
broken_true b false rule place m = absurd m

-- ---- what a class has

module _ (T : Table) (k : ClassId) where
  -- a method as the class has it
  pub record Has (v : MethodView) : Type 0 where
    pub within : v.id.0 < length T.methods
    pub view : class_view T k v.id ≡ Some v
    pub candidate : is_candidate T (own_type T k) v.id ≡ true

  with_in : (m : MethodId) (o : Option MethodView) (v : MethodView) → In v (with_view T (λ _. true) (own_type T k) m o) → (o ≡ Some v) × (is_candidate T (own_type T k) m ≡ true)
  with_in m None v h = absurd h
  with_in m (Some w) v h = by (is_candidate T (own_type T k) m) refl h
    where
      by : (c : Bool) → is_candidate T (own_type T k) m ≡ c → In v (cond c (w ∷ []) []) → (Some w ≡ Some v) × (is_candidate T (own_type T k) m ≡ true)
      by true f (inl e) = (ap Some (sym e), f)
      by true f (inr h) = absurd h
      by false f h = absurd h

  in_with : (m : MethodId) (o : Option MethodView) (v : MethodView) → o ≡ Some v → is_candidate T (own_type T k) m ≡ true → In v (with_view T (λ _. true) (own_type T k) m o)
  in_with m None v e f = cc
  in_with m (Some w) v e f = subst (λ c. In v (cond c (w ∷ []) [])) (sym f) (inl (sym (ap w_or e)))
    where
      w_or : Option MethodView → MethodView
      w_or None = w
      w_or (Some u) = u

  has_from : (i : ℕ) (ds : List MethodDecl) (v : MethodView) → In v (candidates_from T (λ _. true) (own_type T k) i ds)
      → (v.id.0 < i + length ds) × (class_view T k v.id ≡ Some v) × (is_candidate T (own_type T k) v.id ≡ true)
  has_from i [] v h = absurd h
  has_from i (d ∷ ds) v h =
      by (in_either v (with_view T (λ _. true) (own_type T k) (record { 0 = i }) (class_view T k (record { 0 = i }))) (candidates_from T (λ _. true) (own_type T k) (suc i) ds) h) (λ h. has_from (suc i) ds v h)
    where
      here : (class_view T k (record { 0 = i }) ≡ Some v) × (is_candidate T (own_type T k) (record { 0 = i }) ≡ true) → (v.id.0 < i + length (d ∷ ds)) × (class_view T k v.id ≡ Some v) × (is_candidate T (own_type T k) v.id ≡ true)
      here p =
          let same : v.id ≡ record { 0 = i } = id_of_view T (own_type T k) (record { 0 = i }) v p.0 in
          let is : v.id.0 ≡ i = ap (λ (n : MethodId). n.0) same in
          (omega arith, ap (class_view T k) same ∙ p.0, ap (is_candidate T (own_type T k)) same ∙ p.1)

      by : In v (with_view T (λ _. true) (own_type T k) (record { 0 = i }) (class_view T k (record { 0 = i }))) ⊎ In v (candidates_from T (λ _. true) (own_type T k) (suc i) ds)
          → (In v (candidates_from T (λ _. true) (own_type T k) (suc i) ds) → (v.id.0 < suc i + length ds) × (class_view T k v.id ≡ Some v) × (is_candidate T (own_type T k) v.id ≡ true))
          → (v.id.0 < i + length (d ∷ ds)) × (class_view T k v.id ≡ Some v) × (is_candidate T (own_type T k) v.id ≡ true)
      by (inl h) g = here (with_in (record { 0 = i }) (class_view T k (record { 0 = i })) v h)
      by (inr h) g = let rest = g h in let low : v.id.0 < suc i + length ds = rest.0 in (omega arith, rest.1, rest.2)

  from_has : (i : ℕ) (ds : List MethodDecl) (v : MethodView) → i ≤ v.id.0 → v.id.0 < i + length ds → class_view T k v.id ≡ Some v → is_candidate T (own_type T k) v.id ≡ true
      → In v (candidates_from T (λ _. true) (own_type T k) i ds)
  from_has i [] v from to e f = absurd (omega arith)
  from_has i (d ∷ ds) v from to e f = by (v.id.0 == i) refl (λ low. from_has (suc i) ds v low (omega arith) e f)
    where
      up : (v.id.0 == i) ≡ false → suc i ≤ v.id.0
      up g = grind (arith, nat_tests)

      by : (b : Bool) → (v.id.0 == i) ≡ b → (suc i ≤ v.id.0 → In v (candidates_from T (λ _. true) (own_type T k) (suc i) ds)) → In v (candidates_from T (λ _. true) (own_type T k) i (d ∷ ds))
      by true g h =
          let is : v.id.0 ≡ i = equal_numbers v.id.0 i g in
          let same : v.id ≡ record { 0 = i } = ap (λ j. record { 0 = j }) is in
          in_left v (with_view T (λ _. true) (own_type T k) (record { 0 = i }) (class_view T k (record { 0 = i }))) (candidates_from T (λ _. true) (own_type T k) (suc i) ds)
          (in_with (record { 0 = i }) (class_view T k (record { 0 = i })) v (sym (ap (class_view T k) same) ∙ e) (sym (ap (is_candidate T (own_type T k)) same) ∙ f))
      by false g h = in_right v (with_view T (λ _. true) (own_type T k) (record { 0 = i }) (class_view T k (record { 0 = i }))) (candidates_from T (λ _. true) (own_type T k) (suc i) ds) (h (up g))

  abbrev every : List MethodView
  every = all_methods T k

  abbrev kept : List MethodView
  kept = remaining T (all_methods T k)

  pub has_of : (v : MethodView) → In v every → Has v
  has_of v h =
      let found = has_from 0 T.methods v h in
      let low : v.id.0 < 0 + length T.methods = found.0 in
      record { within = omega arith; view = found.1; candidate = found.2 }

  pub of_has : (v : MethodView) → Has v → In v every
  of_has v h = let low : v.id.0 < length T.methods = h.within in from_has 0 T.methods v (omega arith) (omega arith) h.view h.candidate

  -- ---- by ids

  class_own : class_of (own_type T k) ≡ Some k
  unfolding class_of
  class_own = ap class_at (outs-Class k _)

  belongs_told : (m : MethodId) → belongs T k m ≡ (is_candidate T (own_type T k) m && has_method T (own_type T k) m)
  belongs_told m = ap (λ o. is_method T m && (is_class (owner T m) o || inherits_in T o m) && has_method T (own_type T k) m) (sym class_own)

  pub viewed : (m : MethodId) (v : MethodView) → class_view T k m ≡ Some v → has_method T (own_type T k) m ≡ true
  viewed m v e = by (view_of_owner T (own_type T k) (method_owner_of T m)) e
    where
      by : (o : Option Ty) → viewed_in T m o ≡ Some v → is_viewed o ≡ true
      by None e = cc
      by (Some u) e = refl

  view_some : (m : MethodId) → has_method T (own_type T k) m ≡ true → (v : MethodView) × (class_view T k m ≡ Some v)
  view_some m e = by (view_of_owner T (own_type T k) (method_owner_of T m)) refl e
    where
      by : (o : Option Ty) → view_of_owner T (own_type T k) (method_owner_of T m) ≡ o → is_viewed o ≡ true → (v : MethodView) × (class_view T k m ≡ Some v)
      by None f e = cc
      by (Some u) f e = (viewed_by T m (is_static T m) (seeing_of T u), ap (viewed_in T m) f)

  has_belongs : (v : MethodView) → Has v → belongs T k v.id ≡ true
  has_belongs v h = belongs_told v.id ∙ and_from (is_candidate T (own_type T k) v.id) (has_method T (own_type T k) v.id) h.candidate (viewed v.id v h.view)

  -- .. as the class has it
  pub record View (m : MethodId) : Type 0 where
    pub view : MethodView
    pub is : view.id ≡ m
    pub has : Has view

  pub belongs_has : (m : MethodId) → m.0 < length T.methods → belongs T k m ≡ true → View m
  belongs_has m within e =
      let both = and_parts (is_candidate T (own_type T k) m) (has_method T (own_type T k) m) (sym (belongs_told m) ∙ e) in
      let seen = view_some m both.1 in
      let same : seen.0.id ≡ m = id_of_view T (own_type T k) m seen.0 seen.1 in
      record {
        view = seen.0;
        is = same;
        has = record {
          within = subst (λ (n : MethodId). n.0 < length T.methods) (sym same) within;
          view = ap (class_view T k) same ∙ seen.1;
          candidate = ap (is_candidate T (own_type T k)) same ∙ both.0;
        };
      }

  -- ---- members

  replaced_in : (v w : MethodView) (vs : List MethodView) → In w vs → replaces T w.id v.id ≡ true → replaced T v vs ≡ true
  replaced_in v w [] h e = absurd h
  replaced_in v w (u ∷ us) (inl is) e = ap (λ b. b || replaced T v us) (subst (λ (z : MethodView). replaces T z.id v.id ≡ true) is e)
  replaced_in v w (u ∷ us) (inr h) e = or_right (replaces T u.id v.id) (replaced T v us) (replaced_in v w us h e)

  pub in_replaced : (v : MethodView) (vs : List MethodView) → replaced T v vs ≡ true → (w : MethodView) × In w vs × (replaces T w.id v.id ≡ true)
  in_replaced v [] e = cc
  in_replaced v (u ∷ us) e = by (replaces T u.id v.id) refl (λ k. in_replaced v us k) e
    where
      by : (b : Bool) → replaces T u.id v.id ≡ b → (replaced T v us ≡ true → (w : MethodView) × In w us × (replaces T w.id v.id ≡ true)) → (b || replaced T v us) ≡ true → (w : MethodView) × In w (u ∷ us) × (replaces T w.id v.id ≡ true)
      by true f g e = (u, inl refl, f)
      by false f g e = let rest = g e in (rest.0, inr rest.1, rest.2)

  in_without : (all vs : List MethodView) (v : MethodView) → In v (without_replaced T all vs) → In v vs × (replaced T v all ≡ false)
  in_without all [] v h = absurd h
  in_without all (w ∷ ws) v h = by (replaced T w all) refl (in_either v (cond (replaced T w all) [] (w ∷ [])) (without_replaced T all ws) h) (λ h. in_without all ws v h)
    where
      by : (r : Bool) → replaced T w all ≡ r → In v (cond r [] (w ∷ [])) ⊎ In v (without_replaced T all ws) → (In v (without_replaced T all ws) → In v ws × (replaced T v all ≡ false)) → In v (w ∷ ws) × (replaced T v all ≡ false)
      by true f (inl h) g = absurd h
      by false f (inl (inl e)) g = (inl e, ap (λ u. replaced T u all) e ∙ f)
      by false f (inl (inr h)) g = absurd h
      by true f (inr h) g = let rest = g h in (inr rest.0, rest.1)
      by false f (inr h) g = let rest = g h in (inr rest.0, rest.1)

  pub without_in : (all vs : List MethodView) (v : MethodView) → In v vs → replaced T v all ≡ false → In v (without_replaced T all vs)
  without_in all [] v h e = absurd h
  without_in all (w ∷ ws) v (inl is) e =
      in_left v (cond (replaced T w all) [] (w ∷ [])) (without_replaced T all ws)
      (subst (λ r. In v (cond r [] (w ∷ []))) (sym (ap (λ u. replaced T u all) (sym is) ∙ e)) (inl is))
  without_in all (w ∷ ws) v (inr h) e = in_right v (cond (replaced T w all) [] (w ∷ [])) (without_replaced T all ws) (without_in all ws v h e)

  clash_parts : (v w : MethodView) → clashes T k kept v w ≡ true
      → (bytes_eq (method_name_of T v.id) (method_name_of T w.id) ≡ true) × (not (subsignature T v w) ≡ true) × (erasures_meet T v.id w.id 0 T.methods ≡ true)
  clash_parts v w e =
      let named = bytes_eq (method_name_of T v.id) (method_name_of T w.id) in
      let other = not (subsignature T v w) in
      let unsettled = not (is_settled T k kept v w) in
      let meet = erasures_meet T v.id w.id 0 T.methods in
      let four = and_parts (not (v.id.0 == w.id.0) && named && other && unsettled) meet e in
      let three = and_parts (not (v.id.0 == w.id.0) && named && other) unsettled four.0 in
      let two = and_parts (not (v.id.0 == w.id.0) && named) other three.0 in
      let one = and_parts (not (v.id.0 == w.id.0)) named two.0 in
      (one.1, two.1, four.1)

  -- ---- of one name

  module _ (x : List ℕ) where
    abbrev all : List MethodId
    all = all_named T x

    abbrev group : List Shape
    group = group_named T x

    named : (v : MethodView) → Has v → method_name_of T v.id ≡ x → IsNamed T x v.id
    named v h e = record { within = h.within; name = e }

    abbrev shape : MethodId → Shape
    shape m = shape_of T all m

    replaced_there : (v : MethodView) → Has v → method_name_of T v.id ≡ x → replaced T v every ≡ is_replaced T k (shape v.id)
    replaced_there v h e = as_true (replaced T v every) (is_replaced T k (shape v.id)) there back
      where
        there : replaced T v every ≡ true → is_replaced T k (shape v.id) ≡ true
        there f =
            let found = in_replaced v every f in
            let w = found.0 in
            let has : Has w = has_of w found.1 in
            let wn : method_name_of T w.id ≡ x = replaces_named T w.id v.id found.2 ∙ e in
            any_in (belongs T k) w.id (above_in T v.id all) (in_above T v.id w.id all (in_named T x w.id (named w has wn)) found.2) (has_belongs w has)

        back : is_replaced T k (shape v.id) ≡ true → replaced T v every ≡ true
        back f =
            let found = in_any (belongs T k) (above_in T v.id all) f in
            let w = found.0 in
            let above = above_told T v.id w all found.1 in
            let at = belongs_has w (named_in T x w above.0).within found.2 in
            replaced_in v at.view every (of_has at.view at.has) (ap (λ n. replaces T n v.id) at.is ∙ above.1)

    among_told : (w : MethodView) → Has w → method_name_of T w.id ≡ x → is_among w.id kept ≡ not (is_replaced T k (shape w.id))
    among_told w h e = as_true (is_among w.id kept) (not (is_replaced T k (shape w.id))) there back
      where
        there : is_among w.id kept ≡ true → not (is_replaced T k (shape w.id)) ≡ true
        there f =
            let found = in_any (λ (u : MethodView). u.id.0 == w.id.0) kept f in
            let u = found.0 in
            let inside = in_without every every u found.1 in
            let same : u.id ≡ w.id = ap (λ j. record { 0 = j }) (equal_numbers u.id.0 w.id.0 found.2) in
            ap not (ap (λ i. is_replaced T k (shape i)) (sym same) ∙ sym (replaced_there u (has_of u inside.0) (ap (method_name_of T) same ∙ e)) ∙ inside.1)

        back : not (is_replaced T k (shape w.id)) ≡ true → is_among w.id kept ≡ true
        back f =
            any_in (λ (u : MethodView). u.id.0 == w.id.0) w kept
            (without_in every every w (of_has w h) (replaced_there w h e ∙ not_false (is_replaced T k (shape w.id)) f)) (self_equal w.id.0)

    -- a clash by its ids
    clash_told : (v w : MethodView) → Has v → Has w → method_name_of T v.id ≡ x → method_name_of T w.id ≡ x → clash_at T k (shape v.id) (shape w.id) ≡ clashes T k kept v w
    unfolding clash_at
    clash_told v w hv hw ev ew =
        ap (λ b. not (v.id.0 == w.id.0) && b && belongs T k w.id && views_clash T k (shape w.id) (class_view T k v.id) (class_view T k w.id)) (meet_told T v.id w.id x (named v hv ev) (named w hw ew))
        ∙ ap (λ b. not (v.id.0 == w.id.0) && erasures_meet T v.id w.id 0 T.methods && b && views_clash T k (shape w.id) (class_view T k v.id) (class_view T k w.id)) (has_belongs w hw)
        ∙ ap (λ o. not (v.id.0 == w.id.0) && erasures_meet T v.id w.id 0 T.methods && true && views_clash T k (shape w.id) o (class_view T k w.id)) hv.view
        ∙ ap (λ o. not (v.id.0 == w.id.0) && erasures_meet T v.id w.id 0 T.methods && true && views_clash T k (shape w.id) (Some v) o) hw.view
        ∙ ap (λ b. not (v.id.0 == w.id.0) && erasures_meet T v.id w.id 0 T.methods && true && (not (subsignature T v w) && not (not (same_class (owner T v.id) k) && b && subsignature T w v && (not (with_body T v) || with_body T w)))) (sym (among_told w hw ew))
        ∙ turned (not (v.id.0 == w.id.0)) (erasures_meet T v.id w.id 0 T.methods) (not (subsignature T v w)) (not (is_settled T k kept v w))
        ∙ ap (λ b. not (v.id.0 == w.id.0) && b && not (subsignature T v w) && not (is_settled T k kept v w) && erasures_meet T v.id w.id 0 T.methods) (sym (ap (λ y. bytes_eq y (method_name_of T w.id)) (ev ∙ sym ew) ∙ own_bytes (method_name_of T w.id)))
      where
        unit : (d : Bool) → d ≡ (d && true)
        unit true = refl
        unit false = refl

        none : (d : Bool) → false ≡ (d && false)
        none true = refl
        none false = refl

        turned : (a b c d : Bool) → (a && b && true && (c && d)) ≡ (a && true && c && d && b)
        turned true true c d = unit (c && d)
        turned true false c d = none (c && d)
        turned false b c d = refl

    beyond : (m n : MethodId) → clash_at T k (shape m) (shape n) ≡ true → belongs T k n ≡ true
    unfolding clash_at
    beyond m n e =
        let views = views_clash T k (shape n) (class_view T k m) (class_view T k n) in
        let first = not (m.0 == n.0) && share_some (erasures_within T all (length T.methods) m) (erasures_within T all (length T.methods) n) in
        (and_parts first (belongs T k n) (and_parts (first && belongs T k n) views e).0).1

    -- what a method overrides or hides doesn't clash with it in its own class
    overridden_clear : (m n : MethodId) → same_class (owner T m) k ≡ true → replaces T m n ≡ true → clash_at T k (shape m) (shape n) ≡ false
    unfolding clash_at
    overridden_clear m n e r =
        and_right (not (m.0 == n.0) && share_some (erasures_within T all (length T.methods) m) (erasures_within T all (length T.methods) n) && belongs T k n)
        (views_clash T k (shape n) (class_view T k m) (class_view T k n)) (by (class_view T k m) (class_view T k n) signed)
      where
        is : owner T m ≡ k
        is = ap (λ j. record { 0 = j }) (equal_numbers (owner T m).0 k.0 e)

        signed : subsignature_of T (class_view T k m) (class_view T k n) ≡ true
        signed = subst (λ c. subsignature_of T (class_view T c m) (class_view T c n) ≡ true) is (replaces_signed T m n r)

        by : (a b : Option MethodView) → subsignature_of T a b ≡ true → views_clash T k (shape n) a b ≡ false
        by None b s = refl
        by (Some a) None s = refl
        by (Some a) (Some b) s = ap (λ c. not c && not (settles T k (shape n) a b)) s

    -- fixed methods of one name don't clash
    fixed_at : (j : MethodId) → fixed_name T x ≡ true → IsNamed T x j → is_fixed T j ≡ true
    fixed_at j fixed h = fixed_of T j all fixed (in_named T x j h)

    fixed_step : (q p : MethodId) → is_fixed T q ≡ true → is_fixed T p ≡ true → replaces T q p ≡ true → erased_params T q ≡ erased_params T p
    fixed_step q p eq ep r = by (class_view T (owner T q) q) (class_view T (owner T q) p) refl refl (replaces_signed T q p r)
      where
        by : (a b : Option MethodView) → class_view T (owner T q) q ≡ a → class_view T (owner T q) p ≡ b → subsignature_of T a b ≡ true → erased_params T q ≡ erased_params T p
        by None b f g s = cc
        by (Some a) None f g s = cc
        by (Some a) (Some b) f g s = same_erasure T (owner T q) q p a b eq ep f g s

    -- a method of the name, where it is one of the table, with the erasure of m
    record FixedLike (m p : MethodId) : Type 0 where
      pub name : method_name_of T p ≡ x
      pub same : p.0 < length T.methods → erased_params T m ≡ erased_params T p

    fixed_erasure : (m i : MethodId) → fixed_name T x ≡ true → IsNamed T x m → IsNamed T x i → reaches T m i ≡ true → erased_params T m ≡ erased_params T i
    fixed_erasure m i fixed hm hi e = (reached_told T m (FixedLike m) (record { name = hm.name; same = λ lt. refl }) next i e).same hi.within
      where
        next : (q p : MethodId) → q.0 < length T.methods → FixedLike m q → replaces T q p ≡ true → FixedLike m p
        next q p within like r =
            let name : method_name_of T p ≡ x = sym (replaces_named T q p r) ∙ like.name in
            record {
              name = name;
              same = λ lt. like.same within ∙ fixed_step q p (fixed_at q fixed (record { within = within; name = like.name })) (fixed_at p fixed (record { within = lt; name = name })) r;
            }

    fixed_clear : fixed_name T x ≡ true → (v w : MethodView) → Has v → Has w → method_name_of T v.id ≡ x → method_name_of T w.id ≡ x → clashes T k kept v w ≡ true → ⊥
    fixed_clear fixed v w hv hw ev ew e =
        let parts = clash_parts v w e in
        let meet : Meeting T v.id w.id x = meeting_of T v.id w.id x ev ew parts.2 in
        let left = fixed_erasure v.id meet.left fixed (named v hv ev) meet.left_named meet.left_below in
        let right = fixed_erasure w.id meet.right fixed (named w hw ew) meet.right_named meet.right_below in
        let same : erased_params T v.id ≡ erased_params T w.id = left ∙ all_same (erased_params T meet.left) (erased_params T meet.right) meet.same ∙ sym right in
        not_both (subsignature T v w)
        (same_fixed T k v.id w.id v w (fixed_of T v.id all fixed (in_named T x v.id (named v hv ev))) (fixed_of T w.id all fixed (in_named T x w.id (named w hw ew))) hv.view hw.view parts.0 same)
        (not_false (subsignature T v w) parts.1)

  -- ---- a class's breaks

  module _ (place : Place) (b : Refusal) where
    -- a break of two methods that the class has
    record Clash : Type 0 where
      pub one : MethodView
      pub other : MethodView
      pub member : In one kept
      pub has : In other every
      pub broken : IsOf b (broken_if (clashes T k kept one other) 801 (clash_place T k place one.id other.id))

    pair_of : (v : MethodView) (ws : List MethodView) → IsOf b (pairs_broken T k place kept v ws) → (w : MethodView) × In w ws × IsOf b (broken_if (clashes T k kept v w) 801 (clash_place T k place v.id w.id))
    pair_of v [] h = absurd h
    pair_of v (w ∷ ws) h = by (of_either b (broken_if (clashes T k kept v w) 801 (clash_place T k place v.id w.id)) (pairs_broken T k place kept v ws) h) (λ h. pair_of v ws h)
      where
        by : IsOf b (broken_if (clashes T k kept v w) 801 (clash_place T k place v.id w.id)) ⊎ IsOf b (pairs_broken T k place kept v ws)
            → (IsOf b (pairs_broken T k place kept v ws) → (u : MethodView) × In u ws × IsOf b (broken_if (clashes T k kept v u) 801 (clash_place T k place v.id u.id)))
            → (u : MethodView) × In u (w ∷ ws) × IsOf b (broken_if (clashes T k kept v u) 801 (clash_place T k place v.id u.id))
        by (inl h) g = (w, inl refl, h)
        by (inr h) g = let rest = g h in (rest.0, inr rest.1, rest.2)

    member_of : (vs : List MethodView) → IsOf b (members_broken T k place every kept vs) → (v : MethodView) × In v vs × IsOf b (pairs_broken T k place kept v every)
    member_of [] h = absurd h
    member_of (v ∷ vs) h = by (of_either b (pairs_broken T k place kept v every) (members_broken T k place every kept vs) h) (λ h. member_of vs h)
      where
        by : IsOf b (pairs_broken T k place kept v every) ⊎ IsOf b (members_broken T k place every kept vs)
            → (IsOf b (members_broken T k place every kept vs) → (u : MethodView) × In u vs × IsOf b (pairs_broken T k place kept u every))
            → (u : MethodView) × In u (v ∷ vs) × IsOf b (pairs_broken T k place kept u every)
        by (inl h) g = (v, inl refl, h)
        by (inr h) g = let rest = g h in (rest.0, inr rest.1, rest.2)

    of_pair : (v w : MethodView) (ws : List MethodView) → In w ws → IsOf b (broken_if (clashes T k kept v w) 801 (clash_place T k place v.id w.id)) → IsOf b (pairs_broken T k place kept v ws)
    of_pair v w [] h m = absurd h
    of_pair v w (u ∷ us) (inl is) m =
        of_left b (broken_if (clashes T k kept v u) 801 (clash_place T k place v.id u.id)) (pairs_broken T k place kept v us)
        (subst (λ (z : MethodView). IsOf b (broken_if (clashes T k kept v z) 801 (clash_place T k place v.id z.id))) is m)
    of_pair v w (u ∷ us) (inr h) m = of_right b (broken_if (clashes T k kept v u) 801 (clash_place T k place v.id u.id)) (pairs_broken T k place kept v us) (of_pair v w us h m)

    of_member : (v : MethodView) (vs : List MethodView) → In v vs → IsOf b (pairs_broken T k place kept v every) → IsOf b (members_broken T k place every kept vs)
    of_member v [] h m = absurd h
    of_member v (u ∷ us) (inl is) m =
        of_left b (pairs_broken T k place kept u every) (members_broken T k place every kept us) (subst (λ z. IsOf b (pairs_broken T k place kept z every)) is m)
    of_member v (u ∷ us) (inr h) m = of_right b (pairs_broken T k place kept u every) (members_broken T k place every kept us) (of_member v us h m)

    clash_of : IsOf b (members_broken T k place every kept kept) → Clash
    clash_of h =
        let first = member_of kept h in
        let second = pair_of first.0 every first.2 in
        record { one = first.0; other = second.0; member = first.1; has = second.1; broken = second.2 }

    of_clash : Clash → IsOf b (members_broken T k place every kept kept)
    of_clash h = of_member h.one kept h.member (of_pair h.one h.other every h.has h.broken)

    -- .. and one that is found name by name
    module _ (all : List Shape) where
      beside_of : (s : Shape) (marks : List Bool) (us : List Shape) → IsOf b (beside_broken T k place s marks us) → (u : Shape) × In u us × IsOf b (broken_if (clash_at T k s u) 801 (shape_place T k place s.id u))
      beside_of s marks [] h = absurd h
      beside_of s marks (u ∷ us) h =
          by (first_mark marks) (of_either b (cond (first_mark marks) [] (broken_if (clash_at T k s u) 801 (shape_place T k place s.id u))) (beside_broken T k place s (behind_first marks) us) h)
          (λ h. beside_of s (behind_first marks) us h)
        where
          by : (c : Bool) → IsOf b (cond c [] (broken_if (clash_at T k s u) 801 (shape_place T k place s.id u))) ⊎ IsOf b (beside_broken T k place s (behind_first marks) us)
              → (IsOf b (beside_broken T k place s (behind_first marks) us) → (t : Shape) × In t us × IsOf b (broken_if (clash_at T k s t) 801 (shape_place T k place s.id t)))
              → (t : Shape) × In t (u ∷ us) × IsOf b (broken_if (clash_at T k s t) 801 (shape_place T k place s.id t))
          by true (inl h) g = absurd h
          by false (inl h) g = (u, inl refl, h)
          by true (inr h) g = let rest = g h in (rest.0, inr rest.1, rest.2)
          by false (inr h) g = let rest = g h in (rest.0, inr rest.1, rest.2)

      of_rest : (s u : Shape) (us : List Shape) → In u us → IsOf b (broken_if (clash_at T k s u) 801 (shape_place T k place s.id u)) → IsOf b (beside_broken T k place s [] us)
      of_rest s u [] h m = absurd h
      of_rest s u (t ∷ us) (inl is) m =
          of_left b (broken_if (clash_at T k s t) 801 (shape_place T k place s.id t)) (beside_broken T k place s [] us)
          (subst (λ (z : Shape). IsOf b (broken_if (clash_at T k s z) 801 (shape_place T k place s.id z))) is m)
      of_rest s u (t ∷ us) (inr h) m = of_right b (broken_if (clash_at T k s t) 801 (shape_place T k place s.id t)) (beside_broken T k place s [] us) (of_rest s u us h m)

      member_at : (s : Shape) → IsOf b (member_broken T k place all s) → (is_member T k s ≡ true) × IsOf b (beside_broken T k place s (passed_over T k s) all)
      member_at s h = by (is_member T k s) h
        where
          by : (c : Bool) → IsOf b (cond c (beside_broken T k place s (passed_over T k s) all) []) → (c ≡ true) × IsOf b (beside_broken T k place s (passed_over T k s) all)
          by true h = (refl, h)
          by false h = absurd h

      at_member : (s : Shape) → is_member T k s ≡ true → IsOf b (beside_broken T k place s (passed_over T k s) all) → IsOf b (member_broken T k place all s)
      at_member s e h = subst (λ c. IsOf b (cond c (beside_broken T k place s (passed_over T k s) all) [])) (sym e) h

      group_of : (ss : List Shape) → IsOf b (group_broken T k place all ss) → (s : Shape) × In s ss × IsOf b (member_broken T k place all s)
      group_of [] h = absurd h
      group_of (s ∷ ss) h = by (of_either b (member_broken T k place all s) (group_broken T k place all ss) h) (λ h. group_of ss h)
        where
          by : IsOf b (member_broken T k place all s) ⊎ IsOf b (group_broken T k place all ss) → (IsOf b (group_broken T k place all ss) → (t : Shape) × In t ss × IsOf b (member_broken T k place all t))
              → (t : Shape) × In t (s ∷ ss) × IsOf b (member_broken T k place all t)
          by (inl h) g = (s, inl refl, h)
          by (inr h) g = let rest = g h in (rest.0, inr rest.1, rest.2)

      of_group : (s : Shape) (ss : List Shape) → In s ss → IsOf b (member_broken T k place all s) → IsOf b (group_broken T k place all ss)
      of_group s [] h m = absurd h
      of_group s (t ∷ ss) (inl is) m = of_left b (member_broken T k place all t) (group_broken T k place all ss) (subst (λ z. IsOf b (member_broken T k place all z)) is m)
      of_group s (t ∷ ss) (inr h) m = of_right b (member_broken T k place all t) (group_broken T k place all ss) (of_group s ss h m)

    module _ (x : List ℕ) (m n : MethodId) (found : IsOf b (broken_if (clash_at T k (shape_of T (all_named T x) m) (shape_of T (all_named T x) n)) 801 (shape_place T k place m (shape_of T (all_named T x) n)))) where
      abbrev ids : List MethodId
      ids = all_named T x

      abbrev pair : MethodId → List Refusal
      pair p = broken_if (clash_at T k (shape_of T ids m) (shape_of T ids p)) 801 (shape_place T k place m (shape_of T ids p))

      of_marked : same_class (owner T m) k ≡ true → (ms : List MethodId) → In n ms → IsOf b (beside_broken T k place (shape_of T ids m) (map (replaces T m) ms) (shapes_of T ids ms))
      of_marked own [] h = absurd h
      of_marked own (p ∷ ms) (inl is) =
          of_left b (cond (replaces T m p) [] (pair p)) (beside_broken T k place (shape_of T ids m) (map (replaces T m) ms) (shapes_of T ids ms)) (by (replaces T m p) refl)
        where
          here : IsOf b (pair p)
          here = subst (λ q. IsOf b (pair q)) is found

          by : (c : Bool) → replaces T m p ≡ c → IsOf b (cond c [] (pair p))
          by true r =
              absurd (not_both (clash_at T k (shape_of T ids m) (shape_of T ids p)) (broken_true b (clash_at T k (shape_of T ids m) (shape_of T ids p)) 801 (shape_place T k place m (shape_of T ids p)) here) (overridden_clear x m p own r))
          by false r = here
      of_marked own (p ∷ ms) (inr h) = of_right b (cond (replaces T m p) [] (pair p)) (beside_broken T k place (shape_of T ids m) (map (replaces T m) ms) (shapes_of T ids ms)) (of_marked own ms h)

      of_beside : In n ids → IsOf b (beside_broken T k place (shape_of T ids m) (passed_over T k (shape_of T ids m)) (group_named T x))
      of_beside h = by (same_class (owner T m) k) refl
        where
          by : (c : Bool) → same_class (owner T m) k ≡ c → IsOf b (beside_broken T k place (shape_of T ids m) (cond c (below_in T ids m) []) (group_named T x))
          by true own = of_marked own ids h
          by false own = of_rest (group_named T x) (shape_of T ids m) (shape_of T ids n) (group_named T x) (shape_in T ids n ids h) found

    groups_of : (gs : List (List Shape)) → IsOf b (groups_broken T k place gs) → (g : List Shape) × In g gs × IsOf b (group_broken T k place g g)
    groups_of [] h = absurd h
    groups_of (g ∷ gs) h = by (of_either b (group_broken T k place g g) (groups_broken T k place gs) h) (λ h. groups_of gs h)
      where
        by : IsOf b (group_broken T k place g g) ⊎ IsOf b (groups_broken T k place gs) → (IsOf b (groups_broken T k place gs) → (f : List Shape) × In f gs × IsOf b (group_broken T k place f f))
            → (f : List Shape) × In f (g ∷ gs) × IsOf b (group_broken T k place f f)
        by (inl h) k = (g, inl refl, h)
        by (inr h) k = let rest = k h in (rest.0, inr rest.1, rest.2)

    of_groups : (g : List Shape) (gs : List (List Shape)) → In g gs → IsOf b (group_broken T k place g g) → IsOf b (groups_broken T k place gs)
    of_groups g [] h m = absurd h
    of_groups g (f ∷ gs) (inl is) m = of_left b (group_broken T k place f f) (groups_broken T k place gs) (subst (λ z. IsOf b (group_broken T k place z z)) is m)
    of_groups g (f ∷ gs) (inr h) m = of_right b (group_broken T k place f f) (groups_broken T k place gs) (of_groups g gs h m)

    -- what is found is a clash
    found_clash : IsOf b (groups_broken T k place (groups T)) → Clash
    found_clash h =
        let first = groups_of (groups T) h in
        let named = group_told T first.0 first.1 in
        by named.0 (subst (λ g. IsOf b (group_broken T k place g g)) named.1 first.2)
      where
        by_ids : (x : List ℕ) (m n : MethodId) → IsNamed T x m → IsNamed T x n → is_member T k (shape_of T (all_named T x) m) ≡ true
            → IsOf b (broken_if (clash_at T k (shape_of T (all_named T x) m) (shape_of T (all_named T x) n)) 801 (clash_place T k place m n)) → Clash
        by_ids x m n hm hn e found =
            let group = group_named T x in
            let ids = all_named T x in
            let member = and_parts (belongs T k m) (not (is_replaced T k (shape_of T ids m))) e in
            let v = belongs_has m hm.within member.0 in
            let w = belongs_has n hn.within (beyond x m n (broken_true b (clash_at T k (shape_of T ids m) (shape_of T ids n)) 801 (clash_place T k place m n) found)) in
            let ev : method_name_of T v.view.id ≡ x = ap (method_name_of T) v.is ∙ hm.name in
            let ew : method_name_of T w.view.id ≡ x = ap (method_name_of T) w.is ∙ hn.name in
            let out : replaced T v.view every ≡ false = replaced_there x v.view v.has ev ∙ ap (λ i. is_replaced T k (shape_of T ids i)) v.is ∙ not_false (is_replaced T k (shape_of T ids m)) member.1 in
            record {
              one = v.view;
              other = w.view;
              member = without_in every every v.view (of_has v.view v.has) out;
              has = of_has w.view w.has;
              broken = subst (λ c. IsOf b (broken_if c 801 (clash_place T k place v.view.id w.view.id))) (clash_told x v.view w.view v.has w.has ev ew)
                  (subst (λ i. IsOf b (broken_if (clash_at T k (shape_of T ids v.view.id) (shape_of T ids i)) 801 (clash_place T k place v.view.id i))) (sym w.is)
                  (subst (λ i. IsOf b (broken_if (clash_at T k (shape_of T ids i) (shape_of T ids n)) 801 (clash_place T k place i n))) (sym v.is) found));
            }

        by : (x : List ℕ) → IsOf b (group_broken T k place (group_named T x) (group_named T x)) → Clash
        by x h =
            let ids = all_named T x in
            let group = group_named T x in
            let second = group_of group group h in
            let s = of_shape T ids second.0 ids second.1 in
            let m = s.0 in
            let at = member_at group (shape_of T ids m) (subst (λ z. IsOf b (member_broken T k place group z)) s.2 second.2) in
            let third = beside_of group (shape_of T ids m) (passed_over T k (shape_of T ids m)) group at.1 in
            let u = of_shape T ids third.0 ids third.1 in
            let n = u.0 in
            let shaped : IsOf b (broken_if (clash_at T k (shape_of T ids m) (shape_of T ids n)) 801 (shape_place T k place m (shape_of T ids n))) =
            subst (λ (z : Shape). IsOf b (broken_if (clash_at T k (shape_of T ids m) z) 801 (shape_place T k place m z))) u.2 third.2 in
            let found : IsOf b (broken_if (clash_at T k (shape_of T ids m) (shape_of T ids n)) 801 (clash_place T k place m n)) =
            subst (λ p. IsOf b (broken_if (clash_at T k (shape_of T ids m) (shape_of T ids n)) 801 p)) (place_told T k x n (named_in T x n u.1).name place m) shaped in
            by_ids x m n (named_in T x m s.1) (named_in T x n u.1) at.0 found

    -- .. and each is found
    clash_found : Clash → IsOf b (groups_broken T k place (groups T))
    clash_found h =
        let v = h.one in
        let w = h.other in
        let x = method_name_of T v.id in
        let inside = in_without every every v h.member in
        let hv = has_of v inside.0 in
        let hw = has_of w h.has in
        let clash = broken_true b (clashes T k kept v w) 801 (clash_place T k place v.id w.id) h.broken in
        let ew : method_name_of T w.id ≡ x = sym (same_bytes (method_name_of T v.id) (method_name_of T w.id) (clash_parts v w clash).0) in
        let hard : fixed_name T x ≡ false = is_false (fixed_name T x) (λ e. fixed_clear x e v w hv hw refl ew clash) in
        let ids = all_named T x in
        let group = group_named T x in
        let member : is_member T k (shape_of T ids v.id) ≡ true =
        and_from (belongs T k v.id) (not (is_replaced T k (shape_of T ids v.id))) (has_belongs v hv) (ap not (sym (replaced_there x v hv refl) ∙ inside.1)) in
        let found : IsOf b (broken_if (clash_at T k (shape_of T ids v.id) (shape_of T ids w.id)) 801 (shape_place T k place v.id (shape_of T ids w.id))) =
        subst (λ p. IsOf b (broken_if (clash_at T k (shape_of T ids v.id) (shape_of T ids w.id)) 801 p)) (sym (place_told T k x w.id ew place v.id))
        (subst (λ c. IsOf b (broken_if c 801 (clash_place T k place v.id w.id))) (sym (clash_told x v w hv hw refl ew)) h.broken) in
        of_groups group (groups T) (group_in T x v.id (named x v hv refl) hard)
        (of_group group (shape_of T ids v.id) group (shape_in T ids v.id ids (in_named T x v.id (named x v hv refl)))
        (at_member group (shape_of T ids v.id) member
        (of_beside x v.id w.id found (in_named T x w.id (named x w hw ew)))))

-- ---- all classes

each_of : {X : Type 0} (f g : ℕ → X → List Refusal) (b : Refusal) → ((i : ℕ) (x : X) → IsOf b (f i x) → IsOf b (g i x)) → (i : ℕ) (xs : List X) → IsOf b (of_each f i xs) → IsOf b (of_each g i xs)
each_of f g b h i [] m = m
each_of f g b h i (x ∷ xs) m = by (of_either b (f i x) (of_each f (suc i) xs) m) (λ m. each_of f g b h (suc i) xs m)
  where
    by : IsOf b (f i x) ⊎ IsOf b (of_each f (suc i) xs) → (IsOf b (of_each f (suc i) xs) → IsOf b (of_each g (suc i) xs)) → IsOf b (g i x ++ of_each g (suc i) xs)
    by (inl m) k = of_left b (g i x) (of_each g (suc i) xs) (h i x m)
    by (inr m) k = of_right b (g i x) (of_each g (suc i) xs) (k m)

module _ (T : Table) where
  class_there : (b : Refusal) (i : ℕ) (c : ClassDecl) → IsOf b (class_clashes T (groups T) i c) → IsOf b (clashes_in T i c)
  class_there b i c m = of_clash T (record { 0 = i }) c.place b (found_clash T (record { 0 = i }) c.place b m)

  class_back : (b : Refusal) (i : ℕ) (c : ClassDecl) → IsOf b (clashes_in T i c) → IsOf b (class_clashes T (groups T) i c)
  class_back b i c m = clash_found T (record { 0 = i }) c.place b (clash_of T (record { 0 = i }) c.place b m)

  abbrev found_clashes : List Refusal
  found_clashes = of_each (class_clashes T (groups T)) 0 T.classes

  all_there : (b : Refusal) → IsOf b (found_clashes ++ constructors_breaks T) → IsOf b (all_clashes T)
  all_there b m = by (of_either b found_clashes (constructors_breaks T) m)
    where
      by : IsOf b found_clashes ⊎ IsOf b (constructors_breaks T) → IsOf b (all_clashes T)
      by (inl m) = of_left b (clashes_breaks T) (constructors_breaks T) (each_of (class_clashes T (groups T)) (clashes_in T) b (class_there b) 0 T.classes m)
      by (inr m) = of_right b (clashes_breaks T) (constructors_breaks T) m

  all_back : (b : Refusal) → IsOf b (all_clashes T) → IsOf b (found_clashes ++ constructors_breaks T)
  all_back b m = by (of_either b (clashes_breaks T) (constructors_breaks T) m)
    where
      by : IsOf b (clashes_breaks T) ⊎ IsOf b (constructors_breaks T) → IsOf b (found_clashes ++ constructors_breaks T)
      by (inl m) = of_left b found_clashes (constructors_breaks T) (each_of (clashes_in T) (class_clashes T (groups T)) b (class_back b) 0 T.classes m)
      by (inr m) = of_right b found_clashes (constructors_breaks T) m

  least_told : (r : Option Refusal) → r ≡ least None (found_clashes ++ constructors_breaks T) → LeastOf (λ b. IsOf b (all_clashes T)) r
  least_told r e =
      told (λ b. IsOf b (found_clashes ++ constructors_breaks T)) (λ b. IsOf b (all_clashes T)) r all_there all_back
      (subst (LeastOf (λ b. IsOf b (found_clashes ++ constructors_breaks T))) (sym e) (least_of (found_clashes ++ constructors_breaks T)))

  first_of : (r : Option Refusal) → LeastOf (λ b. IsOf b (all_clashes T)) r → IsFirstClash T r
  first_of None h = none (all_clashes T) h
    where
      none : (bs : List Refusal) → ((b : Refusal) → IsOf b bs → ⊥) → bs ≡ []
      none [] h = refl
      none (b ∷ bs) h = absurd (h b (inl refl))
  first_of (Some b) h = h

  pub first_told : (r one : Option Refusal) (gs : List (List Shape)) → gs ≡ groups T → one ≡ least None (of_each (class_clashes T gs) 0 T.classes) → r ≡ least one (constructors_breaks T) → IsFirstClash T r
  first_told r one gs e f g =
      first_of r
      (least_told r
      (g ∙ ap (λ o. least o (constructors_breaks T)) (f ∙ ap (λ gs. least None (of_each (class_clashes T gs) 0 T.classes)) e) ∙ sym (least_append None found_clashes (constructors_breaks T))))

pub ruleset clashes_told = (first_told)
