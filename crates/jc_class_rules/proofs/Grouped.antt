-- The members of a class agree where those of each name do.
use Rattle.std.proofs.lemmas.Bool.Decides.{nat_tests}
use Rattle.std.proofs.Common.{◌≡◌, ◌⊎◌, inl, inr, nat_eq, ℕ, zero, suc, ◌+◌, ◌<◌, ◌≤◌, ◌==◌, arith, Bool, true, false, not, ◌&&◌, ◌||◌, cond, Option, Some, None, List, [], ◌∷◌, ◌++◌, length, refl, sym, ap, subst, ◌∙◌}
use Rattle.std.specs.List.{list_any}
use Rattle.std.specs.Option.{option_to_list}
use Rattle.std.specs.Str.{bytes_eq}
use Rattle.std.proofs.lemmas.Bool.{and_right}
use Rattle.jc_rules.proofs.Truths.{same_bytes, own_bytes, other_bytes, self_equal, equal_numbers}
use Rattle.jc_types.specs.declared.declarations.MethodDecl.{MethodDecl}
use Rattle.jc_types.specs.declared.form.Ty.{Ty}
use Rattle.jc_types.specs.declared.ids.ClassId.{ClassId}
use Rattle.jc_types.specs.declared.ids.MethodId.{MethodId}
use Rattle.jc_types.specs.declared.table.Table.{Table}
use Rattle.jc_types.specs.Accessors.{method_name_of, method_owner_of}
use Rattle.jc_types.specs.Names.{named}
use Rattle.jc_judge.specs.declared.question.Answer.{Answer}
use Rattle.jc_judge.specs.declared.question.Answer.TheVariants.{Yes, No}
use Rattle.jc_judge.specs.Trees.{both, either}
use Rattle.jc_judge.specs.Views.{view}
use Rattle.jc_overriding.specs.declared.view.MethodView.{MethodView}
use Rattle.jc_overriding.specs.Overriding.{candidates, candidates_from, has_name, hides, is_above, is_candidate, is_inheritable, is_instance, is_method, is_viewed, members, or_object, overrides, owner, remaining, replaced, same_class, subsignature_of, with_view, without_replaced}
use Rattle.jc_overriding.specs.Signatures.{is_erasure, override_equivalent, same_signature, subsignature}
use Rattle.jc_overriding.specs.Viewing.{class_view, is_static, own_type, view_of_method, view_of_owner, viewed_in}
use Rattle.jc_header_rules.specs.Inheriting.{agreement, agreements, all_members, disagrees, meets, meets_body, members_disagree, one_stands, stands_for_all, with_body}
use Rattle.jc_header_rules.specs.Results.{result_answer}
use Rattle.jc_members.specs.Below.{replaces}
use Rattle.jc_members.specs.declared.named.MethodIndex.{MethodIndex}
use Rattle.jc_members.specs.Listing.{candidate_ids, has_method, if_candidate, remaining_ids, remaining_in, replaced_by, views_of}
use Rattle.jc_members.specs.Named.{IsMethodIndex, all_named, group_at, named_from}
use Rattle.jc_members.proofs.Remaining.{id_of_view, members_told}
use Rattle.jc_members.proofs.Replacing.{hides_told, overrides_told, own_below}
use Rattle.jc_members.proofs.Standing.{unnamed}
use Rattle.jc_method_rules.specs.Owned.{ids_of, is_standing, picked, standing, stands_in}
use Rattle.jc_class_rules.specs.Grouping.{HasSeen, all_answers, all_covered, all_from, are_covered, disagrees_some, fitting, ids_agree, is_covered, is_marked, marked_with, meets_badly, name_agrees, no_if, one_at, own_ids, own_replaces, stands_at, with_name}
use Rattle.jc_class_rules.proofs.Joined.{all_told, both_assoc, both_comm, both_self}

-- ---- lists

abbrev In : {X : Type 0} → X → List X → Type 0
In x [] = ⊥
In x (y ∷ ys) = (x ≡ y) ⊎ In x ys

in_left : {X : Type 0} (x : X) (xs ys : List X) → In x xs → In x (xs ++ ys)
in_left x [] ys m = absurd m
in_left x (y ∷ xs) ys (inl e) = inl e
in_left x (y ∷ xs) ys (inr m) = inr (in_left x xs ys m)

in_right : {X : Type 0} (x : X) (xs ys : List X) → In x ys → In x (xs ++ ys)
in_right x [] ys m = m
in_right x (y ∷ xs) ys m = inr (in_right x xs ys m)

in_either : {X : Type 0} (x : X) (xs ys : List X) → In x (xs ++ ys) → In x xs ⊎ In x ys
in_either x [] ys m = inr m
in_either x (y ∷ xs) ys (inl e) = inl (inl e)
in_either x (y ∷ xs) ys (inr m) = by (in_either x xs ys m)
  where
    by : In x xs ⊎ In x ys → In x (y ∷ xs) ⊎ In x ys
    by (inl m) = inl (inr m)
    by (inr m) = inr m

-- ---- all answers

-- each of them is below all
upper : {X : Type 0} (f : X → Answer) (x : X) (xs : List X) → In x xs → both (f x) (all_answers f xs) ≡ all_answers f xs
upper f x [] m = absurd m
upper f x (y ∷ ys) (inl e) =
    ap (λ z. both (f z) (both (f y) (all_answers f ys))) e ∙ sym (both_assoc (f y) (f y) (all_answers f ys)) ∙ ap (λ a. both a (all_answers f ys)) (both_self (f y))
upper f x (y ∷ ys) (inr m) =
    sym (both_assoc (f x) (f y) (all_answers f ys)) ∙ ap (λ a. both a (all_answers f ys)) (both_comm (f x) (f y)) ∙ both_assoc (f y) (f x) (all_answers f ys)
    ∙ ap (both (f y)) (upper f x ys m)

lowest : {X : Type 0} (f : X → Answer) (xs : List X) (c : Answer) → ((x : X) → In x xs → both (f x) c ≡ c) → both (all_answers f xs) c ≡ c
lowest f [] c h = refl
lowest f (y ∷ ys) c h = both_assoc (f y) (all_answers f ys) c ∙ ap (both (f y)) (lowest f ys c (λ x m. h x (inr m))) ∙ h y (inl refl)

as_low : (a b : Answer) → both a b ≡ b → both b a ≡ a → a ≡ b
as_low a b e f = sym f ∙ both_comm b a ∙ e

four : (a b c d : Answer) → both (both a b) (both c d) ≡ both (both a c) (both b d)
four a b c d =
    both_assoc a b (both c d) ∙ ap (both a) (sym (both_assoc b c d) ∙ ap (λ x. both x d) (both_comm b c) ∙ both_assoc c b d) ∙ sym (both_assoc a c (both b d))

each_both : {X : Type 0} (f g : X → Answer) (xs : List X) → all_answers (λ x. both (f x) (g x)) xs ≡ both (all_answers f xs) (all_answers g xs)
each_both f g [] = refl
each_both f g (x ∷ xs) = ap (both (both (f x) (g x))) (each_both f g xs) ∙ four (f x) (g x) (all_answers f xs) (all_answers g xs)

no_either : (a b : Bool) → both (no_if a) (no_if b) ≡ no_if (a || b)
no_either true b = refl
no_either false b = refl

each_no : {X : Type 0} (f : X → Bool) (xs : List X) → all_answers (λ x. no_if (f x)) xs ≡ no_if (list_any f xs)
each_no f [] = refl
each_no f (x ∷ xs) = ap (both (no_if (f x))) (each_no f xs) ∙ no_either (f x) (list_any f xs)

-- ---- names

-- those that have this name
abbrev named_only : Table → List ℕ → List MethodView → List MethodView
named_only T x [] = []
named_only T x (v ∷ vs) = cond (has_name T x v.id) (v ∷ []) [] ++ named_only T x vs

module _ (T : Table) (x : List ℕ) (v w : MethodView) (named : has_name T x v.id ≡ true) (other : has_name T x w.id ≡ false) where
  name_of : method_name_of T v.id ≡ x
  name_of = same_bytes (method_name_of T v.id) x named

  away : bytes_eq (method_name_of T w.id) (method_name_of T v.id) ≡ false
  away = ap (bytes_eq (method_name_of T w.id)) name_of ∙ other

  turned : bytes_eq (method_name_of T v.id) (method_name_of T w.id) ≡ false
  turned = other_bytes (method_name_of T w.id) (method_name_of T v.id) away

  not_equivalent : override_equivalent T v w ≡ false
  not_equivalent =
      ap (λ b. (b && (same_signature v w || is_erasure T v w)) || subsignature T w v) turned ∙ ap (λ b. b && (same_signature w v || is_erasure T w v)) away

  not_meeting : (k : ClassId) → meets T k v w ≡ false
  not_meeting k = and_right (not (v.id.0 == w.id.0) && not (same_class (owner T v.id) k) && not (same_class (owner T w.id) k)) (override_equivalent T v w) not_equivalent

  not_below : own_below T w.id v.id ≡ false
  not_below =
      and_right (is_above T (owner T w.id) (owner T v.id) && is_inheritable T (owner T w.id) v.id) (subsignature_of T (class_view T (owner T w.id) w.id) (class_view T (owner T w.id) v.id))
      (unnamed T (owner T w.id) w.id v.id away)

  not_overridden : overrides T w.id v.id ≡ false
  not_overridden = overrides_told T w.id v.id ∙ and_right (is_instance T w.id && is_instance T v.id) (own_below T w.id v.id) not_below

  not_hidden : hides T w.id v.id ≡ false
  not_hidden = hides_told T w.id v.id ∙ and_right (is_method T w.id && is_method T v.id && is_static T w.id && is_static T v.id) (own_below T w.id v.id) not_below

-- ---- what is asked of a member, beside those of its name

module _ (T : Table) (x : List ℕ) where
  any_named : (f : MethodView → Bool) → ((w : MethodView) → has_name T x w.id ≡ false → f w ≡ false) → (vs : List MethodView) → list_any f (named_only T x vs) ≡ list_any f vs
  any_named f h [] = refl
  any_named f h (w ∷ ws) = by (has_name T x w.id) refl (any_named f h ws)
    where
      by : (b : Bool) → has_name T x w.id ≡ b → list_any f (named_only T x ws) ≡ list_any f ws → list_any f (cond b (w ∷ []) [] ++ named_only T x ws) ≡ (f w || list_any f ws)
      by true e r = ap (λ b. f w || b) r
      by false e r = r ∙ ap (λ b. b || list_any f ws) (sym (h w e))

  module _ (k : ClassId) where
    stands_named : (v : MethodView) → has_name T x v.id ≡ true → (vs : List MethodView) → stands_for_all T k v (named_only T x vs) ≡ stands_for_all T k v vs
    unfolding stands_at
    stands_named v named [] = refl
    stands_named v named (w ∷ ws) = by (has_name T x w.id) refl (stands_named v named ws)
      where
        by : (b : Bool) → has_name T x w.id ≡ b → stands_for_all T k v (named_only T x ws) ≡ stands_for_all T k v ws → stands_for_all T k v (cond b (w ∷ []) [] ++ named_only T x ws) ≡ both (stands_at T k v w) (stands_for_all T k v ws)
        by true e r = ap (both (stands_at T k v w)) r
        by false e r = r ∙ ap (λ b. both (cond b (result_answer T v w) Yes) (stands_for_all T k v ws)) (sym (not_meeting T x v w named e k))

    one_named : (v : MethodView) → has_name T x v.id ≡ true → (all vs : List MethodView) → one_stands T k v (named_only T x all) (named_only T x vs) ≡ one_stands T k v all vs
    unfolding one_at
    one_named v named all [] = refl
    one_named v named all (w ∷ ws) = by (has_name T x w.id) refl (one_named v named all ws)
      where
        by : (b : Bool) → has_name T x w.id ≡ b → one_stands T k v (named_only T x all) (named_only T x ws) ≡ one_stands T k v all ws → one_stands T k v (named_only T x all) (cond b (w ∷ []) [] ++ named_only T x ws) ≡ either (one_at T k v all w) (one_stands T k v all ws)
        by true e r =
            ap (λ a. either (cond (meets T k v w) a No) (one_stands T k v (named_only T x all) (named_only T x ws))) (stands_named w e all)
            ∙ ap (either (one_at T k v all w)) r
        by false e r = r ∙ ap (λ b. either (cond b (stands_for_all T k w all) No) (one_stands T k v all ws)) (sym (not_meeting T x v w named e k))

    agreement_named : (v : MethodView) → has_name T x v.id ≡ true → (all : List MethodView) → agreement T k (named_only T x all) v ≡ agreement T k all v
    agreement_named v named all =
        ap (λ a. cond (with_body T v) a (cond (meets_body T k v (named_only T x all)) Yes (either a (one_stands T k v (named_only T x all) (named_only T x all))))) (stands_named v named all)
        ∙ ap (λ b. cond (with_body T v) (stands_for_all T k v all) (cond b Yes (either (stands_for_all T k v all) (one_stands T k v (named_only T x all) (named_only T x all)))))
        (any_named (λ w. meets T k v w && with_body T w) (λ w e. ap (λ b. b && with_body T w) (not_meeting T x v w named e k)) all)
        ∙ ap (λ o. cond (with_body T v) (stands_for_all T k v all) (cond (meets_body T k v all) Yes (either (stands_for_all T k v all) o))) (one_named v named all all)

    fitting_named : (v : MethodView) → has_name T x v.id ≡ true → (all : List MethodView) → fitting T k (named_only T x all) v ≡ fitting T k all v
    unfolding fitting meets_badly
    fitting_named v named all =
        ap (λ b. both (no_if b) (agreement T k (named_only T x all) v)) (any_named (meets_badly T k v) (λ w e. ap (λ b. b && disagrees T v w) (not_meeting T x v w named e k)) all)
        ∙ ap (both (no_if (disagrees_some T k all v))) (agreement_named v named all)

  in_named : (v : MethodView) (vs : List MethodView) → In v vs → has_name T x v.id ≡ true → In v (named_only T x vs)
  in_named v [] m e = m
  in_named v (w ∷ ws) (inl is) e =
      in_left v (cond (has_name T x w.id) (w ∷ []) []) (named_only T x ws) (subst (λ b. In v (cond b (w ∷ []) [])) (sym (ap (λ (u : MethodView). has_name T x u.id) (sym is) ∙ e)) (inl is))
  in_named v (w ∷ ws) (inr m) e = in_right v (cond (has_name T x w.id) (w ∷ []) []) (named_only T x ws) (in_named v ws m e)

  of_named : (v : MethodView) (vs : List MethodView) → In v (named_only T x vs) → In v vs × (has_name T x v.id ≡ true)
  of_named v [] m = absurd m
  of_named v (w ∷ ws) m = by (has_name T x w.id) refl (in_either v (cond (has_name T x w.id) (w ∷ []) []) (named_only T x ws) m) (λ m. of_named v ws m)
    where
      by : (b : Bool) → has_name T x w.id ≡ b → In v (cond b (w ∷ []) []) ⊎ In v (named_only T x ws) → (In v (named_only T x ws) → In v ws × (has_name T x v.id ≡ true)) → In v (w ∷ ws) × (has_name T x v.id ≡ true)
      by true e (inl (inl is)) h = (inl is, ap (λ (u : MethodView). has_name T x u.id) is ∙ e)
      by true e (inl (inr m)) h = absurd m
      by false e (inl m) h = absurd m
      by true e (inr m) h = let rest = h m in (inr rest.0, rest.1)
      by false e (inr m) h = let rest = h m in (inr rest.0, rest.1)

  -- ---- the members of a name are those of all that have it

  named_append : (xs ys : List MethodView) → named_only T x (xs ++ ys) ≡ named_only T x xs ++ named_only T x ys
  named_append [] ys = refl
  named_append (v ∷ vs) ys = by (has_name T x v.id) (named_append vs ys)
    where
      by : (b : Bool) → named_only T x (vs ++ ys) ≡ named_only T x vs ++ named_only T x ys → cond b (v ∷ []) [] ++ named_only T x (vs ++ ys) ≡ (cond b (v ∷ []) [] ++ named_only T x vs) ++ named_only T x ys
      by true r = ap (λ l. v ∷ l) r
      by false r = r

  module _ (t : Ty) where
    one_candidate : (m : MethodId) (o : Option MethodView) → ((v : MethodView) → o ≡ Some v → v.id ≡ m) → with_view T (has_name T x) t m o ≡ named_only T x (with_view T (λ _. true) t m o)
    one_candidate m None h = refl
    one_candidate m (Some v) h = by (is_candidate T t m)
      where
        name : (b : Bool) → cond (b && true) (v ∷ []) [] ≡ cond b (v ∷ []) [] ++ []
        name true = refl
        name false = refl

        none : (b : Bool) → cond (b && false) (v ∷ []) [] ≡ named_only T x []
        none true = refl
        none false = refl

        by : (c : Bool) → cond (has_name T x m && c) (v ∷ []) [] ≡ named_only T x (cond (true && c) (v ∷ []) [])
        by true = ap (λ n. cond (has_name T x n && true) (v ∷ []) []) (sym (h v refl)) ∙ name (has_name T x v.id)
        by false = none (has_name T x m)

    candidates_named : (i : ℕ) (ds : List MethodDecl) → candidates_from T (has_name T x) t i ds ≡ named_only T x (candidates_from T (λ _. true) t i ds)
    candidates_named i [] = refl
    candidates_named i (d ∷ ds) =
        ap (λ l. l ++ candidates_from T (has_name T x) t (suc i) ds) (one_candidate (record { 0 = i }) (view_of_method T t (record { 0 = i })) (λ v e. id_of_view T t (record { 0 = i }) v e))
        ∙ ap (λ l. named_only T x (with_view T (λ _. true) t (record { 0 = i }) (view_of_method T t (record { 0 = i }))) ++ l) (candidates_named (suc i) ds)
        ∙ sym (named_append (with_view T (λ _. true) t (record { 0 = i }) (view_of_method T t (record { 0 = i }))) (candidates_from T (λ _. true) t (suc i) ds))

  replaced_named : (v : MethodView) → has_name T x v.id ≡ true → (vs : List MethodView) → replaced T v (named_only T x vs) ≡ replaced T v vs
  replaced_named v named [] = refl
  replaced_named v named (w ∷ ws) = by (has_name T x w.id) refl (replaced_named v named ws)
    where
      by : (b : Bool) → has_name T x w.id ≡ b → replaced T v (named_only T x ws) ≡ replaced T v ws → replaced T v (cond b (w ∷ []) [] ++ named_only T x ws) ≡ (overrides T w.id v.id || hides T w.id v.id || replaced T v ws)
      by true e r = ap (λ b. overrides T w.id v.id || hides T w.id v.id || b) r
      by false e r =
          r ∙ ap (λ b. b || replaced T v ws) (sym (not_hidden T x v w named e))
          ∙ ap (λ b. b || hides T w.id v.id || replaced T v ws) (sym (not_overridden T x v w named e))

  without_named : (all vs : List MethodView) → without_replaced T (named_only T x all) (named_only T x vs) ≡ named_only T x (without_replaced T all vs)
  without_named all [] = refl
  without_named all (v ∷ vs) = by (has_name T x v.id) refl (without_named all vs)
    where
      kept : (r : Bool) → has_name T x v.id ≡ true → cond r [] (v ∷ []) ++ named_only T x (without_replaced T all vs) ≡ named_only T x (cond r [] (v ∷ []) ++ without_replaced T all vs)
      kept true e = refl
      kept false e = ap (λ b. cond b (v ∷ []) [] ++ named_only T x (without_replaced T all vs)) (sym e)

      dropped : (r : Bool) → has_name T x v.id ≡ false → named_only T x (without_replaced T all vs) ≡ named_only T x (cond r [] (v ∷ []) ++ without_replaced T all vs)
      dropped true e = refl
      dropped false e = ap (λ b. cond b (v ∷ []) [] ++ named_only T x (without_replaced T all vs)) (sym e)

      by : (b : Bool) → has_name T x v.id ≡ b → without_replaced T (named_only T x all) (named_only T x vs) ≡ named_only T x (without_replaced T all vs) → without_replaced T (named_only T x all) (cond b (v ∷ []) [] ++ named_only T x vs) ≡ named_only T x (cond (replaced T v all) [] (v ∷ []) ++ without_replaced T all vs)
      by true e r =
          ap (λ r. cond r [] (v ∷ []) ++ without_replaced T (named_only T x all) (named_only T x vs)) (replaced_named v e all)
          ∙ ap (λ l. cond (replaced T v all) [] (v ∷ []) ++ l) r ∙ kept (replaced T v all) e
      by false e r = r ∙ dropped (replaced T v all) e

  members_named : (t : Ty) → members T t x ≡ named_only T x (remaining T (candidates T (λ m. true) t))
  members_named t =
      ap (remaining T) (candidates_named t 0 T.methods) ∙ without_named (candidates T (λ m. true) t) (candidates T (λ m. true) t)

-- ---- each member is declared by the class or above it

module _ (T : Table) (t : Ty) where
  in_with : (m : MethodId) (o : Option MethodView) (v : MethodView) → In v (with_view T (λ _. true) t m o) → o ≡ Some v
  in_with m None v i = absurd i
  in_with m (Some w) v i = by (is_candidate T t m) i
    where
      by : (c : Bool) → In v (cond c (w ∷ []) []) → Some w ≡ Some v
      by true (inl e) = ap Some (sym e)
      by true (inr i) = absurd i
      by false i = absurd i

  in_range : (i : ℕ) (ds : List MethodDecl) (v : MethodView) → In v (candidates_from T (λ _. true) t i ds) → v.id.0 < i + length ds
  in_range i [] v m = absurd m
  in_range i (d ∷ ds) v m =
      by (in_either v (with_view T (λ _. true) t (record { 0 = i }) (view_of_method T t (record { 0 = i }))) (candidates_from T (λ _. true) t (suc i) ds) m) (λ m. in_range (suc i) ds v m)
    where
      by : In v (with_view T (λ _. true) t (record { 0 = i }) (view_of_method T t (record { 0 = i }))) ⊎ In v (candidates_from T (λ _. true) t (suc i) ds)
          → (In v (candidates_from T (λ _. true) t (suc i) ds) → v.id.0 < suc i + length ds) → v.id.0 < i + length (d ∷ ds)
      by (inl m) h =
          let is : v.id.0 ≡ i = ap (λ (n : MethodId). n.0) (id_of_view T t (record { 0 = i }) v (in_with (record { 0 = i }) (view_of_method T t (record { 0 = i })) v m)) in omega arith
      by (inr m) h = let within = h m in omega arith

  in_without : (all vs : List MethodView) (v : MethodView) → In v (without_replaced T all vs) → In v vs
  in_without all [] v m = m
  in_without all (w ∷ ws) v m = by (replaced T w all) (in_either v (cond (replaced T w all) [] (w ∷ [])) (without_replaced T all ws) m) (λ m. in_without all ws v m)
    where
      by : (r : Bool) → In v (cond r [] (w ∷ [])) ⊎ In v (without_replaced T all ws) → (In v (without_replaced T all ws) → In v ws) → In v (w ∷ ws)
      by true (inl m) h = absurd m
      by false (inl (inl e)) h = inl e
      by false (inl (inr m)) h = absurd m
      by true (inr m) h = inr (h m)
      by false (inr m) h = inr (h m)

  member_within : (v : MethodView) → In v (remaining T (candidates T (λ m. true) t)) → v.id.0 < length T.methods
  member_within v m =
      let within : v.id.0 < 0 + length T.methods = in_range 0 T.methods v (in_without (candidates T (λ m. true) t) (candidates T (λ m. true) t) v m) in omega arith

-- a method that is viewed is of a class that is
viewed_owner : (T : Table) (t : Ty) (m : MethodId) (v : MethodView) → view_of_method T t m ≡ Some v → is_viewed (view T (owner T m) t) ≡ true
viewed_owner T t m v e = by (method_owner_of T m) e
  where
    of_view : (o : Option Ty) → viewed_in T m o ≡ Some v → is_viewed o ≡ true
    of_view None f = cc
    of_view (Some u) f = refl

    by : (o : Option ClassId) → viewed_in T m (view_of_owner T t o) ≡ Some v → is_viewed (view T (or_object o) t) ≡ true
    by None f = cc
    by (Some l) f = of_view (view T l t) f

module _ (T : Table) (t : Ty) where
  candidate_viewed : (i : ℕ) (ds : List MethodDecl) (v : MethodView) → In v (candidates_from T (λ _. true) t i ds) → is_viewed (view T (owner T v.id) t) ≡ true
  candidate_viewed i [] v m = absurd m
  candidate_viewed i (d ∷ ds) v m =
      by (in_either v (with_view T (λ _. true) t (record { 0 = i }) (view_of_method T t (record { 0 = i }))) (candidates_from T (λ _. true) t (suc i) ds) m) (λ m. candidate_viewed (suc i) ds v m)
    where
      by : In v (with_view T (λ _. true) t (record { 0 = i }) (view_of_method T t (record { 0 = i }))) ⊎ In v (candidates_from T (λ _. true) t (suc i) ds)
          → (In v (candidates_from T (λ _. true) t (suc i) ds) → is_viewed (view T (owner T v.id) t) ≡ true) → is_viewed (view T (owner T v.id) t) ≡ true
      by (inl m) h =
          let e = in_with T t (record { 0 = i }) (view_of_method T t (record { 0 = i })) v m in
          subst (λ n. is_viewed (view T (owner T n) t) ≡ true) (sym (id_of_view T t (record { 0 = i }) v e)) (viewed_owner T t (record { 0 = i }) v e)
      by (inr m) h = h m

beyond : (a b : ℕ) → (a == b) ≡ false → b ≤ a → suc b ≤ a
beyond a b e le = grind (arith, nat_tests)

in_picked : (test : ℕ → Bool) (i n : ℕ) (r : MethodId) → i ≤ r.0 → r.0 < i + n → test r.0 ≡ true → In r (ids_of (picked test i n))
in_picked test i zero r from to e = absurd (omega arith)
in_picked test i (suc n) r from to e = by (test i) (r.0 == i) refl refl (λ low. in_picked test (suc i) n r low (omega arith) e)
  where
    by : (t b : Bool) → test i ≡ t → (r.0 == i) ≡ b → (suc i ≤ r.0 → In r (ids_of (picked test (suc i) n))) → In r (ids_of (cond t (i ∷ []) [] ++ picked test (suc i) n))
    by true true g f h = inl (ap (λ j. record { 0 = j }) (equal_numbers r.0 i f))
    by true false g f h = inr (h (beyond r.0 i f from))
    by false true g f h =
        let here : test i ≡ true = subst (λ j. test j ≡ true) (equal_numbers r.0 i f) e in cc
    by false false g f h = h (beyond r.0 i f from)

member_stands : (T : Table) (k : ClassId) (v : MethodView) → In v (all_members T k) → In v.id (standing T k)
member_stands T k v m =
    let t = own_type T k in
    let within : v.id.0 < length T.methods = member_within T t v m in
    let viewed = candidate_viewed T t 0 T.methods v (in_without T t (candidates T (λ m. true) t) (candidates T (λ m. true) t) v m) in
    in_picked (is_standing T k) 0 (length T.methods) v.id (omega arith) (omega arith) (or_true (same_class (owner T v.id) k) (is_viewed (view T (owner T v.id) t)) viewed)
  where
    or_true : (a b : Bool) → b ≡ true → (a || b) ≡ true
    or_true true b e = refl
    or_true false b e = e

-- ---- all of them

module _ (T : Table) (k : ClassId) where
  abbrev all : List MethodView
  all = all_members T k

  of_name : (x : List ℕ) → members T (own_type T k) x ≡ named_only T x all
  of_name x = members_named T x (own_type T k)

  abbrev group_agrees : List MethodView → Answer
  group_agrees ms = all_answers (fitting T k ms) ms

  group_told : (m : MethodId) → name_agrees T k m ≡ group_agrees (named_only T (method_name_of T m) all)
  unfolding name_agrees
  group_told m = ap group_agrees (of_name (method_name_of T m))

  below_all : (x : List ℕ) → both (group_agrees (named_only T x all)) (group_agrees all) ≡ group_agrees all
  below_all x = lowest (fitting T k (named_only T x all)) (named_only T x all) (group_agrees all) (λ v m. one v (of_named T x v all m))
    where
      one : (v : MethodView) → In v all × (has_name T x v.id ≡ true) → both (fitting T k (named_only T x all) v) (group_agrees all) ≡ group_agrees all
      one v h = ap (λ a. both a (group_agrees all)) (fitting_named T x k v h.1 all) ∙ upper (fitting T k all) v all h.0

  all_below : (v : MethodView) → In v all → both (fitting T k all v) (all_answers (name_agrees T k) (standing T k)) ≡ all_answers (name_agrees T k) (standing T k)
  all_below v m =
      let r = v.id in
      let x = method_name_of T r in
      let named = own_bytes x in
      let total = all_answers (name_agrees T k) (standing T k) in
      let up : both (name_agrees T k r) total ≡ total = upper (name_agrees T k) r (standing T k) (member_stands T k v m) in
      let low : both (fitting T k all v) (name_agrees T k r) ≡ name_agrees T k r =
      ap (both (fitting T k all v)) (group_told r) ∙ ap (λ a. both a (group_agrees (named_only T x all))) (sym (fitting_named T x k v named all))
      ∙ upper (fitting T k (named_only T x all)) v (named_only T x all) (in_named T x v all m named) ∙ sym (group_told r) in
      ap (both (fitting T k all v)) (sym up) ∙ sym (both_assoc (fitting T k all v) (name_agrees T k r) total) ∙ ap (λ a. both a total) low ∙ up

  names_told : all_answers (name_agrees T k) (standing T k) ≡ group_agrees all
  names_told =
      as_low (all_answers (name_agrees T k) (standing T k)) (group_agrees all)
      (lowest (name_agrees T k) (standing T k) (group_agrees all) (λ r m. ap (λ a. both a (group_agrees all)) (group_told r) ∙ below_all (method_name_of T r)))
      (lowest (fitting T k all) all (all_answers (name_agrees T k) (standing T k)) all_below)

  agreements_told : (ms vs : List MethodView) → all_answers (agreement T k ms) vs ≡ agreements T k ms vs
  agreements_told ms [] = refl
  agreements_told ms (v ∷ vs) = ap (both (agreement T k ms v)) (agreements_told ms vs)

  fitting_each : group_agrees all ≡ both (no_if (members_disagree T k all)) (agreements T k all all)
  unfolding fitting meets_badly
  fitting_each =
      each_both (λ v. no_if (disagrees_some T k all v)) (agreement T k all) all
      ∙ ap (λ a. both a (all_answers (agreement T k all) all)) (each_no (disagrees_some T k all) all) ∙ ap (both (no_if (members_disagree T k all))) (agreements_told all all)

  class_told : all_answers (name_agrees T k) (standing T k) ≡ both (no_if (members_disagree T k (all_members T k))) (agreements T k (all_members T k) (all_members T k))
  class_told = names_told ∙ fitting_each

-- ---- few members

meets_none : (T : Table) (k : ClassId) (v : MethodView) → meets T k v v ≡ false
meets_none T k v = ap (λ b. not b && not (same_class (owner T v.id) k) && not (same_class (owner T v.id) k) && override_equivalent T v v) (self_equal v.id.0)

one_alone : (T : Table) (k : ClassId) (v : MethodView) → all_answers (fitting T k (v ∷ [])) (v ∷ []) ≡ Yes
unfolding fitting meets_badly
one_alone T k v = by (with_body T v) (meets T k v v) (meets_none T k v)
  where
    stands : Bool → Answer
    stands b = both (cond b (result_answer T v v) Yes) Yes

    answer : Bool → Bool → Answer
    answer body b =
        both (both (no_if ((b && disagrees T v v) || false)) (cond body (stands b) (cond ((b && with_body T v) || false) Yes (either (stands b) (either (cond b (stands b) No) No))))) Yes

    by : (body b : Bool) → b ≡ false → answer body b ≡ Yes
    by true false e = refl
    by false false e = refl
    by true true e = cc
    by false true e = cc

few_views : (T : Table) (k : ClassId) (vs : List MethodView) → length vs < 2 → all_answers (fitting T k vs) vs ≡ Yes
few_views T k [] lt = refl
few_views T k (v ∷ []) lt = one_alone T k v
few_views T k (v ∷ w ∷ vs) lt = absurd (omega arith)

few_left : (T : Table) (t : Ty) (ids : List MethodId) → length ids < 2 → length (views_of T t (remaining_ids T ids)) < 2
few_left T t [] lt = omega arith
few_left T t (m ∷ []) lt = first (replaced_by T m (m ∷ []))
  where
    second : (o : Option MethodView) → length (option_to_list o ++ []) < 2
    second None = omega arith
    second (Some v) = omega arith

    first : (r : Bool) → length (views_of T t (cond r [] (m ∷ []) ++ [])) < 2
    first true = omega arith
    first false = second (view_of_method T t m)
few_left T t (m ∷ n ∷ ids) lt = absurd (omega arith)

members_by : (T : Table) (k : ClassId) (m : MethodId) (t : Ty) (all : List MethodId) → t ≡ own_type T k → all ≡ candidate_ids T t (all_named T (method_name_of T m))
    → members T (own_type T k) (method_name_of T m) ≡ views_of T t (remaining_ids T all)
members_by T k m t all own e =
    members_told T (own_type T k) (method_name_of T m)
    ∙ ap (λ u. views_of T u (remaining_ids T (candidate_ids T u (all_named T (method_name_of T m))))) (sym own) ∙ ap (λ l. views_of T t (remaining_ids T l)) (sym e)

pub few_agree : (T : Table) (k : ClassId) (m : MethodId) (t : Ty) (all : List MethodId) → t ≡ own_type T k → all ≡ candidate_ids T t (all_named T (method_name_of T m)) → length all < 2 → Yes ≡ name_agrees T k m
unfolding name_agrees
few_agree T k m t all own e lt =
    sym (ap (λ ms. all_answers (fitting T k ms) ms) (members_by T k m t all own e) ∙ few_views T k (views_of T t (remaining_ids T all)) (few_left T t all lt))

-- ---- no member that is inherited

module _ (T : Table) (k : ClassId) where
  meets_nothing : (v w : MethodView) → same_class (owner T v.id) k ≡ true → meets T k v w ≡ false
  meets_nothing v w e = by (not (v.id.0 == w.id.0)) (not (same_class (owner T w.id) k)) (override_equivalent T v w) (same_class (owner T v.id) k) e
    where
      none : (a : Bool) → (a && false) ≡ false
      none true = refl
      none false = refl

      by : (a b c d : Bool) → d ≡ true → (a && not d && b && c) ≡ false
      by a b c true e = ap (λ x. x && b && c) (none a)
      by a b c false e = cc

  stands_own : (v : MethodView) → same_class (owner T v.id) k ≡ true → (ms : List MethodView) → stands_for_all T k v ms ≡ Yes
  stands_own v e [] = refl
  stands_own v e (w ∷ ws) = ap (λ b. both (cond b (result_answer T v w) Yes) (stands_for_all T k v ws)) (meets_nothing v w e) ∙ stands_own v e ws

  any_own : (f : MethodView → Bool) (v : MethodView) → same_class (owner T v.id) k ≡ true → (ms : List MethodView) → list_any (λ w. meets T k v w && f w) ms ≡ false
  any_own f v e [] = refl
  any_own f v e (w ∷ ws) = ap (λ b. (b && f w) || list_any (λ w. meets T k v w && f w) ws) (meets_nothing v w e) ∙ any_own f v e ws

  fitting_own : (ms : List MethodView) (v : MethodView) → same_class (owner T v.id) k ≡ true → fitting T k ms v ≡ Yes
  unfolding fitting meets_badly
  fitting_own ms v e =
      ap (λ b. both (no_if b) (agreement T k ms v)) (any_own (disagrees T v) v e ms)
      ∙ ap (λ a. cond (with_body T v) a (cond (meets_body T k v ms) Yes (either a (one_stands T k v ms ms)))) (stands_own v e ms)
      ∙ ap (λ b. cond (with_body T v) Yes (cond b Yes Yes)) (any_own (with_body T) v e ms) ∙ yes (with_body T v)
    where
      yes : (b : Bool) → cond b Yes Yes ≡ Yes
      yes true = refl
      yes false = refl

  all_own : (ms vs : List MethodView) → ((v : MethodView) → In v vs → same_class (owner T v.id) k ≡ true) → all_answers (fitting T k ms) vs ≡ Yes
  all_own ms [] h = refl
  all_own ms (v ∷ vs) h = ap (λ a. both a (all_answers (fitting T k ms) vs)) (fitting_own ms v (h v (inl refl))) ∙ all_own ms vs (λ w m. h w (inr m))

  viewed_of : (t : Ty) (ids : List MethodId) (v : MethodView) → In v (views_of T t ids) → In v.id ids
  viewed_of t [] v m = m
  viewed_of t (i ∷ ids) v m = by (view_of_method T t i) refl (in_either v (option_to_list (view_of_method T t i)) (views_of T t ids) m) (λ m. viewed_of t ids v m)
    where
      by : (o : Option MethodView) → view_of_method T t i ≡ o → In v (option_to_list o) ⊎ In v (views_of T t ids) → (In v (views_of T t ids) → In v.id ids) → In v.id (i ∷ ids)
      by (Some w) e (inl (inl is)) h = inl (ap (λ (u : MethodView). u.id) is ∙ id_of_view T t i w e)
      by (Some w) e (inl (inr m)) h = absurd m
      by None e (inl m) h = absurd m
      by (Some w) e (inr m) h = inr (h m)
      by None e (inr m) h = inr (h m)

  kept_of : (all ids : List MethodId) (m : MethodId) → In m (remaining_in T all ids) → In m ids × (replaced_by T m all ≡ false)
  kept_of all [] m h = absurd h
  kept_of all (i ∷ ids) m h = by (replaced_by T i all) refl (in_either m (cond (replaced_by T i all) [] (i ∷ [])) (remaining_in T all ids) h) (λ h. kept_of all ids m h)
    where
      by : (b : Bool) → replaced_by T i all ≡ b → In m (cond b [] (i ∷ [])) ⊎ In m (remaining_in T all ids) → (In m (remaining_in T all ids) → In m ids × (replaced_by T m all ≡ false)) → In m (i ∷ ids) × (replaced_by T m all ≡ false)
      by true e (inl h) g = absurd h
      by false e (inl (inl is)) g = (inl is, ap (λ j. replaced_by T j all) is ∙ e)
      by false e (inl (inr h)) g = absurd h
      by true e (inr h) g = let rest = g h in (inr rest.0, rest.1)
      by false e (inr h) g = let rest = g h in (inr rest.0, rest.1)

  replaced_of : (m w : MethodId) (all : List MethodId) → In w all → replaces T w m ≡ true → replaced_by T m all ≡ true
  replaced_of m w [] h e = absurd h
  replaced_of m w (i ∷ all) (inl is) e = ap (λ b. b || replaced_by T m all) (ap (λ j. replaces T j m) (sym is) ∙ e)
  replaced_of m w (i ∷ all) (inr h) e = ap (λ b. replaces T i m || b) (replaced_of m w all h e) ∙ or_true (replaces T i m)
    where
      or_true : (a : Bool) → (a || true) ≡ true
      or_true true = refl
      or_true false = refl

  own_of : (ids : List MethodId) (w : MethodId) → In w (own_ids T k ids) → In w ids
  own_of [] w h = h
  own_of (i ∷ ids) w h = by (same_class (owner T i) k) (in_either w (cond (same_class (owner T i) k) (i ∷ []) []) (own_ids T k ids) h) (λ h. own_of ids w h)
    where
      by : (b : Bool) → In w (cond b (i ∷ []) []) ⊎ In w (own_ids T k ids) → (In w (own_ids T k ids) → In w ids) → In w (i ∷ ids)
      by true (inl (inl is)) g = inl is
      by true (inl (inr h)) g = absurd h
      by false (inl h) g = absurd h
      by true (inr h) g = inr (g h)
      by false (inr h) g = inr (g h)

  one_replaces : (m : MethodId) (own all : List MethodId) → ((w : MethodId) → In w own → In w all) → list_any (own_replaces T k m) own ≡ true → replaced_by T m all ≡ true
  unfolding own_replaces
  one_replaces m [] all sub e = cc
  one_replaces m (w ∷ own) all sub e = by (same_class (owner T w) k) (replaces T w m) refl (λ e. one_replaces m own all (λ u h. sub u (inr h)) e) e
    where
      by : (a b : Bool) → replaces T w m ≡ b → (list_any (own_replaces T k m) own ≡ true → replaced_by T m all ≡ true) → ((a && b) || list_any (own_replaces T k m) own) ≡ true → replaced_by T m all ≡ true
      by true true f g e = replaced_of m w all (sub w (inl refl)) f
      by true false f g e = g e
      by false b f g e = g e

  covered_at : (own ids : List MethodId) (m : MethodId) → In m ids → all_covered T k own ids ≡ true → is_covered T k own m ≡ true
  covered_at own [] m h e = absurd h
  covered_at own (i ∷ ids) m (inl is) e = ap (is_covered T k own) is ∙ first (is_covered T k own i) (all_covered T k own ids) e
    where
      first : (a b : Bool) → (a && b) ≡ true → a ≡ true
      first true b e = refl
      first false b e = cc
  covered_at own (i ∷ ids) m (inr h) e = covered_at own ids m h (second (is_covered T k own i) (all_covered T k own ids) e)
    where
      second : (a b : Bool) → (a && b) ≡ true → b ≡ true
      second true b e = e
      second false b e = cc

  left_own : (all : List MethodId) (m : MethodId) → are_covered T k all ≡ true → In m (remaining_ids T all) → same_class (owner T m) k ≡ true
  unfolding is_covered
  left_own all m e h =
      let kept = kept_of all all m h in
      by (same_class (owner T m) k) (list_any (own_replaces T k m) (own_ids T k all)) refl (covered_at (own_ids T k all) all m kept.0 e) kept.1
    where
      by : (a b : Bool) → list_any (own_replaces T k m) (own_ids T k all) ≡ b → (a || b) ≡ true → replaced_by T m all ≡ false → a ≡ true
      by true b f e out = refl
      by false true f e out = let g : replaced_by T m all ≡ true = one_replaces m (own_ids T k all) all (λ w h. own_of all w h) f in cc
      by false false f e out = e

pub covered_agree : (T : Table) (k : ClassId) (m : MethodId) (t : Ty) (all : List MethodId) → t ≡ own_type T k → all ≡ candidate_ids T t (all_named T (method_name_of T m))
    → are_covered T k all ≡ true → Yes ≡ name_agrees T k m
unfolding name_agrees
covered_agree T k m t all own e covered =
    let left = views_of T t (remaining_ids T all) in
    sym (ap (λ ms. all_answers (fitting T k ms) ms) (members_by T k m t all own e)
    ∙ all_own T k left left (λ v h. left_own T k all v.id covered (viewed_of T k t (remaining_ids T all) v h)))

pub ruleset agree_early = (few_agree, covered_agree)

pub name_told : (T : Table) (k : ClassId) (m : MethodId) (t : Ty) (all : List MethodId) (vs : List MethodView) (r : Answer)
    → t ≡ own_type T k → all ≡ candidate_ids T t (all_named T (method_name_of T m)) → vs ≡ views_of T t (remaining_ids T all) → r ≡ all_from (fitting T k vs) Yes vs → r ≡ name_agrees T k m
unfolding name_agrees
name_told T k m t all vs r own e f g = g ∙ all_told (fitting T k vs) vs ∙ ap (λ ms. all_answers (fitting T k ms) ms) (f ∙ sym (members_by T k m t all own e))

-- all of them, joined one after the other
pub class_joined : (T : Table) (k : ClassId) (ids : List MethodId) (r : Answer) → ids ≡ standing T k → r ≡ all_from (name_agrees T k) Yes ids → r ≡ both (no_if (members_disagree T k (all_members T k))) (agreements T k (all_members T k) (all_members T k))
class_joined T k ids r e f = f ∙ all_told (name_agrees T k) ids ∙ ap (all_answers (name_agrees T k)) e ∙ class_told T k

-- ---- the methods of a name, among all of the class and of those above it

module _ (T : Table) (k : ClassId) (x : List ℕ) where
  no_candidate : (m : MethodId) → stands_in T k m ≡ false → if_candidate T (own_type T k) m ≡ []
  no_candidate m out =
      ap (λ b. cond b (m ∷ []) []) (and_right (is_candidate T (own_type T k) m) (has_method T (own_type T k) m) (by (method_owner_of T m) out))
    where
      second : (a b : Bool) → (a || b) ≡ false → b ≡ false
      second true b e = cc
      second false b e = e

      by : (o : Option ClassId) → (same_class (or_object o) k || is_viewed (view T (or_object o) (own_type T k))) ≡ false → is_viewed (view_of_owner T (own_type T k) o) ≡ false
      by None e = refl
      by (Some l) e = second (same_class l k) (is_viewed (view T l (own_type T k))) e

  few_from : (i n : ℕ) → candidate_ids T (own_type T k) (with_name T x (ids_of (picked (is_standing T k) i n))) ≡ candidate_ids T (own_type T k) (named_from T x i n)
  few_from i zero = refl
  few_from i (suc n) = by (is_standing T k i) (has_name T x (record { 0 = i })) refl refl (few_from (suc i) n)
    where
      by : (s b : Bool) → is_standing T k i ≡ s → has_name T x (record { 0 = i }) ≡ b
          → candidate_ids T (own_type T k) (with_name T x (ids_of (picked (is_standing T k) (suc i) n))) ≡ candidate_ids T (own_type T k) (named_from T x (suc i) n)
          → candidate_ids T (own_type T k) (with_name T x (ids_of (cond s (i ∷ []) [] ++ picked (is_standing T k) (suc i) n))) ≡ candidate_ids T (own_type T k) (cond b (record { 0 = i } ∷ []) [] ++ named_from T x (suc i) n)
      by true true e f r =
          ap (λ c. candidate_ids T (own_type T k) (cond c (record { 0 = i } ∷ []) [] ++ with_name T x (ids_of (picked (is_standing T k) (suc i) n)))) f
          ∙ ap (λ l. if_candidate T (own_type T k) (record { 0 = i }) ++ l) r
      by true false e f r = ap (λ c. candidate_ids T (own_type T k) (cond c (record { 0 = i } ∷ []) [] ++ with_name T x (ids_of (picked (is_standing T k) (suc i) n)))) f ∙ r
      by false true e f r = r ∙ ap (λ l. l ++ candidate_ids T (own_type T k) (named_from T x (suc i) n)) (sym (no_candidate (record { 0 = i }) e))
      by false false e f r = r

pub few_told : (T : Table) (k : ClassId) (x : List ℕ) (t : Ty) (all few ids : List MethodId) → t ≡ own_type T k → all ≡ standing T k → few ≡ with_name T x all → ids ≡ candidate_ids T t few → ids ≡ candidate_ids T t (all_named T x)
few_told T k x t all few ids own e f g =
    g ∙ ap (λ u. candidate_ids T u few) own ∙ ap (λ l. candidate_ids T (own_type T k) l) (f ∙ ap (with_name T x) e) ∙ few_from T k x 0 (length T.methods)
    ∙ ap (λ u. candidate_ids T u (all_named T x)) (sym own)

-- ---- each name once

module _ (T : Table) (k : ClassId) (index : MethodIndex) (known : IsMethodIndex T index) (m : MethodId) (answer : Answer) where
  abbrev group : ℕ → Answer
  group g = ids_agree T k (group_at index.groups (Some g))

  by_ids : name_agrees T k m ≡ ids_agree T k (all_named T (method_name_of T m))
  unfolding name_agrees ids_agree
  by_ids = ap (λ ms. all_answers (fitting T k ms) ms) (members_told T (own_type T k) (method_name_of T m))

  by_group : (g : ℕ) → named (method_name_of T m) index.names ≡ Some g → name_agrees T k m ≡ group g
  by_group g e = by_ids ∙ ap (ids_agree T k) (sym (known.ids (method_name_of T m)) ∙ ap (group_at index.groups) e)

  pub seen_before : (seen : ℕ → Bool) (o : Option ℕ) (has : Bool) → HasSeen T k index.groups answer seen → o ≡ named (method_name_of T m) index.names → has ≡ is_marked seen o → has ≡ true → answer ≡ both answer (name_agrees T k m)
  unfolding HasSeen
  seen_before seen None has h e is there = cc
  seen_before seen (Some g) has h e is there = sym (h g (sym is ∙ there)) ∙ ap (both answer) (sym (by_group g (sym e)))

  kept : (x : Answer) → both answer x ≡ answer → both (both answer (name_agrees T k m)) x ≡ both answer (name_agrees T k m)
  kept x e =
      both_assoc answer (name_agrees T k m) x ∙ ap (both answer) (both_comm (name_agrees T k m) x) ∙ sym (both_assoc answer x (name_agrees T k m)) ∙ ap (λ a. both a (name_agrees T k m)) e

  twice : both (both answer (name_agrees T k m)) (name_agrees T k m) ≡ both answer (name_agrees T k m)
  twice = both_assoc answer (name_agrees T k m) (name_agrees T k m) ∙ ap (both answer) (both_self (name_agrees T k m))

  -- the answer goes on where no group is marked but that of m
  pub seen_more : (old new : ℕ → Bool) (o : Option ℕ) (r : Answer) → HasSeen T k index.groups answer old → o ≡ named (method_name_of T m) index.names → r ≡ both answer (name_agrees T k m)
      → ((g : ℕ) → new g ≡ marked_with old o g) → HasSeen T k index.groups r new
  unfolding HasSeen
  seen_more old new o r h e is more g there = subst (λ a. both a (group g) ≡ a) (sym is) (by o e (sym (more g) ∙ there))
    where
      at : (j : ℕ) (b : Bool) → nat_eq j g ≡ b → Some j ≡ named (method_name_of T m) index.names → cond b true (old g) ≡ true → both (both answer (name_agrees T k m)) (group g) ≡ both answer (name_agrees T k m)
      at j true f e t = ap (both (both answer (name_agrees T k m))) (sym (by_group g (sym e ∙ ap Some (equal_numbers j g f)))) ∙ twice
      at j false f e t = kept (group g) (h g t)

      by : (o : Option ℕ) → o ≡ named (method_name_of T m) index.names → marked_with old o g ≡ true → both (both answer (name_agrees T k m)) (group g) ≡ both answer (name_agrees T k m)
      by None e t = kept (group g) (h g t)
      by (Some j) e t = at j (nat_eq j g) refl e t

pub none_seen : (T : Table) (k : ClassId) (groups : List (List MethodId)) (answer : Answer) (seen : ℕ → Bool) → ((g : ℕ) → seen g ≡ false) → HasSeen T k groups answer seen
unfolding HasSeen
none_seen T k groups answer seen none g there = let e = none g in cc
