-- Members, told by ids.
use Rattle.std.proofs.Common.{◌≡◌, ℕ, suc, Bool, true, false, ◌&&◌, ◌||◌, cond, Option, Some, None, List, [], ◌∷◌, ◌++◌, length, arith, refl, sym, ap, subst, ◌∙◌, append_assoc}
use Rattle.std.specs.Option.{option_to_list}
use Rattle.jc_rules.proofs.Truths.{and_none, or_assoc}
use Rattle.jc_types.specs.declared.declarations.MethodDecl.{MethodDecl}
use Rattle.jc_types.specs.declared.form.Ty.{Ty}
use Rattle.jc_types.specs.declared.ids.MethodId.{MethodId}
use Rattle.jc_types.specs.declared.table.Table.{Table}
use Rattle.jc_types.specs.Accessors.{method_owner_of}
use Rattle.jc_overriding.specs.declared.view.MethodView.{MethodView}
use Rattle.jc_overriding.specs.Overriding.{candidates_from, has_name, is_candidate, is_viewed, members, remaining, replaced, with_view, without_replaced}
use Rattle.jc_overriding.specs.Viewing.{Seeing, With, Raised, is_static, seeing_of, view_of_method, view_of_owner, viewed_by, viewed_in}
use Rattle.jc_members.specs.Below.{replaces}
use Rattle.jc_members.specs.Listing.{candidate_ids, if_candidate, kept_by, marked_by, marked_by_all, remaining_ids, remaining_in, replaced_by, unmarked, views_of}
use Rattle.jc_members.specs.Named.{all_named, if_named, named_from}

-- ---- views have the ids of their methods

by_seeing : (T : Table) (m : MethodId) (b : Bool) (s : Seeing) → (viewed_by T m b s).id ≡ m
by_seeing T m true s = refl
by_seeing T m false (With vars by) = refl
by_seeing T m false Raised = refl

pub id_of_view : (T : Table) (t : Ty) (m : MethodId) (v : MethodView) → view_of_method T t m ≡ Some v → v.id ≡ m
id_of_view T t m v e = by (view_of_owner T t (method_owner_of T m)) e
  where
    id_or : MethodView → Option MethodView → MethodId
    id_or w None = w.id
    id_or w (Some v) = v.id

    by : (o : Option Ty) → viewed_in T m o ≡ Some v → v.id ≡ m
    by None e = cc
    by (Some u) e = sym (ap (id_or v) e) ∙ by_seeing T m (is_static T m) (seeing_of T u)

-- ---- candidates

ids_append : (T : Table) (t : Ty) (xs ys : List MethodId) → candidate_ids T t (xs ++ ys) ≡ candidate_ids T t xs ++ candidate_ids T t ys
ids_append T t [] ys = refl
ids_append T t (x ∷ xs) ys = ap (λ zs. if_candidate T t x ++ zs) (ids_append T t xs ys) ∙ sym (append_assoc (if_candidate T t x) (candidate_ids T t xs) (candidate_ids T t ys))

views_append : (T : Table) (t : Ty) (xs ys : List MethodId) → views_of T t (xs ++ ys) ≡ views_of T t xs ++ views_of T t ys
views_append T t [] ys = refl
views_append T t (x ∷ xs) ys =
    ap (λ zs. option_to_list (view_of_method T t x) ++ zs) (views_append T t xs ys) ∙ sym (append_assoc (option_to_list (view_of_method T t x)) (views_of T t xs) (views_of T t ys))

nothing_more : (xs : List MethodView) → xs ++ [] ≡ xs
nothing_more [] = refl
nothing_more (x ∷ xs) = ap (λ ys. x ∷ ys) (nothing_more xs)

no_more : (xs : List MethodId) → xs ++ [] ≡ xs
no_more [] = refl
no_more (x ∷ xs) = ap (λ ys. x ∷ ys) (no_more xs)

-- one of them
one_candidate : (T : Table) (wanted : MethodId → Bool) (t : Ty) (m : MethodId) → with_view T wanted t m (view_of_method T t m) ≡ views_of T t (candidate_ids T t (cond (wanted m) (m ∷ []) []))
one_candidate T wanted t m = by (wanted m) (view_of_owner T t (method_owner_of T m)) refl
  where
    kept : (c : Bool) (u : Ty) → view_of_owner T t (method_owner_of T m) ≡ Some u
        → cond c (viewed_by T m (is_static T m) (seeing_of T u) ∷ []) [] ≡ views_of T t (cond (c && true) (m ∷ []) [] ++ [])
    kept true u e = ap (λ o. option_to_list (viewed_in T m o) ++ []) (sym e)
    kept false u e = refl

    by : (b : Bool) (o : Option Ty) → view_of_owner T t (method_owner_of T m) ≡ o
        → with_view T (λ _. b) t m (viewed_in T m o) ≡ views_of T t (candidate_ids T t (cond b (m ∷ []) []))
    by true None e =
        ap (λ c. views_of T t (cond c (m ∷ []) [] ++ [])) (sym (and_none (is_candidate T t m)) ∙ ap (λ o. is_candidate T t m && is_viewed o) (sym e))
    by false None e = refl
    by true (Some u) e = kept (is_candidate T t m) u e ∙ ap (λ o. views_of T t (cond (is_candidate T t m && is_viewed o) (m ∷ []) [] ++ [])) (sym e)
    by false (Some u) e = refl

pub candidates_told : (T : Table) (name : List ℕ) (t : Ty) (i : ℕ) (ds : List MethodDecl) → candidates_from T (has_name T name) t i ds ≡ views_of T t (candidate_ids T t (named_from T name i (length ds)))
candidates_told T name t i [] = refl
candidates_told T name t i (d ∷ ds) =
    let m : MethodId = record { 0 = i } in
    ap (λ xs. xs ++ candidates_from T (has_name T name) t (suc i) ds) (one_candidate T (has_name T name) t m)
    ∙ ap (λ ys. views_of T t (candidate_ids T t (if_named T name i)) ++ ys) (candidates_told T name t (suc i) ds)
    ∙ sym (views_append T t (candidate_ids T t (if_named T name i)) (candidate_ids T t (named_from T name (suc i) (length ds))))
    ∙ ap (views_of T t) (sym (ids_append T t (if_named T name i) (named_from T name (suc i) (length ds))))

-- ---- those that remain

-- each of these methods has a view
abbrev pub AllViewed : Table → Ty → List MethodId → Type 0
AllViewed T t [] = Unit {0}
AllViewed T t (m ∷ ms) = ((v : MethodView) × (view_of_method T t m ≡ Some v)) × AllViewed T t ms

viewed_append : (T : Table) (t : Ty) (xs ys : List MethodId) → AllViewed T t xs → AllViewed T t ys → AllViewed T t (xs ++ ys)
viewed_append T t [] ys h g = g
viewed_append T t (x ∷ xs) ys h g = (h.0, viewed_append T t xs ys h.1 g)

pub candidates_viewed : (T : Table) (t : Ty) (ms : List MethodId) → AllViewed T t (candidate_ids T t ms)
candidates_viewed T t [] = tt
candidates_viewed T t (m ∷ ms) = viewed_append T t (if_candidate T t m) (candidate_ids T t ms) (by (is_candidate T t m) (view_of_owner T t (method_owner_of T m)) refl) (candidates_viewed T t ms)
  where
    by : (c : Bool) (o : Option Ty) → view_of_owner T t (method_owner_of T m) ≡ o → AllViewed T t (cond (c && is_viewed (view_of_owner T t (method_owner_of T m))) (m ∷ []) [])
    by false o e = tt
    by true None e = subst (λ o. AllViewed T t (cond (is_viewed o) (m ∷ []) [])) (sym e) tt
    by true (Some u) e =
        subst (λ o. AllViewed T t (cond (is_viewed o) (m ∷ []) [])) (sym e) ((viewed_by T m (is_static T m) (seeing_of T u), ap (viewed_in T m) e), tt)

replaced_told : (T : Table) (t : Ty) (n : MethodId) (v : MethodView) (ms : List MethodId) → v.id ≡ n → AllViewed T t ms → replaced T v (views_of T t ms) ≡ replaced_by T n ms
replaced_told T t n v [] e h = refl
replaced_told T t n v (m ∷ ms) e h =
    ap (λ o. replaced T v (option_to_list o ++ views_of T t ms)) h.0.1
    ∙ ap (λ w. replaces T w v.id || replaced T v (views_of T t ms)) (id_of_view T t m h.0.0 h.0.1)
    ∙ ap (λ n. replaces T m n || replaced T v (views_of T t ms)) e ∙ ap (λ b. replaces T m n || b) (replaced_told T t n v ms e h.1)

without_told : (T : Table) (t : Ty) (all ms : List MethodId) → AllViewed T t all → AllViewed T t ms → without_replaced T (views_of T t all) (views_of T t ms) ≡ views_of T t (remaining_in T all ms)
without_told T t all [] h g = refl
without_told T t all (m ∷ ms) h g =
    let v = g.0.0 in
    ap (λ o. without_replaced T (views_of T t all) (option_to_list o ++ views_of T t ms)) g.0.1
    ∙ ap (λ b. cond b [] (v ∷ []) ++ without_replaced T (views_of T t all) (views_of T t ms)) (replaced_told T t m v all (id_of_view T t m v g.0.1) h)
    ∙ ap (λ xs. cond (replaced_by T m all) [] (v ∷ []) ++ xs) (without_told T t all ms h g.1) ∙ by (replaced_by T m all)
  where
    by : (b : Bool) → cond b [] (g.0.0 ∷ []) ++ views_of T t (remaining_in T all ms) ≡ views_of T t (cond b [] (m ∷ []) ++ remaining_in T all ms)
    by true = refl
    by false = ap (λ o. option_to_list o ++ views_of T t (remaining_in T all ms)) (sym g.0.1)

pub remaining_told : (T : Table) (t : Ty) (ms : List MethodId) → AllViewed T t ms → remaining T (views_of T t ms) ≡ views_of T t (remaining_ids T ms)
remaining_told T t ms h = without_told T t ms ms h h

pub members_told : (T : Table) (t : Ty) (name : List ℕ) → members T t name ≡ views_of T t (remaining_ids T (candidate_ids T t (all_named T name)))
members_told T t name = ap (remaining T) (candidates_told T name t 0 T.methods) ∙ remaining_told T t (candidate_ids T t (all_named T name)) (candidates_viewed T t (all_named T name))

-- ---- marks

-- marked, or overridden or hidden by one of these
abbrev marked_or : Table → List MethodId → List MethodId → List Bool → List Bool
marked_or T ws [] fs = []
marked_or T ws (m ∷ ms) [] = []
marked_or T ws (m ∷ ms) (f ∷ fs) = (f || replaced_by T m ws) ∷ marked_or T ws ms fs

or_false : (a : Bool) → a ≡ (a || false)
or_false true = refl
or_false false = refl

marked_none : (T : Table) (ms : List MethodId) (fs : List Bool) → length fs ≡ length ms → fs ≡ marked_or T [] ms fs
marked_none T [] [] e = refl
marked_none T [] (f ∷ fs) e = absurd (omega arith)
marked_none T (m ∷ ms) [] e = absurd (omega arith)
marked_none T (m ∷ ms) (f ∷ fs) e = ap (λ b. b ∷ fs) (or_false f) ∙ ap (λ gs. (f || false) ∷ gs) (marked_none T ms fs (omega arith))

marked_both : (T : Table) (w : MethodId) (ws ms : List MethodId) (fs : List Bool) → marked_or T ws ms (marked_by T w ms fs) ≡ marked_or T (w ∷ ws) ms fs
marked_both T w ws [] fs = refl
marked_both T w ws (m ∷ ms) [] = refl
marked_both T w ws (m ∷ ms) (f ∷ fs) =
    ap (λ b. b ∷ marked_or T ws ms (marked_by T w ms fs)) (or_assoc f (replaces T w m) (replaced_by T m ws)) ∙ ap (λ gs. (f || (replaces T w m || replaced_by T m ws)) ∷ gs) (marked_both T w ws ms fs)

marked_length : (T : Table) (w : MethodId) (ms : List MethodId) (fs : List Bool) → length fs ≡ length ms → length (marked_by T w ms fs) ≡ length ms
marked_length T w [] fs e = refl
marked_length T w (m ∷ ms) [] e = absurd (omega arith)
marked_length T w (m ∷ ms) (f ∷ fs) e = ap suc (marked_length T w ms fs (omega arith))

marked_all : (T : Table) (ws ms : List MethodId) (fs : List Bool) → length fs ≡ length ms → marked_by_all T ws ms fs ≡ marked_or T ws ms fs
marked_all T [] ms fs e = marked_none T ms fs e
marked_all T (w ∷ ws) ms fs e = marked_all T ws ms (marked_by T w ms fs) (marked_length T w ms fs e) ∙ marked_both T w ws ms fs

length_unmarked : (ms : List MethodId) → length (unmarked ms) ≡ length ms
length_unmarked [] = refl
length_unmarked (m ∷ ms) = ap suc (length_unmarked ms)

kept_told : (T : Table) (all ms : List MethodId) → kept_by ms (marked_or T all ms (unmarked ms)) ≡ remaining_in T all ms
kept_told T all [] = refl
kept_told T all (m ∷ ms) = ap (λ xs. cond (replaced_by T m all) [] (m ∷ []) ++ xs) (kept_told T all ms)

pub kept_remaining : (T : Table) (ms : List MethodId) → kept_by ms (marked_by_all T ms ms (unmarked ms)) ≡ remaining_ids T ms
kept_remaining T ms = ap (kept_by ms) (marked_all T ms ms (unmarked ms) (length_unmarked ms)) ∙ kept_told T ms ms

pub ruleset remaining_laws = (kept_remaining)
