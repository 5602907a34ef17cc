-- Supertypes and views of types in which variables are replaced.
use Rattle.std.proofs.Common.{◌≡◌, ◌⊎◌, inl, inr, ℕ, zero, suc, ◌+◌, ◌==◌, Bool, true, false, Option, Some, None, List, [], ◌∷◌, ◌++◌, length, map, if◌then◌else◌, arith, refl, sym, ap, subst as along, ◌∙◌}
use Rattle.std.proofs.lemmas.List.{length-map}
use Rattle.std.proofs.lemmas.Bool.Decides.{nat_tests}
use Rattle.jc_types.specs.declared.form.Arg.{Arg, Arg-F, out-Arg}
use Rattle.jc_types.specs.declared.form.Arg.TheVariants.{outs-Exact, outs-Any, outs-Extends, outs-Super}
use Rattle.jc_types.specs.declared.form.Ty.{Ty, Ty-F, out-Ty}
use Rattle.jc_types.specs.declared.form.Ty.TheVariants.{Variable, outs-Class, outs-Raw}
use Rattle.jc_types.specs.declared.ids.ClassId.{ClassId}
use Rattle.jc_types.specs.declared.ids.VarId.{VarId}
use Rattle.jc_types.specs.declared.table.Table.{Table}
use Rattle.jc_types.specs.Accessors.{supers_of, vars_of, class_count}
use Rattle.jc_types.specs.Reifying.{counted}
use Rattle.jc_types.specs.Substitution.{subst, subst_arg, replacement}
use Rattle.jc_types.proofs.Substituted.{subst-Variable}
use Rattle.jc_judge.specs.Kinds.{Layer, class_of, class_at}
use Rattle.jc_judge.specs.Supers.{IsIn, IsSuper}
use Rattle.jc_judge.specs.Views.{exacts, exact_at, erased, erased_at, class_supers, supers, supers_at, or_else, first_of, is_class, view_within, view}
use Rattle.jc_judge.proofs.Finds.{put_class, erased_class}
use Rattle.jc_judge_laws.specs.Hierarchy.{IsOfTable}
use Rattle.jc_header_rules.specs.Checked.{IsAmong, HasHeaders}
use Rattle.jc_lub_laws.proofs.Homs.{Hom, substitution, composed, agree_on, over_along}
use Rattle.jc_lub_laws.proofs.Layers.{as_class_type, as_raw_type, as_exact, as_any, as_extends, as_super}

abbrev pub HasClass : Ty → Type 0
HasClass t = (i : ClassId) × (class_of t ≡ Some i)

abbrev pub applied : (Ty → Ty) → Option Ty → Option Ty
applied g (Some t) = Some (g t)
applied g None = None

abbrev pub applied_all : (Arg → Arg) → Option (List Arg) → Option (List Arg)
applied_all h (Some xs) = Some (map h xs)
applied_all h None = None

pub map_along : (f g : Ty → Ty) (ts : List Ty) → ((t : Ty) → IsIn t ts → f t ≡ g t) → map f ts ≡ map g ts
map_along f g [] e = refl
map_along f g (t ∷ ts) e = ap (λ u. u ∷ map f ts) (e t (inl refl)) ∙ ap (λ us. g t ∷ us) (map_along f g ts (λ u m. e u (inr m)))

pub map_map : (f g : Ty → Ty) (ts : List Ty) → map f (map g ts) ≡ map (λ t. f (g t)) ts
map_map f g [] = refl
map_map f g (t ∷ ts) = ap (λ us. f (g t) ∷ us) (map_map f g ts)

-- a member of a mapped list comes from one
pub in_mapped : (f : Ty → Ty) (u : Ty) (ts : List Ty) → IsIn u (map f ts) → (w : Ty) × IsIn w ts × (u ≡ f w)
in_mapped f u [] m = absurd m
in_mapped f u (t ∷ ts) (inl e) = (t, inl refl, e)
in_mapped f u (t ∷ ts) (inr m) = let r = in_mapped f u ts m in (r.0, inr r.1, r.2)

pub into_mapped : (f : Ty → Ty) (t : Ty) (ts : List Ty) → IsIn t ts → IsIn (f t) (map f ts)
into_mapped f t [] m = m
into_mapped f t (u ∷ us) (inl e) = inl (ap f e)
into_mapped f t (u ∷ us) (inr m) = inr (into_mapped f t us m)

-- a parameter is replaced by the image of what replaces it
pub replaced_mapped : (g : Ty → Ty) (vars : List VarId) (by : List Ty) (v : VarId) → length by ≡ length vars → IsAmong v vars → replacement vars (map g by) v ≡ g (replacement vars by v)
replaced_mapped g [] by v e m = absurd m
replaced_mapped g (w ∷ vars) [] v e m = absurd (omega (arith, e))
replaced_mapped g (w ∷ vars) (t ∷ by) v e m = by_test (λ n. replaced_mapped g vars by v (let l : length by ≡ length vars = omega (arith, e) in l) n) (w.0 == v.0) refl m
  where
    by_test : (IsAmong v vars → replacement vars (map g by) v ≡ g (replacement vars by v)) → (b : Bool) → (w.0 == v.0) ≡ b → (v ≡ w) ⊎ IsAmong v vars → (if b then g t else replacement vars (map g by) v) ≡ g (if b then t else replacement vars by v)
    by_test rest true f n = refl
    by_test rest false f (inl s) = let same : w.0 ≡ v.0 = ap (λ (x : VarId). x.0) (sym s) in let no : true ≡ false = grind (arith, nat_tests, f, same) in cc
    by_test rest false f (inr n) = rest n

module _ (g : Ty → Ty) (h : Arg → Arg) (hom : Hom g h) where
  class_kept_at : (t : Ty) (l : Layer) (i : ClassId) → out-Ty t ≡ l → class_at l ≡ Some i → class_of (g t) ≡ Some i
  unfolding class_of
  class_kept_at t (Ty-F.Class j xs) i e c = ap (λ u. class_at (out-Ty u)) (ap g (as_class_type t j xs e) ∙ hom.class j xs) ∙ ap class_at (outs-Class j (map h xs)) ∙ c
  class_kept_at t (Ty-F.Raw j) i e c = ap (λ u. class_at (out-Ty u)) (ap g (as_raw_type t j e) ∙ hom.raw j) ∙ ap class_at (outs-Raw j) ∙ c
  class_kept_at t l i e c = cc

  pub class_kept : (t : Ty) (i : ClassId) → class_of t ≡ Some i → class_of (g t) ≡ Some i
  unfolding class_of
  class_kept t i c = class_kept_at t (out-Ty t) i refl c

  exact_mapped : (a : Arg) (l : Arg-F Arg Ty) → out-Arg a ≡ l → exact_at (out-Arg (h a)) ≡ map g (exact_at l)
  exact_mapped a (Arg-F.Exact t) e = ap (λ b. exact_at (out-Arg b)) (ap h (as_exact a t e) ∙ hom.exacts t) ∙ ap exact_at (outs-Exact (g t))
  exact_mapped a Arg-F.Any e = ap (λ b. exact_at (out-Arg b)) (ap h (as_any a e) ∙ hom.anys) ∙ ap exact_at outs-Any
  exact_mapped a (Arg-F.Extends t) e = ap (λ b. exact_at (out-Arg b)) (ap h (as_extends a t e) ∙ hom.extend t) ∙ ap exact_at (outs-Extends (g t))
  exact_mapped a (Arg-F.Super t) e = ap (λ b. exact_at (out-Arg b)) (ap h (as_super a t e) ∙ hom.supers t) ∙ ap exact_at (outs-Super (g t))

  map_joined : (xs ys : List Ty) → map g xs ++ map g ys ≡ map g (xs ++ ys)
  map_joined [] ys = refl
  map_joined (x ∷ xs) ys = ap (λ zs. g x ∷ zs) (map_joined xs ys)

  pub exacts_mapped : (args : List Arg) → exacts (map h args) ≡ map g (exacts args)
  exacts_mapped [] = refl
  exacts_mapped (a ∷ args) =
      ap (λ ts. ts ++ exacts (map h args)) (exact_mapped a (out-Arg a) refl)
      ∙ ap (λ ts. map g (exact_at (out-Arg a)) ++ ts) (exacts_mapped args)
      ∙ map_joined (exact_at (out-Arg a)) (exacts args)

  erased_kept_at : (t : Ty) (l : Layer) → out-Ty t ≡ l → HasClass t → (i : ClassId) → class_at l ≡ Some i → g (erased_at t l) ≡ erased_at t l
  erased_kept_at t (Ty-F.Class i []) e c k f = let s = as_class_type t i [] e in ap g s ∙ hom.class i [] ∙ sym s
  erased_kept_at t (Ty-F.Class i (x ∷ xs)) e c k f = hom.raw i
  erased_kept_at t (Ty-F.Raw i) e c k f = let s = as_raw_type t i e in ap g s ∙ hom.raw i ∙ sym s
  erased_kept_at t l e c k f = cc

  erased_kept : (t : Ty) → HasClass t → g (erased t) ≡ erased t
  unfolding erased class_of
  erased_kept t c = erased_kept_at t (out-Ty t) refl c c.0 c.1

module _ (T : Table) (H : HasHeaders T) where
  pub declared : (id : ClassId) (s : Ty) → IsIn s (supers_of T id) → HasClass s
  declared id s m = by_class (class_of s) refl (H.hierarchy.classes id.0 s m)
    where
      by_class : (o : Option ClassId) → class_of s ≡ o → IsOfTable T o → HasClass s
      by_class None e i = absurd i
      by_class (Some k) e i = (k, e)

  abbrev Up : ClassId → Ty → Type 0
  Up a u = (c : ClassId) × (class_of u ≡ Some c) × IsSuper T a.0 c.0

  up_from : (a : ClassId) (f : Ty → Ty) → ((w : Ty) (k : ClassId) → class_of w ≡ Some k → class_of (f w) ≡ Some k) → (u : Ty) → IsIn u (map f (supers_of T a)) → Up a u
  up_from a f keeps u m =
      let r = in_mapped f u (supers_of T a) m in
      let d = declared a r.0 r.1 in
      (d.0, along (λ u. class_of u ≡ Some d.0) (sym r.2) (keeps r.0 d.0 d.1), (r.0, r.1, d.1))

  up_by : (a : ClassId) (o : Option (List Arg)) (u : Ty) → IsIn u (class_supers T a o) → Up a u
  up_by a None u m = up_from a erased erased_class u m
  up_by a (Some xs) u m = by_count (length (exacts xs) == length (vars_of T a)) m
    where
      by_count : (b : Bool) → IsIn u (if b then map (subst (vars_of T a) (exacts xs)) (supers_of T a) else map erased (supers_of T a)) → Up a u
      by_count true m = up_from a (subst (vars_of T a) (exacts xs)) (put_class (vars_of T a) (exacts xs)) u m
      by_count false m = up_from a erased erased_class u m

  up_at : (l : Layer) (a : ClassId) (u : Ty) → class_at l ≡ Some a → IsIn u (supers_at T l) → Up a u
  up_at (Ty-F.Class i xs) a u e m =
      let same : i ≡ a = cc in along (λ j. Up j u) same (up_by i (counted (vars_of T i) xs) u m)
  up_at (Ty-F.Raw i) a u e m =
      let same : i ≡ a = cc in along (λ j. Up j u) same (up_by i (counted (vars_of T i) []) u m)
  up_at _ a u e m = cc

  -- the class of each direct supertype is declared
  pub up_of : (t : Ty) (a : ClassId) (u : Ty) → class_of t ≡ Some a → IsIn u (supers T t) → Up a u
  unfolding class_of supers
  up_of t a u e m = up_at (out-Ty t) a u e m

  module _ (g : Ty → Ty) (h : Arg → Arg) (hom : Hom g h) where
    put_mapped : (id : ClassId) (by : List Ty) (s : Ty) → length by ≡ length (vars_of T id) → IsIn s (supers_of T id) → subst (vars_of T id) (map g by) s ≡ g (subst (vars_of T id) by s)
    put_mapped id by s e m =
        agree_on (subst (vars_of T id) (map g by)) (subst_arg (vars_of T id) (map g by)) (λ t. g (subst (vars_of T id) by t)) (λ a. h (subst_arg (vars_of T id) by a)) (substitution (vars_of T id) (map g by))
        (composed g h (subst (vars_of T id) by) (subst_arg (vars_of T id) by) hom (substitution (vars_of T id) by)) s
        (over_along (λ v. IsAmong v (vars_of T id)) (λ v. subst (vars_of T id) (map g by) (Variable v) ≡ g (subst (vars_of T id) by (Variable v)))
        (λ v n. subst-Variable (vars_of T id) (map g by) v ∙ replaced_mapped g (vars_of T id) by v e n ∙ ap g (sym (subst-Variable (vars_of T id) by v))) s (H.scoped id s m))

    all_put : (id : ClassId) (by : List Ty) → length by ≡ length (vars_of T id) → map (subst (vars_of T id) (map g by)) (supers_of T id) ≡ map g (map (subst (vars_of T id) by) (supers_of T id))
    all_put id by e = map_along (subst (vars_of T id) (map g by)) (λ t. g (subst (vars_of T id) by t)) (supers_of T id) (λ s m. put_mapped id by s e m) ∙ sym (map_map g (subst (vars_of T id) by) (supers_of T id))

    all_erased : (id : ClassId) → map erased (supers_of T id) ≡ map g (map erased (supers_of T id))
    all_erased id = map_along erased (λ t. g (erased t)) (supers_of T id) (λ s m. sym (erased_kept g h hom s (declared id s m))) ∙ sym (map_map g erased (supers_of T id))

    number_same : (m n : ℕ) → (m == n) ≡ true → m ≡ n
    number_same m n e = grind (arith, nat_tests)

    class_supers_mapped : (id : ClassId) (o : Option (List Arg)) → class_supers T id (applied_all h o) ≡ map g (class_supers T id o)
    class_supers_mapped id None = all_erased id
    class_supers_mapped id (Some xs) =
        ap (λ ts. if length ts == length (vars_of T id) then map (subst (vars_of T id) ts) (supers_of T id) else map erased (supers_of T id)) (exacts_mapped g h hom xs)
        ∙ ap (λ (n : ℕ). if n == length (vars_of T id) then map (subst (vars_of T id) (map g (exacts xs))) (supers_of T id) else map erased (supers_of T id)) (length-map (exacts xs) g)
        ∙ by_count (length (exacts xs) == length (vars_of T id)) refl
      where
        by_count : (b : Bool) → (length (exacts xs) == length (vars_of T id)) ≡ b → (if b then map (subst (vars_of T id) (map g (exacts xs))) (supers_of T id) else map erased (supers_of T id)) ≡ map g (if b then map (subst (vars_of T id) (exacts xs)) (supers_of T id) else map erased (supers_of T id))
        by_count true e = all_put id (exacts xs) (number_same _ _ e)
        by_count false e = all_erased id

    counted_mapped : (vars : List VarId) (xs : List Arg) → counted vars (map h xs) ≡ applied_all h (counted vars xs)
    counted_mapped [] xs = refl
    counted_mapped (v ∷ vars) xs =
        ap (λ (n : ℕ). if n == length (v ∷ vars) then Some (map h xs) else None) (length-map xs h) ∙ by_count (length xs == length (v ∷ vars))
      where
        by_count : (b : Bool) → (if b then Some (map h xs) else None) ≡ applied_all h (if b then Some xs else None)
        by_count true = refl
        by_count false = refl

    supers_mapped_at : (t : Ty) (l : Layer) (i : ClassId) → out-Ty t ≡ l → class_at l ≡ Some i → supers_at T (out-Ty (g t)) ≡ map g (supers_at T l)
    supers_mapped_at t (Ty-F.Class j xs) i e c =
        ap (λ u. supers_at T (out-Ty u)) (ap g (as_class_type t j xs e) ∙ hom.class j xs) ∙ ap (supers_at T) (outs-Class j (map h xs))
        ∙ ap (class_supers T j) (counted_mapped (vars_of T j) xs) ∙ class_supers_mapped j (counted (vars_of T j) xs)
    supers_mapped_at t (Ty-F.Raw j) i e c =
        ap (λ u. supers_at T (out-Ty u)) (ap g (as_raw_type t j e) ∙ hom.raw j) ∙ ap (supers_at T) (outs-Raw j)
        ∙ ap (class_supers T j) (counted_mapped (vars_of T j) []) ∙ class_supers_mapped j (counted (vars_of T j) [])
    supers_mapped_at t l i e c = cc

    pub supers_mapped : (t : Ty) → HasClass t → supers T (g t) ≡ map g (supers T t)
    unfolding supers class_of
    supers_mapped t c = supers_mapped_at t (out-Ty t) c.0 refl c.1

    firsts_mapped : (f : Ty → Option Ty) (ts : List Ty) → ((t : Ty) → IsIn t ts → f (g t) ≡ applied g (f t)) → first_of f (map g ts) ≡ applied g (first_of f ts)
    firsts_mapped f [] e = refl
    firsts_mapped f (t ∷ ts) e = by_first (f t) (f (g t)) (e t (inl refl)) (firsts_mapped f ts (λ u m. e u (inr m)))
      where
        by_first : (o p : Option Ty) → p ≡ applied g o → first_of f (map g ts) ≡ applied g (first_of f ts) → or_else p (first_of f (map g ts)) ≡ applied g (or_else o (first_of f ts))
        by_first (Some x) p q r = ap (λ p. or_else p (first_of f (map g ts))) q
        by_first None p q r = ap (λ p. or_else p (first_of f (map g ts))) q ∙ r

    view_mapped_within : (n : ℕ) (k : ClassId) (t : Ty) → HasClass t → view_within T n k (g t) ≡ applied g (view_within T n k t)
    view_mapped_within zero k t c = refl
    view_mapped_within (suc n) k t c =
        ap (λ o. if is_class k o then Some (g t) else first_of (view_within T n k) (supers T (g t))) (class_kept g h hom t c.0 c.1 ∙ sym c.1)
        ∙ by_test (is_class k (class_of t)) (firsts_mapped (view_within T n k) (supers T t) (λ u m. let r = up_of t c.0 u c.1 m in view_mapped_within n k u (r.0, r.1)))
      where
        by_test : (b : Bool) → first_of (view_within T n k) (map g (supers T t)) ≡ applied g (first_of (view_within T n k) (supers T t))
            → (if b then Some (g t) else first_of (view_within T n k) (supers T (g t))) ≡ applied g (if b then Some t else first_of (view_within T n k) (supers T t))
        by_test true r = refl
        by_test false r = ap (first_of (view_within T n k)) (supers_mapped t c) ∙ r

    -- the view of the image is the image of the view
    pub view_mapped : (k : ClassId) (t : Ty) → HasClass t → view T k (g t) ≡ applied g (view T k t)
    unfolding view
    view_mapped k t c = view_mapped_within (class_count T + 1) k t c
