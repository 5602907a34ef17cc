-- Methods that stand for one method.
use Rattle.std.proofs.Common.{◌≡◌, ◌⊎◌, ℕ, ◌+◌, ◌==◌, Bool, true, false, ◌&&◌, ◌||◌, inl, inr, List, [], ◌∷◌, map, length, Option, Some, None, refl, sym, ap, subst, ◌∙◌, arith}
use Rattle.std.proofs.lemmas.Bool.Decides.{nat_tests}
use Rattle.std.specs.Str.{bytes_eq}
use Rattle.std.proofs.lemmas.Bool.{and_parts, and_from, or_left, or_right, or_cases}
use Rattle.jc_rules.proofs.Truths.{same_bytes, own_bytes}
use Rattle.jc_types.specs.declared.form.Arg.{Arg, roll-Arg}
use Rattle.jc_types.specs.declared.form.Ty.{Ty, Ty-F, fold-Ty, out-Ty, roll-Ty, roll-out-Ty}
use Rattle.jc_types.specs.declared.form.Ty.TheVariants.{rolls-Array}
use Rattle.jc_types.specs.declared.ids.ClassId.{ClassId}
use Rattle.jc_types.specs.declared.ids.MethodId.{MethodId}
use Rattle.jc_types.specs.declared.ids.VarId.{VarId}
use Rattle.jc_types.specs.declared.table.Table.{Table}
use Rattle.jc_types.specs.Accessors.{method_name_of, method_owner_of}
use Rattle.jc_types.specs.Substitution.{subst as put, subst_step}
use Rattle.jc_overriding.specs.declared.view.MethodView.{MethodView}
use Rattle.jc_overriding.specs.Signatures.{adapted, erased_in, first_bound, is_erasure, leftmost, leftmost_at, override_equivalent, same_all, same_lists, same_signature, subsignature, variables}
use Rattle.jc_overriding.specs.Viewing.{Seeing, With, Raised, bounds_with, class_view, is_static, own_type, plain, seeing_of, view_of_owner, viewed_by, viewed_in}
use Rattle.jc_header_laws.proofs.Settled.{all_twice, plain_of_settled, plain_over, plain_settled}
use Rattle.jc_clashes.proofs.Lists.{all_same, self_same}

-- ---- lists of types

all_along : (f g : Ty → Ty) → ((t : Ty) → f t ≡ g t) → (ts : List Ty) → map f ts ≡ map g ts
all_along f g h [] = refl
all_along f g h (t ∷ ts) = ap (λ u. u ∷ map f ts) (h t) ∙ ap (λ us. g t ∷ us) (all_along f g h ts)

-- ---- without type parameters

step_none : (by : List Ty) (l : Ty-F Arg Ty) → subst_step [] by l ≡ subst_step [] [] l
step_none by (Ty-F.Variable v) = refl
step_none by (Ty-F.Array t n) = refl
step_none by (Ty-F.Prim p) = refl
step_none by (Ty-F.Class i xs) = refl
step_none by (Ty-F.Raw i) = refl
step_none by (Ty-F.Captured c) = refl
step_none by (Ty-F.Meet us) = refl
step_none by Ty-F.NullTy = refl

put_none : (by : List Ty) → put [] by ≡ put [] []
unfolding put
put_none by = λ i t. fold-Ty Arg Ty roll-Arg (λ l. step_none by l i) t

adapted_none : (a b : MethodView) → b.vars ≡ [] → (t : Ty) → adapted a b t ≡ put [] [] t
adapted_none a b e t = ap (λ vs. put vs (variables a.vars) t) e ∙ ap (λ (f : Ty → Ty). f t) (put_none (variables a.vars))

no_length : (vs : List VarId) → (length vs == 0) ≡ true → vs ≡ []
no_length [] e = refl
no_length (v ∷ vs) e = absurd (grind (arith, nat_tests))

-- an erasure by such a view is one by the table alone
module _ (T : Table) (v : MethodView) (none : v.vars ≡ []) where
  at_layer : (t : Ty) (l : Ty-F Arg Ty) → roll-Ty l ≡ t → plain T (leftmost_at (leftmost v 0) v t l) ≡ plain T t
  unfolding leftmost
  at_layer t (Ty-F.Variable w) e = ap (λ vs. plain T (first_bound t w vs v.bounds)) none
  at_layer t (Ty-F.Array u n) e = plain_over T u n ∙ ap (plain T) (sym (rolls-Array u n) ∙ e)
  at_layer t (Ty-F.Prim p) e = refl
  at_layer t (Ty-F.Class i xs) e = refl
  at_layer t (Ty-F.Raw i) e = refl
  at_layer t (Ty-F.Captured c) e = refl
  at_layer t (Ty-F.Meet us) e = refl
  at_layer t Ty-F.NullTy e = refl

  one_step : (t : Ty) → plain T (leftmost v 1 t) ≡ plain T t
  unfolding leftmost
  one_step t = at_layer t (out-Ty t) (roll-out-Ty t)

  erased_none : (t : Ty) → erased_in T v t ≡ plain T t
  erased_none t = ap (λ vs. plain T (leftmost v (length vs + 1) t)) none ∙ one_step t

-- ---- signatures without type parameters

read_same : (a x : MethodView) → x.vars ≡ [] → same_signature a x ≡ true → (a.vars ≡ []) × (a.params ≡ map (put [] []) x.params)
read_same a x none e =
    let parts = and_parts ((length a.vars == length x.vars) && same_lists a.bounds (map (map (adapted a x)) x.bounds)) (same_all a.params (map (adapted a x) x.params)) e in
    let counts = and_parts (length a.vars == length x.vars) (same_lists a.bounds (map (map (adapted a x)) x.bounds)) parts.0 in (
      no_length a.vars (ap (λ (vs : List VarId). length a.vars == length vs) (sym none) ∙ counts.0),
      all_same a.params (map (adapted a x) x.params) parts.1 ∙ all_along (adapted a x) (put [] []) (adapted_none a x none) x.params,
    )

make_same : (a b : MethodView) → a.vars ≡ [] → a.bounds ≡ [] → b.vars ≡ [] → b.bounds ≡ [] → a.params ≡ map (put [] []) b.params → same_signature a b ≡ true
make_same a b e f g h is =
    let counts : (length a.vars == length b.vars) ≡ true = ap (λ (vs : List VarId). length vs == length b.vars) e ∙ ap (λ (vs : List VarId). length {A = VarId} [] == length vs) g in
    let bounds : same_lists a.bounds (map (map (adapted a b)) b.bounds) ≡ true =
    ap (λ bs. same_lists bs (map (map (adapted a b)) b.bounds)) f ∙ ap (λ (bs : List (List Ty)). same_lists [] (map (map (adapted a b)) bs)) h in
    let params : same_all a.params (map (adapted a b) b.params) ≡ true = ap (same_all a.params) (all_along (adapted a b) (put [] []) (adapted_none a b g) b.params ∙ sym is) ∙ self_same a.params in
    and_from _ (same_all a.params (map (adapted a b) b.params)) (and_from (length a.vars == length b.vars) (same_lists a.bounds (map (map (adapted a b)) b.bounds)) counts bounds) params

read_erasure : (T : Table) (a x : MethodView) → x.vars ≡ [] → is_erasure T a x ≡ true → (a.vars ≡ []) × (a.params ≡ map (plain T) x.params)
read_erasure T a x none e =
    let parts = and_parts (length a.vars == 0) (same_all a.params (map (erased_in T x) x.params)) e in
    (no_length a.vars parts.0, all_same a.params (map (erased_in T x) x.params) parts.1 ∙ all_along (erased_in T x) (plain T) (erased_none T x none) x.params)

make_erasure : (T : Table) (a b : MethodView) → a.vars ≡ [] → b.vars ≡ [] → a.params ≡ map (plain T) b.params → is_erasure T a b ≡ true
make_erasure T a b e f is =
    and_from (length a.vars == 0) (same_all a.params (map (erased_in T b) b.params)) (ap (λ (vs : List VarId). length vs == 0) e)
    (ap (same_all a.params) (all_along (erased_in T b) (plain T) (erased_none T b f) b.params ∙ sym is) ∙ self_same a.params)

plain_twice : (T : Table) (ts : List Ty) → map (put [] []) (map (plain T) ts) ≡ map (plain T) ts
plain_twice T [] = refl
plain_twice T (t ∷ ts) = ap (λ u. u ∷ map (put [] []) (map (plain T) ts)) (plain_settled T t) ∙ ap (λ us. plain T t ∷ us) (plain_twice T ts)

plain_behind : (T : Table) (ts : List Ty) → map (plain T) (map (put [] []) ts) ≡ map (plain T) ts
plain_behind T [] = refl
plain_behind T (t ∷ ts) = ap (λ u. u ∷ map (plain T) (map (put [] []) ts)) (plain_of_settled T t) ∙ ap (λ us. plain T t ∷ us) (plain_behind T ts)

-- ---- two subsignatures of one signature

module _ (T : Table) (a b x : MethodView) (none : x.vars ≡ []) (bare : a.vars ≡ [] → a.bounds ≡ []) (empty : b.vars ≡ [] → b.bounds ≡ []) where
  abbrev signs : MethodView → MethodView → Bool
  signs u v = same_signature u v || is_erasure T u v

  like : (signs a x ≡ true) → (signs b x ≡ true) → (signs a b ≡ true) ⊎ (signs b a ≡ true)
  like e f = by (or_cases (same_signature a x) (is_erasure T a x) e) (or_cases (same_signature b x) (is_erasure T b x) f)
    where
      by : (same_signature a x ≡ true) ⊎ (is_erasure T a x ≡ true) → (same_signature b x ≡ true) ⊎ (is_erasure T b x ≡ true) → (signs a b ≡ true) ⊎ (signs b a ≡ true)
      by (inl g) (inl h) =
          let one = read_same a x none g in
          let two = read_same b x none h in
          let params : a.params ≡ map (put [] []) b.params = one.1 ∙ (sym (all_twice x.params) ∙ ap (map (put [] [])) (sym two.1)) in
          inl (or_left (same_signature a b) (is_erasure T a b) (make_same a b one.0 (bare one.0) two.0 (empty two.0) params))
      by (inr g) (inr h) =
          let one = read_erasure T a x none g in
          let two = read_erasure T b x none h in
          let params : a.params ≡ map (put [] []) b.params = one.1 ∙ (sym (plain_twice T x.params) ∙ ap (map (put [] [])) (sym two.1)) in
          inl (or_left (same_signature a b) (is_erasure T a b) (make_same a b one.0 (bare one.0) two.0 (empty two.0) params))
      by (inl g) (inr h) =
          let one = read_same a x none g in
          let two = read_erasure T b x none h in
          let params : b.params ≡ map (plain T) a.params = two.1 ∙ (sym (plain_behind T x.params) ∙ ap (map (plain T)) (sym one.1)) in
          inr (or_right (same_signature b a) (is_erasure T b a) (make_erasure T b a two.0 one.0 params))
      by (inr g) (inl h) =
          let one = read_erasure T a x none g in
          let two = read_same b x none h in
          let params : a.params ≡ map (plain T) b.params = one.1 ∙ (sym (plain_behind T x.params) ∙ ap (map (plain T)) (sym two.1)) in
          inl (or_right (same_signature a b) (is_erasure T a b) (make_erasure T a b one.0 two.0 params))

  abbrev named : MethodView → List ℕ
  named v = method_name_of T v.id

  pub equivalent : subsignature T a x ≡ true → subsignature T b x ≡ true → override_equivalent T a b ≡ true
  equivalent e f = by (like one.1 two.1)
    where
      one : (bytes_eq (named a) (named x) ≡ true) × (signs a x ≡ true)
      one = and_parts (bytes_eq (named a) (named x)) (signs a x) e

      two : (bytes_eq (named b) (named x) ≡ true) × (signs b x ≡ true)
      two = and_parts (bytes_eq (named b) (named x)) (signs b x) f

      names : named a ≡ named b
      names = same_bytes (named a) (named x) one.0 ∙ sym (same_bytes (named b) (named x) two.0)

      by : (signs a b ≡ true) ⊎ (signs b a ≡ true) → override_equivalent T a b ≡ true
      by (inl h) = or_left (subsignature T a b) (subsignature T b a) (and_from (bytes_eq (named a) (named b)) (signs a b) (ap (bytes_eq (named a)) (sym names) ∙ own_bytes (named a)) h)
      by (inr h) = or_right (subsignature T a b) (subsignature T b a) (and_from (bytes_eq (named b) (named a)) (signs b a) (ap (bytes_eq (named b)) names ∙ own_bytes (named b)) h)

-- ---- views without type parameters

no_bounds_by : (T : Table) (m : MethodId) (b : Bool) (s : Seeing) → (viewed_by T m b s).vars ≡ [] → (viewed_by T m b s).bounds ≡ []
no_bounds_by T m true s e = ap (bounds_with T [] []) e
no_bounds_by T m false (With vars by) e = ap (bounds_with T vars by) e
no_bounds_by T m false Raised e = refl

pub no_bounds : (T : Table) (k : ClassId) (m : MethodId) (v : MethodView) → class_view T k m ≡ Some v → v.vars ≡ [] → v.bounds ≡ []
no_bounds T k m v e none = by (view_of_owner T (own_type T k) (method_owner_of T m)) e
  where
    view_or : MethodView → Option MethodView → MethodView
    view_or w None = w
    view_or w (Some u) = u

    by : (o : Option Ty) → viewed_in T m o ≡ Some v → v.bounds ≡ []
    by None h = cc
    by (Some u) h =
        let is : viewed_by T m (is_static T m) (seeing_of T u) ≡ v = ap (view_or v) h in
        subst (λ (w : MethodView). w.bounds ≡ []) is (no_bounds_by T m (is_static T m) (seeing_of T u) (ap (λ (w : MethodView). w.vars) is ∙ none))
