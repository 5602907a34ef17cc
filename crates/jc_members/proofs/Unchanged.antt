-- Methods without type parameters whose parameters' types are their own erasures have the same parameters in each class.
use Rattle.std.proofs.Common.{◌≡◌, ℕ, zero, suc, ◌+◌, ◌==◌, Bool, true, false, not, ◌&&◌, ◌||◌, Option, Some, None, List, [], ◌∷◌, map, length, arith, refl, sym, ap, subst, ◌∙◌}
use Rattle.std.specs.Option.{option_map}
use Rattle.std.specs.Prelude.{is_some}
use Rattle.std.specs.Str.{bytes_eq}
use Rattle.std.proofs.lemmas.Bool.{and_parts}
use Rattle.jc_types.specs.declared.erased.Base.{Base}
use Rattle.jc_types.specs.declared.erased.Base.TheVariants as base
use Rattle.jc_types.specs.declared.erased.Erased.{Erased}
use Rattle.jc_types.specs.declared.form.Arg.{Arg}
use Rattle.jc_types.specs.declared.form.Primitive.{Primitive}
use Rattle.jc_types.specs.declared.form.Ty.{Ty, Ty-F, out-Ty, map-Ty, fold_out-Ty}
use Rattle.jc_types.specs.declared.form.Ty.TheVariants.{Prim, Class, Raw, Array, NullTy, outs-Prim, outs-Class, outs-Raw, outs-Array, outs-NullTy}
use Rattle.jc_types.specs.declared.ids.CaptureId.{CaptureId}
use Rattle.jc_types.specs.declared.ids.ClassId.{ClassId}
use Rattle.jc_types.specs.declared.ids.MethodId.{MethodId}
use Rattle.jc_types.specs.declared.ids.VarId.{VarId}
use Rattle.jc_types.specs.declared.table.Table.{Table}
use Rattle.jc_types.specs.Accessors.{method_name_of, method_owner_of, method_vars_of, params_of, result_of, vars_of}
use Rattle.jc_types.specs.Arrays.{array_over, array_over_at}
use Rattle.jc_types.specs.Erasing.{capped, erased_by, erased_step, erased_within, erasure, plain as unraised}
use Rattle.jc_types.specs.Sameness.{same}
use Rattle.jc_types.specs.Substitution.{subst as put}
use Rattle.jc_types.proofs.Sameness.{same_self, same_told}
use Rattle.jc_types.proofs.Substituted.{subst-Prim, subst-Class, subst-Raw, subst-Array, subst-NullTy}
use Rattle.jc_judge.specs.Views.{view}
use Rattle.jc_overriding.specs.declared.view.MethodView.{MethodView}
use Rattle.jc_overriding.specs.Overriding.{is_above, is_viewed, or_object, owner, same_class, subsignature_of}
use Rattle.jc_overriding.specs.Signatures.{adapted, erased_in, has_no_variables, is_erasure, leftmost, leftmost_at, same_all, same_lists, same_name, same_signature, subsignature, variables}
use Rattle.jc_overriding.specs.Viewing.{Seeing, With, Raised, base_type, bounds_with, class_view, erased_type, is_static, own_type, plain, plain_class, seeing_of, view_of_owner, viewed_by, viewed_in, with_dims}
use Rattle.jc_members.specs.Fixed.{are_declared_alike, are_own_erasures, has_none, is_declared_so, is_fixed, is_own_erasure}

-- ---- what neither substitution nor erasure changes

record Still (t : Ty) : Type 0 where
  pub put : (vars : List VarId) (by : List Ty) → put vars by t ≡ t
  pub over : (n : ℕ) → array_over n t ≡ Array t n
  pub left : (b : MethodView) (n : ℕ) → leftmost b n t ≡ t

stays : (t : Ty) → ((f : Ty → Ty) (b : MethodView) → leftmost_at f b t (out-Ty t) ≡ t) → (b : MethodView) (n : ℕ) → leftmost b n t ≡ t
unfolding leftmost
stays t h b zero = refl
stays t h b (suc n) = h (leftmost b n) b

class_still : (T : Table) (k : ClassId) (vars : List VarId) → Still (plain_class T k vars)
unfolding array_over
class_still T k [] =
    record {
      put = λ vars by. subst-Class vars by k [];
      over = λ n. ap (array_over_at n (Class k [])) (outs-Class k []);
      left = stays (Class k []) (λ f b. ap (leftmost_at f b (Class k [])) (outs-Class k []));
    }
class_still T k (v ∷ vs) =
    record {
      put = λ vars by. subst-Raw vars by k;
      over = λ n. ap (array_over_at n (Raw k)) (outs-Raw k);
      left = stays (Raw k) (λ f b. ap (leftmost_at f b (Raw k)) (outs-Raw k));
    }

base_still : (T : Table) (b : Base) → Still (base_type T b)
unfolding array_over
base_still T (base.Prim p) =
    record {
      put = λ vars by. subst-Prim vars by p;
      over = λ n. ap (array_over_at n (Prim p)) (outs-Prim p);
      left = stays (Prim p) (λ f b. ap (leftmost_at f b (Prim p)) (outs-Prim p));
    }
base_still T (base.Class k) = class_still T k (vars_of T k)
base_still T base.NullTy =
    record {
      put = λ vars by. subst-NullTy vars by;
      over = λ n. ap (array_over_at n NullTy) outs-NullTy;
      left = stays NullTy (λ f b. ap (leftmost_at f b NullTy) outs-NullTy);
    }

-- a type that stays as it is
pub record Fixed (t : Ty) : Type 0 where
  pub put : (vars : List VarId) (by : List Ty) → put vars by t ≡ t
  pub left : (b : MethodView) (n : ℕ) → leftmost b n t ≡ t

array_left : (t : Ty) (n : ℕ) → Still t → (b : MethodView) (m : ℕ) → leftmost b m (Array t n) ≡ Array t n
unfolding leftmost
array_left t n s b zero = refl
array_left t n s b (suc m) = ap (leftmost_at (leftmost b m) b (Array t n)) (outs-Array t n) ∙ ap (array_over n) (s.left b m) ∙ s.over n

dims_fixed : (n : ℕ) (t : Ty) → Still t → Fixed (with_dims n t)
dims_fixed zero t s = record { put = s.put; left = s.left }
dims_fixed (suc n) t s =
    record {
      put = λ vars by. ap (put vars by) (s.over n) ∙ subst-Array vars by t n ∙ ap (array_over n) (s.put vars by);
      left = λ b m. ap (leftmost b m) (s.over n) ∙ array_left t n s b m ∙ sym (s.over n);
    }

plain_fixed : (T : Table) (t : Ty) → Fixed (plain T t)
plain_fixed T t = dims_fixed (erasure T [] t).dims (base_type T (erasure T [] t).base) (base_still T (erasure T [] t).base)

own_told : (T : Table) (t : Ty) → is_own_erasure T t ≡ true → plain T t ≡ t
unfolding is_own_erasure
own_told T t e = same_told (plain T t) t e

pub own_fixed : (T : Table) (t : Ty) → is_own_erasure T t ≡ true → Fixed t
own_fixed T t e = subst Fixed (own_told T t e) (plain_fixed T t)

pub own_erased : (T : Table) (b : MethodView) (t : Ty) → is_own_erasure T t ≡ true → erased_in T b t ≡ t
own_erased T b t e = ap (plain T) ((own_fixed T t e).left b (length b.vars + 1)) ∙ own_told T t e

-- ---- types that are their own erasures

no_vars : (vs : List VarId) → has_none vs ≡ true → vs ≡ []
no_vars [] e = refl
no_vars (v ∷ vs) e = cc

by_layer : (vs : VarId → Erased) (cs : CaptureId → Erased) (t : Ty) (l : Ty-F Arg Ty) → out-Ty t ≡ l → erased_by vs cs t ≡ erased_step vs cs (map-Ty Arg Ty (Unit {0}) Erased (λ _. tt) (erased_by vs cs) l)
unfolding erased_by
by_layer vs cs t l e = fold_out-Ty (Unit {0}) Erased (λ _. tt) (erased_step vs cs) t ∙ ap (λ l. erased_step vs cs (map-Ty Arg Ty (Unit {0}) Erased (λ _. tt) (erased_by vs cs) l)) e

no_dims : (b : Base) → capped (unraised b) ≡ unraised b
no_dims b = ap (λ (d : ℕ). let r : Erased = record { base = b; dims = d } in r) (omega arith)

erasure_is : (T : Table) (t : Ty) (b : Base) → ((vs : VarId → Erased) (cs : CaptureId → Erased) → erased_by vs cs t ≡ unraised b) → erasure T [] t ≡ unraised b
unfolding erasure erased_within
erasure_is T t b h = ap capped (h _ _) ∙ no_dims b

pub own_prim : (T : Table) (p : Primitive) → is_own_erasure T (Prim p) ≡ true
unfolding is_own_erasure
own_prim T p =
    ap (λ e. same (erased_type T e) (Prim p)) (erasure_is T (Prim p) (base.Prim p) (λ vs cs. by_layer vs cs (Prim p) (Ty-F.Prim p) (outs-Prim p))) ∙ same_self (Prim p)

pub own_class : (T : Table) (k : ClassId) → has_none (vars_of T k) ≡ true → is_own_erasure T (Class k []) ≡ true
unfolding is_own_erasure
own_class T k e =
    ap (λ e. same (erased_type T e) (Class k [])) (erasure_is T (Class k []) (base.Class k) (λ vs cs. by_layer vs cs (Class k []) (Ty-F.Class k []) (outs-Class k [])))
    ∙ ap (λ vs. same (plain_class T k vs) (Class k [])) (no_vars (vars_of T k) e) ∙ same_self (Class k [])

pub own_class_of : (T : Table) (k : ClassId) (args : List Arg) → args ≡ [] → has_none (vars_of T k) ≡ true → is_own_erasure T (Class k args) ≡ true
own_class_of T k args e f = subst (λ args. is_own_erasure T (Class k args) ≡ true) (sym e) (own_class T k f)

pub ruleset own_laws = (own_prim, own_class, own_class_of)

-- ---- types of parameters

module _ (T : Table) where
  put_all : (vars : List VarId) (by : List Ty) (ts : List Ty) → are_own_erasures T ts ≡ true → map (put vars by) ts ≡ ts
  put_all vars by [] e = refl
  put_all vars by (t ∷ ts) e =
      let both = and_parts (is_own_erasure T t) (are_own_erasures T ts) e in
      ap (λ u. u ∷ map (put vars by) ts) ((own_fixed T t both.0).put vars by) ∙ ap (λ us. t ∷ us) (put_all vars by ts both.1)

  plain_all : (ts : List Ty) → are_own_erasures T ts ≡ true → map (plain T) ts ≡ ts
  plain_all [] e = refl
  plain_all (t ∷ ts) e =
      let both = and_parts (is_own_erasure T t) (are_own_erasures T ts) e in
      ap (λ u. u ∷ map (plain T) ts) (own_told T t both.0) ∙ ap (λ us. t ∷ us) (plain_all ts both.1)

  erased_all : (b : MethodView) (ts : List Ty) → are_own_erasures T ts ≡ true → map (erased_in T b) ts ≡ ts
  erased_all b [] e = refl
  erased_all b (t ∷ ts) e =
      let both = and_parts (is_own_erasure T t) (are_own_erasures T ts) e in
      ap (λ u. u ∷ map (erased_in T b) ts) (own_erased T b t both.0) ∙ ap (λ us. t ∷ us) (erased_all b ts both.1)

-- ---- a fixed method as a class has it

pub record IsFixed (T : Table) (m : MethodId) : Type 0 where
  pub owned : is_some (method_owner_of T m) ≡ true
  pub vars : method_vars_of T m ≡ []
  pub params : are_own_erasures T (params_of T m) ≡ true

fixed_told : (T : Table) (m : MethodId) → is_fixed T m ≡ true → IsFixed T m
unfolding is_fixed
fixed_told T m e =
    let both = and_parts (is_some (method_owner_of T m) && has_none (method_vars_of T m)) (are_own_erasures T (params_of T m)) e in
    let two = and_parts (is_some (method_owner_of T m)) (has_none (method_vars_of T m)) both.0 in
    record { owned = two.0; vars = no_vars (method_vars_of T m) two.1; params = both.1 }

-- each of its parameters' types is its own erasure
pub params_erased : (T : Table) (m : MethodId) → is_fixed T m ≡ true → map (plain T) (params_of T m) ≡ params_of T m
params_erased T m e = plain_all T (params_of T m) (fixed_told T m e).params

record FixedView (T : Table) (m : MethodId) (a : MethodView) : Type 0 where
  pub id : a.id ≡ m
  pub vars : a.vars ≡ []
  pub bounds : a.bounds ≡ []
  pub params : a.params ≡ params_of T m

seen_fixed : (T : Table) (m : MethodId) (b : Bool) (s : Seeing) → IsFixed T m → FixedView T m (viewed_by T m b s)
seen_fixed T m true s p =
    record { id = refl; vars = p.vars; bounds = ap (bounds_with T [] []) p.vars; params = put_all T [] [] (params_of T m) p.params }
seen_fixed T m false (With vars by) p =
    record { id = refl; vars = p.vars; bounds = ap (bounds_with T vars by) p.vars; params = put_all T vars by (params_of T m) p.params }
seen_fixed T m false Raised p = record { id = refl; vars = refl; bounds = refl; params = plain_all T (params_of T m) p.params }

view_fixed : (T : Table) (k : ClassId) (m : MethodId) (a : MethodView) → is_fixed T m ≡ true → class_view T k m ≡ Some a → FixedView T m a
view_fixed T k m a e is = by (view_of_owner T (own_type T k) (method_owner_of T m)) is
  where
    a_or : Option MethodView → MethodView
    a_or None = a
    a_or (Some b) = b

    by : (o : Option Ty) → viewed_in T m o ≡ Some a → FixedView T m a
    by None g = cc
    by (Some u) g = subst (FixedView T m) (ap a_or g) (seen_fixed T m (is_static T m) (seeing_of T u) (fixed_told T m e))

record Seen (T : Table) (k : ClassId) (m : MethodId) : Type 0 where
  pub view : MethodView
  pub is : class_view T k m ≡ Some view
  pub fixed : FixedView T m view

seen_above : (T : Table) (k : ClassId) (m : MethodId) → is_fixed T m ≡ true → is_viewed (view T (owner T m) (own_type T k)) ≡ true → Seen T k m
seen_above T k m e f = by (method_owner_of T m) refl (fixed_told T m e).owned f
  where
    by_view : (v : Option Ty) → is_viewed v ≡ true → (b : MethodView) × (viewed_in T m v ≡ Some b) × FixedView T m b
    by_view None e = cc
    by_view (Some v) f = (viewed_by T m (is_static T m) (seeing_of T v), refl, seen_fixed T m (is_static T m) (seeing_of T v) (fixed_told T m e))

    by : (o : Option ClassId) → method_owner_of T m ≡ o → is_some o ≡ true → is_viewed (view T (or_object o) (own_type T k)) ≡ true → Seen T k m
    by None is e f = cc
    by (Some o) is e f =
        let r = by_view (view T o (own_type T k)) f in
        record { view = r.0; is = ap (λ o. viewed_in T m (view_of_owner T (own_type T k) o)) is ∙ r.1; fixed = r.2 }

-- ---- signatures

simpler : (x v l s : Bool) → (x && ((v && l && s) || (v && s))) ≡ (x && v && s)
simpler true true true true = refl
simpler true true true false = refl
simpler true true false true = refl
simpler true true false false = refl
simpler true false l s = refl
simpler false v l s = refl

module _ (T : Table) (n : MethodId) (a b : MethodView) (p : IsFixed T n) (q : FixedView T n b) where
  name_told : same_name T a b ≡ bytes_eq (method_name_of T a.id) (method_name_of T n)
  name_told = ap (λ i. bytes_eq (method_name_of T a.id) (method_name_of T i)) q.id

  params_told : map (adapted a b) b.params ≡ params_of T n
  params_told = ap (map (adapted a b)) q.params ∙ put_all T b.vars (variables a.vars) (params_of T n) p.params

  signature_told : same_signature a b ≡ ((length a.vars == 0) && same_lists a.bounds [] && same_all a.params (params_of T n))
  signature_told =
      ap (λ (vs : List VarId). (length a.vars == length vs) && same_lists a.bounds (map (map (adapted a b)) b.bounds) && same_all a.params (map (adapted a b) b.params)) q.vars
      ∙ ap (λ bs. (length a.vars == 0) && same_lists a.bounds (map (map (adapted a b)) bs) && same_all a.params (map (adapted a b) b.params)) q.bounds
      ∙ ap (λ ps. (length a.vars == 0) && same_lists a.bounds [] && same_all a.params ps) params_told

  erasure_told : is_erasure T a b ≡ ((length a.vars == 0) && same_all a.params (params_of T n))
  erasure_told = ap (λ ps. (length a.vars == 0) && same_all a.params ps) (ap (map (erased_in T b)) q.params ∙ erased_all T b (params_of T n) p.params)

  declared_told : subsignature T a b ≡ is_declared_so T a n
  declared_told =
      ap (λ c. c && (same_signature a b || is_erasure T a b)) name_told
      ∙ ap (λ c. bytes_eq (method_name_of T a.id) (method_name_of T n) && (c || is_erasure T a b)) signature_told
      ∙ ap (λ c. bytes_eq (method_name_of T a.id) (method_name_of T n) && (((length a.vars == 0) && same_lists a.bounds [] && same_all a.params (params_of T n)) || c)) erasure_told
      ∙ simpler (bytes_eq (method_name_of T a.id) (method_name_of T n)) (length a.vars == 0) (same_lists a.bounds []) (same_all a.params (params_of T n))

viewed_above : (T : Table) (k l : ClassId) → is_above T k l ≡ true → is_viewed (view T l (own_type T k)) ≡ true
viewed_above T k l e = (and_parts (not (same_class k l)) (is_viewed (view T l (own_type T k))) e).1

-- a signature beside a fixed method above
pub fixed_signature : (T : Table) (k : ClassId) (a : MethodView) (n : MethodId) → is_above T k (owner T n) ≡ true → is_fixed T n ≡ true → subsignature_of T (Some a) (class_view T k n) ≡ is_declared_so T a n
fixed_signature T k a n up e =
    let seen = seen_above T k n e (viewed_above T k (owner T n) up) in
    ap (subsignature_of T (Some a)) seen.is ∙ declared_told T n a seen.view (fixed_told T n e) seen.fixed

so_alike : (T : Table) (m n : MethodId) (a : MethodView) → FixedView T m a → is_declared_so T a n ≡ are_declared_alike T m n
so_alike T m n a p =
    ap (λ (i : MethodId). bytes_eq (method_name_of T i) (method_name_of T n) && has_no_variables a && same_all a.params (params_of T n)) p.id
    ∙ ap (λ (vs : List VarId). bytes_eq (method_name_of T m) (method_name_of T n) && (length vs == 0) && same_all a.params (params_of T n)) p.vars
    ∙ ap (λ ps. bytes_eq (method_name_of T m) (method_name_of T n) && true && same_all ps (params_of T n)) p.params
    ∙ without_true (bytes_eq (method_name_of T m) (method_name_of T n)) (same_all (params_of T m) (params_of T n))
  where
    without_true : (x s : Bool) → (x && true && s) ≡ (x && s)
    without_true true s = refl
    without_true false s = refl

-- two fixed methods
pub fixed_alike : (T : Table) (k : ClassId) (m n : MethodId) → is_fixed T m ≡ true → is_fixed T n ≡ true → is_viewed (view T (owner T m) (own_type T k)) ≡ true → is_above T k (owner T n) ≡ true
    → subsignature_of T (class_view T k m) (class_view T k n) ≡ are_declared_alike T m n
fixed_alike T k m n e f own up =
    let seen = seen_above T k m e own in
    ap (λ o. subsignature_of T o (class_view T k n)) seen.is ∙ fixed_signature T k seen.view n up f ∙ so_alike T m n seen.view seen.fixed

-- .. as a class has both
pub viewed_alike : (T : Table) (k : ClassId) (m n : MethodId) (a b : MethodView) → is_fixed T m ≡ true → is_fixed T n ≡ true → class_view T k m ≡ Some a → class_view T k n ≡ Some b
    → subsignature T a b ≡ are_declared_alike T m n
viewed_alike T k m n a b e f va vb = declared_told T n a b (fixed_told T n f) (view_fixed T k n b f vb) ∙ so_alike T m n a (view_fixed T k m a e va)

pub ruleset fixed_laws = (fixed_signature, fixed_alike)

-- ---- results

abbrev pub keeps_at : Table → Option Ty → Bool
keeps_at T None = true
keeps_at T (Some t) = is_own_erasure T t

result_still : (T : Table) (f : Ty → Ty) (o : Option Ty) → ((t : Ty) → is_own_erasure T t ≡ true → f t ≡ t) → keeps_at T o ≡ true → option_map f o ≡ o
result_still T f None h e = refl
result_still T f (Some t) h e = ap (λ t. let r : Option Ty = Some t in r) (h t e)

-- a result that is its own erasure is the same in each class
pub result_kept : (T : Table) (k : ClassId) (n : MethodId) (b : MethodView) → keeps_at T (result_of T n) ≡ true → class_view T k n ≡ Some b → b.result ≡ result_of T n
result_kept T k n b e is = by (view_of_owner T (own_type T k) (method_owner_of T n)) is
  where
    seen : (s : Bool) (c : Seeing) → (viewed_by T n s c).result ≡ result_of T n
    seen true c = result_still T (put [] []) (result_of T n) (λ t g. (own_fixed T t g).put [] []) e
    seen false (With vars by) = result_still T (put vars by) (result_of T n) (λ t g. (own_fixed T t g).put vars by) e
    seen false Raised = result_still T (plain T) (result_of T n) (λ t g. own_told T t g) e

    result_or : Option MethodView → Option Ty
    result_or None = b.result
    result_or (Some c) = c.result

    by : (o : Option Ty) → viewed_in T n o ≡ Some b → b.result ≡ result_of T n
    by None g = cc
    by (Some u) g = sym (ap result_or g) ∙ seen (is_static T n) (seeing_of T u)
