-- Maps that replace variables in types, such as substitution: two that agree on the variables of a type agree on it, and the other way round.
use Rattle.std.proofs.Common.{◌≡◌, ℕ, ◌+◌, List, [], ◌∷◌, map, refl, sym, ap, subst as along, ◌∙◌}
use Rattle.jc_types.specs.declared.form.Arg.{Arg, out-Arg}
use Rattle.jc_types.specs.declared.form.Arg.TheVariants.{Exact, Any, Extends, Super, outs-Exact, outs-Any, outs-Extends, outs-Super}
use Rattle.jc_types.specs.declared.form.Primitive as kind
use Rattle.jc_types.specs.declared.form.Ty.{Ty, Ty-F, out-Ty}
use Rattle.jc_types.specs.declared.form.Ty.TheVariants.{Prim, Class, Raw, Array, Variable, Meet, NullTy, outs-Prim, outs-Class, outs-Raw, outs-Array, outs-Meet, outs-NullTy}
use Rattle.jc_types.specs.declared.ids.ClassId.{ClassId}
use Rattle.jc_types.specs.declared.ids.VarId.{VarId}
use Rattle.jc_types.specs.Arrays.{array_over}
use Rattle.jc_types.specs.Substitution.{subst, subst_arg}
use Rattle.jc_types.proofs.Substituted.{subst-Prim, subst-Class, subst-Raw, subst-Array, subst-Meet, subst-NullTy, subst_arg-Exact, subst_arg-Any, subst_arg-Extends, subst_arg-Super}
use Rattle.jc_header_rules.specs.Checked.{IsOver, over_primitive, over_class, over_raw, over_array, over_variable, over_meet, over_null, AreOver, none, more, AreArgsOver, no_args, exact, any, extends, super}
use Rattle.jc_lub_laws.proofs.Layers.{as_prim, as_class_type, as_raw_type, as_array, as_variable, as_meet, as_null, as_exact, as_any, as_extends, as_super, class_parts, meet_parts, exact_parts, extends_parts, super_parts, Dimensions, on_array, on_other, dimensions, array_twice, array_over_same}

pub record Hom (g : Ty → Ty) (h : Arg → Arg) : Type 0 where
  pub prim : (p : kind.Primitive) → g (Prim p) ≡ Prim p
  pub class : (i : ClassId) (xs : List Arg) → g (Class i xs) ≡ Class i (map h xs)
  pub raw : (i : ClassId) → g (Raw i) ≡ Raw i
  pub array : (t : Ty) (n : ℕ) → g (Array t n) ≡ array_over n (g t)
  pub meet : (ts : List Ty) → g (Meet ts) ≡ Meet (map g ts)
  pub null : g NullTy ≡ NullTy
  pub exacts : (t : Ty) → h (Exact t) ≡ Exact (g t)
  pub anys : h Any ≡ Any
  pub extend : (t : Ty) → h (Extends t) ≡ Extends (g t)
  pub supers : (t : Ty) → h (Super t) ≡ Super (g t)

pub substitution : (vars : List VarId) (by : List Ty) → Hom (subst vars by) (subst_arg vars by)
substitution vars by = record {
  prim = subst-Prim vars by;
  class = subst-Class vars by;
  raw = subst-Raw vars by;
  array = subst-Array vars by;
  meet = subst-Meet vars by;
  null = subst-NullTy vars by;
  exacts = subst_arg-Exact vars by;
  anys = subst_arg-Any vars by;
  extend = subst_arg-Extends vars by;
  supers = subst_arg-Super vars by;
}

module _ (g : Ty → Ty) (h : Arg → Arg) (hom : Hom g h) where
  -- dimensions are kept
  pub hom_over : (n : ℕ) (t : Ty) → g (array_over n t) ≡ array_over n (g t)
  hom_over n t = by_kind (dimensions n t)
    where
      by_kind : Dimensions n t → g (array_over n t) ≡ array_over n (g t)
      by_kind (on_array u m e f) =
          ap g f ∙ hom.array u (m + n + 1) ∙ sym (array_twice n m (g u)) ∙ ap (array_over n) (sym (ap g e ∙ hom.array u m))
      by_kind (on_other f) = ap g f ∙ hom.array t n

mapped_twice : {X : Type 0} (f g : X → X) (xs : List X) → map f (map g xs) ≡ map (λ x. f (g x)) xs
mapped_twice f g [] = refl
mapped_twice f g (x ∷ xs) = ap (λ ys. f (g x) ∷ ys) (mapped_twice f g xs)

pub composed : (g : Ty → Ty) (h : Arg → Arg) (f : Ty → Ty) (k : Arg → Arg) → Hom g h → Hom f k → Hom (λ t. g (f t)) (λ a. h (k a))
composed g h f k a b = record {
  prim = λ p. ap g (b.prim p) ∙ a.prim p;
  class = λ i xs. ap g (b.class i xs) ∙ a.class i (map k xs) ∙ ap (Class i) (mapped_twice h k xs);
  raw = λ i. ap g (b.raw i) ∙ a.raw i;
  array = λ t n. ap g (b.array t n) ∙ hom_over g h a n (f t);
  meet = λ ts. ap g (b.meet ts) ∙ a.meet (map f ts) ∙ ap Meet (mapped_twice g f ts);
  null = ap g b.null ∙ a.null;
  exacts = λ t. ap h (b.exacts t) ∙ a.exacts (f t);
  anys = ap h b.anys ∙ a.anys;
  extend = λ t. ap h (b.extend t) ∙ a.extend (f t);
  supers = λ t. ap h (b.supers t) ∙ a.supers (f t);
}

heads : {X : Type 0} (x y : X) (xs ys : List X) → x ∷ xs ≡ y ∷ ys → (x ≡ y) × (xs ≡ ys)
heads x y xs ys e = ((let s : x ≡ y = cc in s), (let s : xs ≡ ys = cc in s))

module _ (g : Ty → Ty) (h : Arg → Arg) (k : Ty → Ty) (l : Arg → Arg) (a : Hom g h) (b : Hom k l) where
  abbrev pub Agree : VarId → Type 0
  Agree v = g (Variable v) ≡ k (Variable v)

  mutual
    pub agree_on : (t : Ty) → IsOver Agree t → g t ≡ k t
    agree_on t (over_primitive {p = p} e) = let s = as_prim t p e in ap g s ∙ a.prim p ∙ sym (ap k s ∙ b.prim p)
    agree_on t (over_class {id = i} {args = xs} e o) =
        let s = as_class_type t i xs e in ap g s ∙ a.class i xs ∙ ap (Class i) (agree_on_args xs o) ∙ sym (ap k s ∙ b.class i xs)
    agree_on t (over_raw {id = i} e) = let s = as_raw_type t i e in ap g s ∙ a.raw i ∙ sym (ap k s ∙ b.raw i)
    agree_on t (over_array {u = u} {n = n} e o) =
        let s = as_array t u n e in ap g s ∙ a.array u n ∙ ap (array_over n) (agree_on u o) ∙ sym (ap k s ∙ b.array u n)
    agree_on t (over_variable {v = v} e o) = let s = as_variable t v e in ap g s ∙ o ∙ sym (ap k s)
    agree_on t (over_meet {parts = ts} e o) =
        let s = as_meet t ts e in ap g s ∙ a.meet ts ∙ ap Meet (agree_on_all ts o) ∙ sym (ap k s ∙ b.meet ts)
    agree_on t (over_null e) = let s = as_null t e in ap g s ∙ a.null ∙ sym (ap k s ∙ b.null)

    agree_on_all : (ts : List Ty) → AreOver Agree ts → map g ts ≡ map k ts
    agree_on_all [] none = refl
    agree_on_all (t ∷ ts) (more o os) = ap (λ u. u ∷ map g ts) (agree_on t o) ∙ ap (λ us. k t ∷ us) (agree_on_all ts os)

    pub agree_on_args : (xs : List Arg) → AreArgsOver Agree xs → map h xs ≡ map l xs
    agree_on_args [] no_args = refl
    agree_on_args (x ∷ xs) (exact {t = t} e o os) =
        let s = as_exact x t e in
        ap (λ u. u ∷ map h xs) (ap h s ∙ a.exacts t ∙ ap Exact (agree_on t o) ∙ sym (ap l s ∙ b.exacts t)) ∙ ap (λ us. l x ∷ us) (agree_on_args xs os)
    agree_on_args (x ∷ xs) (any e os) =
        let s = as_any x e in ap (λ u. u ∷ map h xs) (ap h s ∙ a.anys ∙ sym (ap l s ∙ b.anys)) ∙ ap (λ us. l x ∷ us) (agree_on_args xs os)
    agree_on_args (x ∷ xs) (extends {t = t} e o os) =
        let s = as_extends x t e in
        ap (λ u. u ∷ map h xs) (ap h s ∙ a.extend t ∙ ap Extends (agree_on t o) ∙ sym (ap l s ∙ b.extend t)) ∙ ap (λ us. l x ∷ us) (agree_on_args xs os)
    agree_on_args (x ∷ xs) (super {t = t} e o os) =
        let s = as_super x t e in
        ap (λ u. u ∷ map h xs) (ap h s ∙ a.supers t ∙ ap Super (agree_on t o) ∙ sym (ap l s ∙ b.supers t)) ∙ ap (λ us. l x ∷ us) (agree_on_args xs os)

  -- where they agree on a type they agree on its variables, each of which keeps what held of it
  module _ (V : VarId → Type 0) where
    mutual
      pub narrow : (t : Ty) → IsOver V t → g t ≡ k t → IsOver (λ v. V v × Agree v) t
      narrow t (over_primitive e) q = over_primitive e
      narrow t (over_class {id = i} {args = xs} e o) q =
          let s = as_class_type t i xs e in
          over_class e (narrow_args xs o (class_parts i i (map h xs) (map l xs) (sym (ap g s ∙ a.class i xs) ∙ q ∙ ap k s ∙ b.class i xs)).1)
      narrow t (over_raw e) q = over_raw e
      narrow t (over_array {u = u} {n = n} e o) q =
          let s = as_array t u n e in over_array e (narrow u o (array_over_same n (g u) (k u) (sym (ap g s ∙ a.array u n) ∙ q ∙ ap k s ∙ b.array u n)))
      narrow t (over_variable {v = v} e o) q = let s = as_variable t v e in over_variable e (o, sym (ap g s) ∙ q ∙ ap k s)
      narrow t (over_meet {parts = ts} e o) q =
          let s = as_meet t ts e in over_meet e (narrow_all ts o (meet_parts (map g ts) (map k ts) (sym (ap g s ∙ a.meet ts) ∙ q ∙ ap k s ∙ b.meet ts)))
      narrow t (over_null e) q = over_null e

      narrow_all : (ts : List Ty) → AreOver V ts → map g ts ≡ map k ts → AreOver (λ v. V v × Agree v) ts
      narrow_all [] none q = none
      narrow_all (t ∷ ts) (more o os) q = let p = heads (g t) (k t) (map g ts) (map k ts) q in more (narrow t o p.0) (narrow_all ts os p.1)

      pub narrow_args : (xs : List Arg) → AreArgsOver V xs → map h xs ≡ map l xs → AreArgsOver (λ v. V v × Agree v) xs
      narrow_args [] no_args q = no_args
      narrow_args (x ∷ xs) (exact {t = t} e o os) q =
          let s = as_exact x t e in
          let p = heads (h x) (l x) (map h xs) (map l xs) q in
          exact e (narrow t o (exact_parts (g t) (k t) (sym (ap h s ∙ a.exacts t) ∙ p.0 ∙ ap l s ∙ b.exacts t))) (narrow_args xs os p.1)
      narrow_args (x ∷ xs) (any e os) q = any e (narrow_args xs os (heads (h x) (l x) (map h xs) (map l xs) q).1)
      narrow_args (x ∷ xs) (extends {t = t} e o os) q =
          let s = as_extends x t e in
          let p = heads (h x) (l x) (map h xs) (map l xs) q in
          extends e (narrow t o (extends_parts (g t) (k t) (sym (ap h s ∙ a.extend t) ∙ p.0 ∙ ap l s ∙ b.extend t))) (narrow_args xs os p.1)
      narrow_args (x ∷ xs) (super {t = t} e o os) q =
          let s = as_super x t e in
          let p = heads (h x) (l x) (map h xs) (map l xs) q in
          super e (narrow t o (super_parts (g t) (k t) (sym (ap h s ∙ a.supers t) ∙ p.0 ∙ ap l s ∙ b.supers t))) (narrow_args xs os p.1)

-- what holds of each variable
module _ (V W : VarId → Type 0) (f : (v : VarId) → V v → W v) where
  mutual
    pub over_along : (t : Ty) → IsOver V t → IsOver W t
    over_along t (over_primitive e) = over_primitive e
    over_along t (over_class {args = xs} e o) = over_class e (args_along xs o)
    over_along t (over_raw e) = over_raw e
    over_along t (over_array {u = u} e o) = over_array e (over_along u o)
    over_along t (over_variable {v = v} e o) = over_variable e (f v o)
    over_along t (over_meet {parts = ts} e o) = over_meet e (all_along ts o)
    over_along t (over_null e) = over_null e

    all_along : (ts : List Ty) → AreOver V ts → AreOver W ts
    all_along [] none = none
    all_along (t ∷ ts) (more o os) = more (over_along t o) (all_along ts os)

    pub args_along : (xs : List Arg) → AreArgsOver V xs → AreArgsOver W xs
    args_along [] no_args = no_args
    args_along (x ∷ xs) (exact {t = t} e o os) = exact e (over_along t o) (args_along xs os)
    args_along (x ∷ xs) (any e os) = any e (args_along xs os)
    args_along (x ∷ xs) (extends {t = t} e o os) = extends e (over_along t o) (args_along xs os)
    args_along (x ∷ xs) (super {t = t} e o os) = super e (over_along t o) (args_along xs os)

-- substitution by types over V
inner_over : (V : VarId → Type 0) (t u : Ty) (n : ℕ) → t ≡ Array u n → IsOver V t → IsOver V u
inner_over V t u n s (over_primitive e) = let o : out-Ty t ≡ Ty-F.Array u n = ap out-Ty s ∙ outs-Array u n in cc
inner_over V t u n s (over_class e o) = let o : out-Ty t ≡ Ty-F.Array u n = ap out-Ty s ∙ outs-Array u n in cc
inner_over V t u n s (over_raw e) = let o : out-Ty t ≡ Ty-F.Array u n = ap out-Ty s ∙ outs-Array u n in cc
inner_over V t u n s (over_array {u = w} e o) = let out : out-Ty t ≡ Ty-F.Array u n = ap out-Ty s ∙ outs-Array u n in let same : w ≡ u = cc in along (IsOver V) same o
inner_over V t u n s (over_variable e o) = let o : out-Ty t ≡ Ty-F.Array u n = ap out-Ty s ∙ outs-Array u n in cc
inner_over V t u n s (over_meet e o) = let o : out-Ty t ≡ Ty-F.Array u n = ap out-Ty s ∙ outs-Array u n in cc
inner_over V t u n s (over_null e) = let o : out-Ty t ≡ Ty-F.Array u n = ap out-Ty s ∙ outs-Array u n in cc

pub dimensions_over : (V : VarId → Type 0) (n : ℕ) (t : Ty) → IsOver V t → IsOver V (array_over n t)
dimensions_over V n t o = by_kind (dimensions n t)
  where
    by_kind : Dimensions n t → IsOver V (array_over n t)
    by_kind (on_array u m e f) = along (IsOver V) (sym f) (over_array (outs-Array u (m + n + 1)) (inner_over V t u m e o))
    by_kind (on_other f) = along (IsOver V) (sym f) (over_array (outs-Array t n) o)

module _ (V W : VarId → Type 0) (vars : List VarId) (by : List Ty) (f : (v : VarId) → V v → IsOver W (subst vars by (Variable v))) where
  mutual
    pub put_over : (t : Ty) → IsOver V t → IsOver W (subst vars by t)
    put_over t (over_primitive {p = p} e) = over_primitive (ap out-Ty (ap (subst vars by) (as_prim t p e) ∙ subst-Prim vars by p) ∙ outs-Prim p)
    put_over t (over_class {id = i} {args = xs} e o) =
        over_class (ap out-Ty (ap (subst vars by) (as_class_type t i xs e) ∙ subst-Class vars by i xs) ∙ outs-Class i (map (subst_arg vars by) xs)) (put_args_over xs o)
    put_over t (over_raw {id = i} e) = over_raw (ap out-Ty (ap (subst vars by) (as_raw_type t i e) ∙ subst-Raw vars by i) ∙ outs-Raw i)
    put_over t (over_array {u = u} {n = n} e o) =
        along (IsOver W) (sym (ap (subst vars by) (as_array t u n e) ∙ subst-Array vars by u n)) (dimensions_over W n (subst vars by u) (put_over u o))
    put_over t (over_variable {v = v} e o) = along (IsOver W) (ap (subst vars by) (sym (as_variable t v e))) (f v o)
    put_over t (over_meet {parts = ts} e o) =
        over_meet (ap out-Ty (ap (subst vars by) (as_meet t ts e) ∙ subst-Meet vars by ts) ∙ outs-Meet (map (subst vars by) ts)) (put_all_over ts o)
    put_over t (over_null e) = over_null (ap out-Ty (ap (subst vars by) (as_null t e) ∙ subst-NullTy vars by) ∙ outs-NullTy)

    put_all_over : (ts : List Ty) → AreOver V ts → AreOver W (map (subst vars by) ts)
    put_all_over [] none = none
    put_all_over (t ∷ ts) (more o os) = more (put_over t o) (put_all_over ts os)

    put_args_over : (xs : List Arg) → AreArgsOver V xs → AreArgsOver W (map (subst_arg vars by) xs)
    put_args_over [] no_args = no_args
    put_args_over (x ∷ xs) (exact {t = t} e o os) =
        exact (ap out-Arg (ap (subst_arg vars by) (as_exact x t e) ∙ subst_arg-Exact vars by t) ∙ outs-Exact (subst vars by t)) (put_over t o) (put_args_over xs os)
    put_args_over (x ∷ xs) (any e os) = any (ap out-Arg (ap (subst_arg vars by) (as_any x e) ∙ subst_arg-Any vars by) ∙ outs-Any) (put_args_over xs os)
    put_args_over (x ∷ xs) (extends {t = t} e o os) =
        extends (ap out-Arg (ap (subst_arg vars by) (as_extends x t e) ∙ subst_arg-Extends vars by t) ∙ outs-Extends (subst vars by t)) (put_over t o) (put_args_over xs os)
    put_args_over (x ∷ xs) (super {t = t} e o os) =
        super (ap out-Arg (ap (subst_arg vars by) (as_super x t e) ∙ subst_arg-Super vars by t) ∙ outs-Super (subst vars by t)) (put_over t o) (put_args_over xs os)
