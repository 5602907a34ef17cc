-- A kept type that fits a type has a view as each class that the type has one as, with arguments that those of the type's view hold.
use Rattle.std.proofs.Common.{◌≡◌, ◌≢◌, ◌⊎◌, inl, inr, ℕ, zero, suc, ◌==◌, not, Bool, true, false, Option, Some, None, List, [], ◌∷◌, length, map, get_or, if◌then◌else◌, refl, sym, ap, subst as along, ◌∙◌, arith}
use Rattle.std.proofs.lemmas.List.{length-map}
use Rattle.std.proofs.lemmas.Bool.Decides.{nat_tests}
use Rattle.jc_rules.proofs.Truths.{equal_numbers}
use Rattle.jc_types.specs.declared.environment.Bounds.{Bounds}
use Rattle.jc_types.specs.declared.form.Arg.{Arg, Arg-F, out-Arg}
use Rattle.jc_types.specs.declared.form.Arg.TheVariants.{Exact, outs-Exact}
use Rattle.jc_types.specs.declared.form.Ty.{Ty, Ty-F, out-Ty}
use Rattle.jc_types.specs.declared.form.Ty.TheVariants.{Class, Raw, Variable, Meet, NullTy, outs-Class, outs-Raw, outs-Variable, outs-Meet}
use Rattle.jc_types.specs.declared.ids.ClassId.{ClassId}
use Rattle.jc_types.specs.declared.ids.VarId.{VarId}
use Rattle.jc_types.specs.declared.table.Table.{Table}
use Rattle.jc_types.specs.Accessors.{supers_of, vars_of, bounds_of, uppers_of}
use Rattle.jc_types.specs.Arrays.{element, element_at}
use Rattle.jc_types.specs.Substitution.{subst, subst_arg, replacement}
use Rattle.jc_types.proofs.Substituted.{subst-Class, subst-Variable}
use Rattle.jc_judge.specs.Kinds.{Layer, class_of, class_at, is_object, is_object_at}
use Rattle.jc_judge.specs.Supers.{IsIn, IsAbove, IsSuper, Path, numbered}
use Rattle.jc_judge.specs.Views.{erased, first_of, supers, supers_at, view}
use Rattle.jc_judge.proofs.Finds.{views_found}
use Rattle.jc_sub.specs.Reaching.{own_arg}
use Rattle.jc_lub.specs.Uncaptured.{args_at, args_of, all_passed, class_view, filled, put, put_at, put_view, up_view_at, up_view_within, up_view, view_steps}
use Rattle.jc_meaning.specs.declared.frame.Binding.{Binding}
use Rattle.jc_meaning.specs.Kept.{bound_to, close}
use Rattle.jc_meaning.specs.Levels.{BelowAll, BelowAt, Views, AllHeld, FitsOver, to_object, to_raw, to_class, to_primitives, to_array, to_meet, FitsAll, more, is_raw, is_raw_at, SoundOver, sound_class, sound_array}
use Rattle.jc_header_rules.specs.Checked.{IsAmong, IsOver, over_class, over_primitive, over_raw, over_array, over_variable, over_meet, over_null, AreArgsOver, no_args, exact, any, extends, super, IsSupertype, with_arguments, without, HasHeaders}
use Rattle.jc_lub_laws.specs.Standing.{Stand}
use Rattle.jc_lub_laws.specs.Under.{AllIn}
use Rattle.jc_lub_laws.proofs.Closing.{close_arg, closing, close_variable, close_captured}
use Rattle.jc_lub_laws.proofs.Held.{exact_held, passed_held}
use Rattle.jc_lub_laws.proofs.Homs.{substitution, put_over}
use Rattle.jc_lub_laws.proofs.Layers.{as_class_type, as_raw_type, as_meet, class_parts, exact_parts}
use Rattle.jc_lub_laws.proofs.Listed.{IsUp, itself, above, own_type}
use Rattle.jc_lub_laws.proofs.Unique.{class_made, raw_made, first_from, view_up, full_supers, raw_supers, plain_supers, erased_made, erased_plain, erased_raw, exact_put, super_supertype, up_supertype, up_above, IsFull, full_own, compose, view_supertype, raw_compose}
use Rattle.jc_lub_laws.proofs.Viewed.{HasClass, applied, up_of, in_mapped, view_mapped}

-- ---- what isn't of one kind

no_class_of_array : (k : Ty) (a : Ty) (i : ClassId) → element k ≡ Some a → class_of k ≡ Some i → ⊥
unfolding element class_of
no_class_of_array k a i e c = by_layer (out-Ty k) e c
  where
    by_layer : (l : Layer) → element_at l ≡ Some a → class_at l ≡ Some i → ⊥
    by_layer (Ty-F.Array u n) e c = let none : None ≡ Some i = c in cc
    by_layer l e c = let none : None ≡ Some a = e in cc

some_same : (t u : Ty) → Some t ≡ Some u → t ≡ u
some_same t u e = cc

path_joined : (T : Table) (xs : List ℕ) (a b c : ℕ) → Path (IsSuper T) xs a b → IsAbove T b c → IsAbove T a c
path_joined T [] a b c p q = along (λ x. IsAbove T x c) (sym p) q
path_joined T (x ∷ xs) a b c p q = let r = path_joined T xs p.1 b c p.3 q in (x ∷ r.0, (p.0, p.1, p.2, r.1))

args_made : (i : ClassId) (xs : List Arg) → args_of (Class i xs) ≡ xs
unfolding args_of
args_made i xs = ap args_at (outs-Class i xs)

args_raw : (i : ClassId) → args_of (Raw i) ≡ []
unfolding args_of
args_raw i = ap args_at (outs-Raw i)

-- a type is over the variables that its class's parameters are put with
owned : (vars : List VarId) (xs : List VarId) → ((v : VarId) → IsAmong v xs → IsAmong v vars) → AreArgsOver (λ v. IsAmong v vars) (map own_arg xs)
owned vars [] f = no_args
owned vars (x ∷ xs) f = exact (outs-Exact (Variable x)) (over_variable (outs-Variable x) (f x (inl refl))) (owned vars xs (λ v m. f v (inr m)))

module _ (T : Table) (H : HasHeaders T) where
  -- Object is at the top
  above_object : (v : Ty) (t : Ty) (i : ClassId) → class_of t ≡ Some i → i.0 ≡ 0 → IsUp T t v → class_of v ≡ Some i
  above_object v t i c z (itself e) = ap class_of (sym e) ∙ c
  above_object v t i c z (above m n f) =
      let u = up_of T H t i m c n in
      let none : supers_of T i ≡ [] = ap (λ (x : ℕ). supers_of T (numbered x)) z ∙ H.hierarchy.object in
      absurd (along (IsIn u.2.0) none u.2.1)

  object_view : (j k : ClassId) (t v : Ty) → class_of t ≡ Some j → j.0 ≡ 0 → view T k t ≡ Some v → (k.0 == 0) ≡ true
  object_view j k t v c z e =
      let u = view_up T k t v e in
      let s : Some j ≡ Some k = sym (above_object v t j c z u.0) ∙ u.1 in
      let same : j ≡ k = cc in
      let n : k.0 ≡ 0 = sym (ap (λ (i : ClassId). i.0) same) ∙ z in
      grind (arith, nat_tests)

  -- the one supertype of an array
  array_up : (k : ClassId) (t u v : Ty) (n : ℕ) → out-Ty t ≡ Ty-F.Array u n → view T k t ≡ Some v → (k.0 == 0) ≡ true
  unfolding class_of supers
  array_up k t u v n e f = by_up (view_up T k t v f)
    where
      by_up : IsUp T t v × (class_of v ≡ Some k) → (k.0 == 0) ≡ true
      by_up (itself s, c) = let none : None ≡ Some k = sym (ap class_at e) ∙ ap (λ (x : Ty). class_at (out-Ty x)) s ∙ c in cc
      by_up (above m i g, c) = from_object m (along (IsIn m) (ap (supers_at T) e) i) g c
        where
          from_object : (m : Ty) → IsIn m (Class (record { 0 = 0 }) [] ∷ []) → IsUp T m v → class_at (out-Ty v) ≡ Some k → (k.0 == 0) ≡ true
          from_object m (inl s) g c =
              let h : class_at (out-Ty v) ≡ Some (numbered 0) = above_object v m (numbered 0) (ap (λ (x : Ty). class_at (out-Ty x)) s ∙ ap class_at (outs-Class (numbered 0) [])) refl g in
              let q : Some (numbered 0) ≡ Some k = sym h ∙ c in
              let same : numbered 0 ≡ k = cc in
              let z : k.0 ≡ 0 = sym (ap (λ (i : ClassId). i.0) same) in
              grind (arith, nat_tests)
          from_object m (inr s) g c = absurd s

  replaced_over : (V : VarId → Type 0) (vars : List VarId) (es : List Ty) (v : VarId) → length es ≡ length vars → IsAmong v vars → ((e : Ty) → IsAmong e es → IsOver V e) → IsOver V (replacement vars es v)
  replaced_over V [] es v l m f = absurd m
  replaced_over V (w ∷ vars) [] v l m f = absurd (omega (arith, l))
  replaced_over V (w ∷ vars) (e ∷ es) v l m f =
      by_test (λ q. replaced_over V vars es v (let s : length es ≡ length vars = omega (arith, l) in s) q (λ x o. f x (inr o))) (w.0 == v.0) refl m
    where
      by_test : (IsAmong v vars → IsOver V (replacement vars es v)) → (b : Bool) → (w.0 == v.0) ≡ b → (v ≡ w) ⊎ IsAmong v vars → IsOver V (if b then e else replacement vars es v)
      by_test rest true q m = f e (inl refl)
      by_test rest false q (inl s) = let y : w.0 ≡ v.0 = ap (λ (z : VarId). z.0) (sym s) in let z : true ≡ false = grind (arith, nat_tests, q, y) in cc
      by_test rest false q (inr m) = rest m

  arg_over_at : (V : VarId → Type 0) (e : Ty) (x : Arg) (xs : List Arg) → x ≡ Exact e → AreArgsOver V (x ∷ xs) → IsOver V e × AreArgsOver V xs
  arg_over_at V e x xs s (exact {t = t} q o os) =
      let out : Arg-F.Exact e ≡ Arg-F.Exact t = sym (outs-Exact e) ∙ sym (ap out-Arg s) ∙ q in
      let same : t ≡ e = cc in
      (along (IsOver V) same o, os)
  arg_over_at V e x xs s (any q os) = let out : Arg-F.Exact e ≡ Arg-F.Any = sym (outs-Exact e) ∙ sym (ap out-Arg s) ∙ q in cc
  arg_over_at V e x xs s (extends {t = t} q o os) = let out : Arg-F.Exact e ≡ Arg-F.Extends t = sym (outs-Exact e) ∙ sym (ap out-Arg s) ∙ q in cc
  arg_over_at V e x xs s (super {t = t} q o os) = let out : Arg-F.Exact e ≡ Arg-F.Super t = sym (outs-Exact e) ∙ sym (ap out-Arg s) ∙ q in cc

  each_over : (V : VarId → Type 0) (es : List Ty) → AreArgsOver V (map Exact es) → (e : Ty) → IsAmong e es → IsOver V e
  each_over V [] o e m = absurd m
  each_over V (x ∷ es) o e (inl s) = along (IsOver V) (sym s) (arg_over_at V x (Exact x) (map Exact es) refl o).0
  each_over V (x ∷ es) o e (inr m) = each_over V es (arg_over_at V x (Exact x) (map Exact es) refl o).1 e m

  types_over : (V : VarId → Type 0) (i : ClassId) (es : List Ty) (t : Ty) → t ≡ Class i (map Exact es) → IsOver V t → (e : Ty) → IsAmong e es → IsOver V e
  types_over V i es t s (over_class {id = j} {args = xs} q o) =
      let out : Ty-F.Class i (map Exact es) ≡ Ty-F.Class j xs = sym (outs-Class i (map Exact es)) ∙ sym (ap out-Ty s) ∙ q in
      let same : xs ≡ map Exact es = cc in
      each_over V es (along (AreArgsOver V) same o)
  types_over V i es t s (over_primitive {p = p} q) = let out : Ty-F.Class i (map Exact es) ≡ Ty-F.Prim p = sym (outs-Class i (map Exact es)) ∙ sym (ap out-Ty s) ∙ q in cc
  types_over V i es t s (over_raw {id = j} q) = let out : Ty-F.Class i (map Exact es) ≡ Ty-F.Raw j = sym (outs-Class i (map Exact es)) ∙ sym (ap out-Ty s) ∙ q in cc
  types_over V i es t s (over_array {u = u} {n = n} q o) = let out : Ty-F.Class i (map Exact es) ≡ Ty-F.Array u n = sym (outs-Class i (map Exact es)) ∙ sym (ap out-Ty s) ∙ q in cc
  types_over V i es t s (over_variable {v = v} q o) = let out : Ty-F.Class i (map Exact es) ≡ Ty-F.Variable v = sym (outs-Class i (map Exact es)) ∙ sym (ap out-Ty s) ∙ q in cc
  types_over V i es t s (over_meet {parts = ts} q o) = let out : Ty-F.Class i (map Exact es) ≡ Ty-F.Meet ts = sym (outs-Class i (map Exact es)) ∙ sym (ap out-Ty s) ∙ q in cc
  types_over V i es t s (over_null q) = let out : Ty-F.Class i (map Exact es) ≡ Ty-F.NullTy = sym (outs-Class i (map Exact es)) ∙ sym (ap out-Ty s) ∙ q in cc

  erased_over : (V : VarId → Type 0) (s : Ty) → IsSupertype T s → IsOver V (erased s)
  erased_over V s (with_arguments {id = j} [] e l) = over_class (ap out-Ty (ap erased e ∙ erased_plain j) ∙ outs-Class j []) no_args
  erased_over V s (with_arguments {id = j} (t ∷ ts) e l) = over_raw (ap out-Ty (ap erased e ∙ erased_made j (Exact t) (map Exact ts)) ∙ outs-Raw j)
  erased_over V s (without {id = j} e ne) = over_raw (ap out-Ty (ap erased e ∙ erased_raw j) ∙ outs-Raw j)

  super_over : (V : VarId → Type 0) (t m : Ty) → IsSupertype T t → IsOver V t → IsIn m (supers T t) → IsOver V m
  super_over V t m (with_arguments {id = i} es e l) o n =
      let p = in_mapped (subst (vars_of T i) es) m (supers_of T i) (along (IsIn m) (ap (supers T) e ∙ full_supers T i es l) n) in
      along (IsOver V) (sym p.2)
      (put_over (λ v. IsAmong v (vars_of T i)) V (vars_of T i) es
      (λ v q. along (IsOver V) (sym (subst-Variable (vars_of T i) es v)) (replaced_over V (vars_of T i) es v l q (types_over V i es t e o))) p.0 (H.scoped i p.0 p.1))
  super_over V t m (without {id = i} e ne) o n =
      let p = in_mapped erased m (supers_of T i) (along (IsIn m) (ap (supers T) e ∙ raw_supers T i ne) n) in
      along (IsOver V) (sym p.2) (erased_over V p.0 (H.supertypes i p.0 p.1))

  -- supertypes speak of no further variable
  up_over : (V : VarId → Type 0) (t v : Ty) → IsSupertype T t → IsOver V t → IsUp T t v → IsOver V v
  up_over V t v s o (itself e) = along (IsOver V) e o
  up_over V t v s o (above m i f) = up_over V m v (super_supertype T H t m s i) (super_over V t m s o i) f

  own_exact : (vs : List VarId) → map own_arg vs ≡ map Exact (map Variable vs)
  own_exact [] = refl
  own_exact (v ∷ vs) = ap (λ xs. own_arg v ∷ xs) (own_exact vs)

  own_supertype : (i : ClassId) → IsSupertype T (own_type T i)
  own_supertype i = with_arguments (map Variable (vars_of T i)) (ap (Class i) (own_exact (vars_of T i))) (length-map (vars_of T i) Variable)

  own_over : (i : ClassId) → IsOver (λ v. IsAmong v (vars_of T i)) (own_type T i)
  own_over i = over_class (outs-Class i (map own_arg (vars_of T i))) (owned (vars_of T i) (vars_of T i) (λ v m. m))

  kept_array_view : (k : Ty) (a : Ty) (c : ClassId) (w : Ty) → element k ≡ Some a → view T c k ≡ Some w → (c.0 == 0) ≡ true
  unfolding element
  kept_array_view k a c w e f = by_layer (out-Ty k) refl e
    where
      by_layer : (l : Layer) → out-Ty k ≡ l → element_at l ≡ Some a → (c.0 == 0) ≡ true
      by_layer (Ty-F.Array u n) q e = array_up c k u w n q f
      by_layer l q e = let none : None ≡ Some a = e in cc

  module _ (n : ℕ) (vars : List Binding) (captured : List Ty) (R : Ty → Ty → Type 0) (carries : (t u : Ty) → R t u → BelowAt T n (close vars captured t) (close vars captured u))
      (K : Ty) (sound : SoundOver T (BelowAt T n) K) where
    -- the view of the kept type has arguments that are held by what those of the view v are in
    abbrev pub Taken : Ty → ClassId → Type 0
    Taken v k = (js : List Ty) × Views T K k js × ((bs : List Arg) → AllIn R (args_of v) bs → AllHeld (BelowAt T n) (map (close_arg vars captured) bs) js)

    abbrev pub Seen : Ty → ClassId → Type 0
    Seen v k = ((k.0 == 0) ≡ true) ⊎ ((w : Ty) × (view T k K ≡ Some w) × (length (args_of v) ≡ length (vars_of T k) → Taken v k))

    kept_kind : SoundOver T (BelowAt T n) K → IsFull T H K ⊎ ((a : Ty) × (element K ≡ Some a))
    kept_kind (sound_class {id = i} ks e l h) = inl (i, ks, e, l)
    kept_kind (sound_array {a = a} e) = inr (a, e)

    object_id : (t : Ty) (c : ClassId) → class_of t ≡ Some c → is_object t ≡ true → (c.0 == 0) ≡ true
    unfolding class_of is_object
    object_id t c e f = by_layer (out-Ty t) e f
      where
        by_layer : (l : Layer) → class_at l ≡ Some c → is_object_at l ≡ true → (c.0 == 0) ≡ true
        by_layer (Ty-F.Class i xs) e f = let same : i ≡ c = cc in along (λ (x : ClassId). (x.0 == 0) ≡ true) same f
        by_layer (Ty-F.Raw i) e f = let same : i ≡ c = cc in along (λ (x : ClassId). (x.0 == 0) ≡ true) same f
        by_layer l e f = cc

    no_meet : (t : Ty) (ts : List Ty) (c : ClassId) → out-Ty t ≡ Ty-F.Meet ts → class_of t ≡ Some c → ⊥
    unfolding class_of
    no_meet t ts c o e = let none : None ≡ Some c = sym (ap class_at o) ∙ e in cc

    class_out : (t : Ty) (i c : ClassId) (xs : List Arg) → out-Ty t ≡ Ty-F.Class i xs → class_of t ≡ Some c → i ≡ c
    unfolding class_of
    class_out t i c xs o e = let s : Some i ≡ Some c = sym (ap class_at o) ∙ e in cc

    id_of : (i c : ClassId) (t : Ty) → class_of t ≡ Some i → class_of t ≡ Some c → i ≡ c
    id_of i c t e f = let s : Some i ≡ Some c = sym e ∙ f in cc

    -- what fits a class type has a view as its class
    has_view : (t : Ty) (c : ClassId) → class_of t ≡ Some c → FitsOver T (BelowAt T n) K t → ((c.0 == 0) ≡ true) ⊎ ((w : Ty) × (view T c K ≡ Some w))
    has_view t c e (to_object f) = inl (object_id t c e f)
    has_view t c e (to_raw {id = i} {v = w} f r g) = inr (w, ap (λ x. view T x K) (sym (id_of i c t f e)) ∙ g)
    has_view t c e (to_class {id = i} ks o l v h) = inr (Class i (map Exact ks), ap (λ x. view T x K) (sym (class_out t i c _ o e)) ∙ v.0)
    has_view t c e (to_primitives {a = a} f g p) = absurd (no_class_of_array t a c g e)
    has_view t c e (to_array {b = b} f g p q h) = absurd (no_class_of_array t b c g e)
    has_view t c e (to_meet {parts = ts} o h) = absurd (no_meet t ts c o e)

    abbrev Own : ClassId → List Arg → Type 0
    Own c xs = (ks : List Ty) × Views T K c ks × AllHeld (BelowAt T n) xs ks

    has_arguments : (t : Ty) (c : ClassId) (xs : List Arg) → out-Ty t ≡ Ty-F.Class c xs → length xs ≡ length (vars_of T c) → FitsOver T (BelowAt T n) K t → ((c.0 == 0) ≡ true) ⊎ Own c xs
    unfolding class_of is_raw
    has_arguments t c xs o l (to_object f) = inl (object_id t c (ap class_at o) f)
    has_arguments t c xs o l (to_raw f r g) =
        let test : (length xs == length (vars_of T c)) ≡ true = grind (arith, nat_tests, l) in
        let s : false ≡ true = sym (ap not test) ∙ sym (ap (is_raw_at T) o) ∙ r in
        cc
    has_arguments t c xs o l (to_class {id = i} {args = ys} ks p m v h) =
        let q : Ty-F.Class i ys ≡ Ty-F.Class c xs = sym p ∙ o in
        let ids : i ≡ c = cc in
        let args : ys ≡ xs = cc in
        inr (ks, (ap (λ x. view T x K) (sym ids) ∙ v.0 ∙ ap (λ x. Some (Class x (map Exact ks))) ids, v.1 ∙ ap (λ x. length (vars_of T x)) ids), along (λ zs. AllHeld (BelowAt T n) zs ks) args h)
    has_arguments t c xs o l (to_primitives {a = a} f g p) = absurd (no_class_of_array t a c g (ap class_at o))
    has_arguments t c xs o l (to_array {b = b} f g p q h) = absurd (no_class_of_array t b c g (ap class_at o))
    has_arguments t c xs o l (to_meet {parts = ts} p h) = absurd (no_meet t ts c p (ap class_at o))

    zero_is : (c : ClassId) → (c.0 == 0) ≡ true → c.0 ≡ 0
    zero_is c e = grind (arith, nat_tests)

    no_count : (T' : Table) (i k : ClassId) → i ≡ k → vars_of T i ≢ [] → 0 ≡ length (vars_of T k) → ⊥
    no_count T' i k s ne z = ne (empty (vars_of T i) (z ∙ ap (λ x. length (vars_of T x)) (sym s)))
      where
        empty : (vs : List VarId) → 0 ≡ length vs → vs ≡ []
        empty [] e = refl
        empty (v ∷ vs) e = absurd (omega (arith, e))

    full_put : (ws : List VarId) (es ts : List Ty) (k : ClassId) → subst ws es (Class k (map Exact ts)) ≡ Class k (map Exact (map (subst ws es) ts))
    full_put ws es ts k = subst-Class ws es k (map Exact ts) ∙ ap (Class k) (exact_put ws es ts)

    put_args_made : (ws : List VarId) (args : List Arg) (ts : List Ty) (k : ClassId) (v : Ty) → v ≡ put ws args (Class k (map Exact ts))
        → args_of v ≡ all_passed ws args (map Exact ts) (map Exact (map (subst ws (filled NullTy args)) ts)) (map Exact (map (subst ws (filled (Raw (numbered 0)) args)) ts))
    unfolding put
    put_args_made ws args ts k v e =
        ap args_of (e ∙ ap (put_at ws args (Class k (map Exact ts))) (outs-Class k (map Exact ts))) ∙ args_made k _
        ∙ ap (λ ys. all_passed ws args (map Exact ts) ys (args_of (subst ws (filled (Raw (numbered 0)) args) (Class k (map Exact ts))))) (ap args_of (full_put ws (filled NullTy args) ts k) ∙ args_made k _)
        ∙ ap (λ ys. all_passed ws args (map Exact ts) (map Exact (map (subst ws (filled NullTy args)) ts)) ys) (ap args_of (full_put ws (filled (Raw (numbered 0)) args) ts k) ∙ args_made k _)

    put_args_raw : (ws : List VarId) (args : List Arg) (k : ClassId) (v : Ty) → v ≡ put ws args (Raw k) → args_of v ≡ []
    unfolding put
    put_args_raw ws args k v e = ap args_of (e ∙ ap (put_at ws args (Raw k)) (outs-Raw k)) ∙ args_raw k

    -- of a class type with as many arguments as its class has parameters
    own_seen : (c k : ClassId) (args : List Arg) (v0 v : Ty) → length args ≡ length (vars_of T c) → view T k (own_type T c) ≡ Some v0 → v ≡ put (vars_of T c) args v0 → (ks : List Ty) → Views T K c ks
        → AllHeld (BelowAt T n) (map (close_arg vars captured) args) ks → IsFull T H K → Seen v k
    own_seen c k args v0 v l e s ks views held full =
        let ws = vars_of T c in
        let c0 : HasClass (own_type T c) = (c, class_made c (map own_arg ws)) in
        let u = view_up T k (own_type T c) v0 e in
        let there : view T k (Class c (map Exact ks)) ≡ Some (subst ws ks v0) =
        ap (view T k) (full_own T H c ks views.1) ∙ view_mapped T H (subst ws ks) (subst_arg ws ks) (substitution ws ks) k (own_type T c) c0 ∙ ap (applied (subst ws ks)) e in
        let seen : view T k K ≡ Some (subst ws ks v0) = compose T H K (Class c (map Exact ks)) (subst ws ks v0) c k full views.0 there in
        inr (subst ws ks v0, seen, by_kind (up_supertype T H (own_type T c) v0 (own_supertype c) u.0) u seen)
      where
        by_kind : IsSupertype T v0 → IsUp T (own_type T c) v0 × (class_of v0 ≡ Some k) → view T k K ≡ Some (subst (vars_of T c) ks v0) → length (args_of v) ≡ length (vars_of T k) → Taken v k
        by_kind (without {id = i} f ne) u seen many =
            let ids : i ≡ k = id_of i k v0 (ap class_of f ∙ raw_made i) u.1 in
            absurd (no_count T i k ids ne (sym (ap length (put_args_raw (vars_of T c) args i v (s ∙ ap (put (vars_of T c) args) f))) ∙ many))
        by_kind (with_arguments {id = i} ts f m) u seen many =
            let ws = vars_of T c in
            let ids : i ≡ k = id_of i k v0 (ap class_of f ∙ class_made i (map Exact ts)) u.1 in
            let is : v0 ≡ Class k (map Exact ts) = f ∙ ap (λ x. Class x (map Exact ts)) ids in
            let over : (x : Ty) → IsAmong x ts → IsOver (λ v. IsAmong v ws) x = types_over (λ v. IsAmong v ws) k ts v0 is (up_over (λ v. IsAmong v ws) (own_type T c) v0 (own_supertype c) (own_over c) u.0) in (
              map (subst ws ks) ts,
              (seen ∙ ap (λ x. Some (subst ws ks x)) is ∙ ap Some (full_put ws ks ts k), length-map ts (subst ws ks) ∙ m ∙ ap (λ x. length (vars_of T x)) ids),
              λ bs h. passed_held T n vars captured R carries ws args ks l views.1 held ts bs over (along (λ ys. AllIn R ys bs) (put_args_made ws args ts k v (s ∙ ap (put ws args) is)) h),
            )

    closed_types : (ts : List Ty) → map Exact ts ≡ map (close_arg vars captured) (map Exact ts) → (t : Ty) → IsAmong t ts → t ≡ close vars captured t
    closed_types [] e t m = absurd m
    closed_types (x ∷ ts) e t (inl s) =
        let head : Exact x ≡ close_arg vars captured (Exact x) = cc in
        let is : x ≡ close vars captured x = exact_parts x (close vars captured x) (head ∙ (closing vars captured).exacts x) in
        s ∙ is ∙ ap (close vars captured) (sym s)
    closed_types (x ∷ ts) e t (inr m) =
        let tail : map Exact ts ≡ map (close_arg vars captured) (map Exact ts) = cc in
        closed_types ts tail t m

    held_none : (bs : List Arg) → AllHeld (BelowAt T n) bs []
    held_none [] = tt
    held_none (b ∷ bs) = tt

    -- a view of a raw type: itself, where its class has no parameters, or as a declared supertype is
    raw_view_kind : (c : ClassId) (v : Ty) → IsUp T (Raw c) v → (vs : List VarId) → vars_of T c ≡ vs → ((v ≡ Raw c) × (vars_of T c ≡ [])) ⊎ IsSupertype T v
    raw_view_kind c v (itself s) [] z = inl (sym s, z)
    raw_view_kind c v (above m i f) [] z =
        inr (up_supertype T H (Class c []) v (with_arguments [] refl (ap length (sym z))) (above m (along (IsIn m) (plain_supers T c z) i) f))
    raw_view_kind c v u (x ∷ xs) z = inr (up_supertype T H (Raw c) v (without refl (λ none. let no : x ∷ xs ≡ [] = sym z ∙ none in cc)) u)

    no_types : (ts : List Ty) → length ts ≡ 0 → ts ≡ []
    no_types [] e = refl
    no_types (t ∷ ts) e = absurd (omega (arith, e))

    plain_taken : (c k : ClassId) (v w : Ty) → v ≡ Raw c → vars_of T c ≡ [] → class_of v ≡ Some k → view T c K ≡ Some w → class_of w ≡ Some c → IsSupertype T w → Taken v k
    plain_taken c k v w s z f e g (without {id = i} h ne) = let ids : i ≡ c = id_of i c w (ap class_of h ∙ raw_made i) g in absurd (ne (ap (vars_of T) ids ∙ z))
    plain_taken c k v w s z f e g (with_arguments {id = i} ts h m) =
        let ids : i ≡ c = id_of i c w (ap class_of h ∙ class_made i (map Exact ts)) g in
        let same : c ≡ k = id_of c k v (ap class_of s ∙ raw_made c) f in
        let none : ts ≡ [] = no_types ts (m ∙ ap (λ x. length (vars_of T x)) ids ∙ ap length z) in
        let is : w ≡ Class k (map Exact []) = h ∙ ap (λ x. Class x (map Exact ts)) (ids ∙ same) ∙ ap (λ ys. Class k (map Exact ys)) none in
        ([], (ap (λ x. view T x K) (sym same) ∙ e ∙ ap Some is, sym (ap (λ x. length (vars_of T x)) (sym same) ∙ ap length z)), λ bs h. held_none (map (close_arg vars captured) bs))

    raw_taken : (c k : ClassId) (v w : Ty) → view T k (Raw c) ≡ Some v → class_of v ≡ Some k → view T c K ≡ Some w → IsFull T H K → IsSupertype T v → length (args_of v) ≡ length (vars_of T k) → Taken v k
    raw_taken c k v w e f g full (without {id = i} h ne) many =
        let ids : i ≡ k = id_of i k v (ap class_of h ∙ raw_made i) f in
        absurd (no_count T i k ids ne (sym (ap length (ap args_of h ∙ args_raw i)) ∙ many))
    raw_taken c k v w e f g full (with_arguments {id = i} ts h m) many =
        let ids : i ≡ k = id_of i k v (ap class_of h ∙ class_made i (map Exact ts)) f in
        let is : v ≡ Class k (map Exact ts) = h ∙ ap (λ x. Class x (map Exact ts)) ids in
        let seen : view T k K ≡ Some v = raw_compose T H K w v c k full g e (i, ts, h, m) in
        let moved : Some (close vars captured v) ≡ Some v =
        sym (view_mapped T H (close vars captured) (close_arg vars captured) (closing vars captured) k (Raw c) (c, raw_made c) ∙ ap (applied (close vars captured)) e)
        ∙ ap (view T k) ((closing vars captured).raw c) ∙ e in
        let closed : v ≡ close vars captured v = sym (some_same (close vars captured v) v moved) in
        let parts : map Exact ts ≡ map (close_arg vars captured) (map Exact ts) =
        (class_parts k k (map Exact ts) (map (close_arg vars captured) (map Exact ts)) (sym is ∙ closed ∙ ap (close vars captured) is ∙ (closing vars captured).class k (map Exact ts))).1 in (
          ts,
          (seen ∙ ap Some is, m ∙ ap (λ x. length (vars_of T x)) ids),
          λ bs q. exact_held T n vars captured R carries ts bs (closed_types ts parts) (along (λ ys. AllIn R ys bs) (ap args_of is ∙ args_made k (map Exact ts)) q),
        )

    -- of a raw type
    raw_seen : (c k : ClassId) (v w : Ty) → view T k (Raw c) ≡ Some v → view T c K ≡ Some w → IsFull T H K → Seen v k
    raw_seen c k v w e g full =
        let u = view_up T k (Raw c) v e in
        let o = view_up T c K w g in
        let i : class_of K ≡ Some full.0 = ap class_of full.2 ∙ class_made full.0 (map Exact full.1) in
        let up = up_above T H K full.0 w i o.0 in
        let on = up_above T H (Raw c) c v (raw_made c) u.0 in
        let to : IsAbove T full.0.0 c.0 = along (λ (x : ClassId). IsAbove T full.0.0 x.0) (id_of up.0 c w up.1 o.1) up.2 in
        let from : IsAbove T c.0 k.0 = along (λ (x : ClassId). IsAbove T c.0 x.0) (id_of on.0 k v on.1 u.1) on.2 in
        let there = views_found T H.hierarchy.acyclic k K full.0.0 i (path_joined T to.0 full.0.0 c.0 k.0 to.1 from) in
        inr (there.0, there.1, λ many. by_kind (raw_view_kind c v u.0 (vars_of T c) refl) u.1 o.1 many)
      where
        by_kind : ((v ≡ Raw c) × (vars_of T c ≡ [])) ⊎ IsSupertype T v → class_of v ≡ Some k → class_of w ≡ Some c → length (args_of v) ≡ length (vars_of T k) → Taken v k
        by_kind (inl s) f h many = plain_taken c k v w s.0 s.1 f g h (view_supertype T H K w c full g)
        by_kind (inr s) f h many = raw_taken c k v w e f g full s many

    raw_seen_by : (c k : ClassId) (v t : Ty) → class_of t ≡ Some c → view T k (Raw c) ≡ Some v → FitsOver T (BelowAt T n) K t → Seen v k
    raw_seen_by c k v t e f fits = by_view (has_view t c e fits) (kept_kind sound)
      where
        by_view : ((c.0 == 0) ≡ true) ⊎ ((w : Ty) × (view T c K ≡ Some w)) → IsFull T H K ⊎ ((a : Ty) × (element K ≡ Some a)) → Seen v k
        by_view (inl z) q = inl (object_view c k (Raw c) v (raw_made c) (zero_is c z) f)
        by_view (inr w) (inr a) = inl (object_view c k (Raw c) v (raw_made c) (zero_is c (kept_array_view K a.0 c w.0 a.1 w.1)) f)
        by_view (inr w) (inl full) = raw_seen c k v w.0 f w.1 full

    own_seen_by : (c k : ClassId) (args : List Arg) (v t : Ty) → length args ≡ length (vars_of T c) → out-Ty t ≡ Ty-F.Class c (map (close_arg vars captured) args) → (o : Option Ty) → view T k (own_type T c) ≡ o
        → put_view (vars_of T c) args o ≡ Some v → FitsOver T (BelowAt T n) K t → Seen v k
    own_seen_by c k args v t l o None e p fits = let none : None ≡ Some v = p in cc
    own_seen_by c k args v t l o (Some v0) e p fits =
        by_view (has_arguments t c (map (close_arg vars captured) args) o (length-map args (close_arg vars captured) ∙ l) fits) (kept_kind sound)
      where
        by_view : ((c.0 == 0) ≡ true) ⊎ Own c (map (close_arg vars captured) args) → IsFull T H K ⊎ ((a : Ty) × (element K ≡ Some a)) → Seen v k
        by_view (inl z) q = inl (object_view c k (own_type T c) v0 (class_made c (map own_arg (vars_of T c))) (zero_is c z) e)
        by_view (inr w) (inr a) = inl (object_view c k (own_type T c) v0 (class_made c (map own_arg (vars_of T c))) (zero_is c (kept_array_view K a.0 c (Class c (map Exact w.0)) a.1 w.1.0)) e)
        by_view (inr w) (inl full) = own_seen c k args v0 v l e (sym (some_same (put (vars_of T c) args v0) v p)) w.0 w.1 w.2 full

    class_seen : (c k : ClassId) (args : List Arg) (v t : Ty) → out-Ty t ≡ Ty-F.Class c (map (close_arg vars captured) args) → class_of t ≡ Some c → class_view T k c args ≡ Some v → FitsOver T (BelowAt T n) K t → Seen v k
    class_seen c k args v t o f e fits = by_count (length args == length (vars_of T c)) refl e
      where
        by_count : (b : Bool) → (length args == length (vars_of T c)) ≡ b → (if b then put_view (vars_of T c) args (view T k (own_type T c)) else view T k (Raw c)) ≡ Some v → Seen v k
        by_count true q e = own_seen_by c k args v t (equal_numbers _ _ q) o (view T k (own_type T c)) refl e fits
        by_count false q e = raw_seen_by c k v t f e fits

    -- ---- of all types, by their bounds

    all_fit : (ts : List Ty) (t : Ty) → IsIn t ts → FitsAll T (BelowAt T n) K (map (close vars captured) ts) → FitsOver T (BelowAt T n) K (close vars captured t)
    all_fit [] t m h = absurd m
    all_fit (x ∷ ts) t (inl s) (more h hs) = along (λ y. FitsOver T (BelowAt T n) K (close vars captured y)) (sym s) h
    all_fit (x ∷ ts) t (inr m) (more h hs) = all_fit ts t m hs

    parts_fit : (t : Ty) (ts : List Ty) → out-Ty t ≡ Ty-F.Meet ts → FitsOver T (BelowAt T n) K t → FitsAll T (BelowAt T n) K ts
    unfolding is_object class_of element
    parts_fit t ts o (to_object f) = let s : false ≡ true = sym (ap is_object_at o) ∙ f in cc
    parts_fit t ts o (to_raw {id = i} f r g) = let s : None ≡ Some i = sym (ap class_at o) ∙ f in cc
    parts_fit t ts o (to_class {id = i} {args = ys} ks p m v h) = let s : Ty-F.Meet ts ≡ Ty-F.Class i ys = sym o ∙ p in cc
    parts_fit t ts o (to_primitives {a = a} f g p) = let s : None ≡ Some a = sym (ap element_at o) ∙ g in cc
    parts_fit t ts o (to_array {b = b} f g p q h) = let s : None ≡ Some b = sym (ap element_at o) ∙ g in cc
    parts_fit t ts o (to_meet {parts = us} p h) = let s : Ty-F.Meet us ≡ Ty-F.Meet ts = sym p ∙ o in let same : us ≡ ts = cc in along (FitsAll T (BelowAt T n) K) same h

    module _ (env : List Bounds) (stand : Stand T (suc n) env vars captured) where
      fits_bound : (x : Ty) (bs : List Ty) (b : Ty) → IsIn b bs → BelowAll (BelowAt T (suc n)) x (map (close vars captured) bs) → FitsOver T (BelowAt T n) K x → FitsOver T (BelowAt T n) K (close vars captured b)
      unfolding BelowAt
      fits_bound x [] b m h fits = absurd m
      fits_bound x (y ∷ bs) b (inl s) h fits = along (λ z. FitsOver T (BelowAt T n) K (close vars captured z)) (sym s) (h.0.1 K sound fits)
      fits_bound x (y ∷ bs) b (inr m) h fits = fits_bound x bs b m h.1 fits

      pub seen_within : (s : ℕ) (k : ClassId) (t v : Ty) → up_view_within T env s k t ≡ Some v → FitsOver T (BelowAt T n) K (close vars captured t) → Seen v k
      seen_within zero k t v e fits = let none : None ≡ Some v = e in cc
      seen_within (suc s) k t v e fits = by_layer (out-Ty t) refl e (λ u f g. seen_within s k u v f g)
        where
          bounded : (x : Ty) (bs : List Ty) → close vars captured t ≡ x → BelowAll (BelowAt T (suc n)) x (map (close vars captured) bs) → first_of (up_view_within T env s k) bs ≡ Some v
              → ((u : Ty) → up_view_within T env s k u ≡ Some v → FitsOver T (BelowAt T n) K (close vars captured u) → Seen v k) → Seen v k
          bounded x bs q h e rest =
              let r = first_from (up_view_within T env s k) v bs e in
              rest r.0 r.2 (fits_bound x bs r.0 r.1 h (along (FitsOver T (BelowAt T n) K) q fits))

          by_layer : (l : Layer) → out-Ty t ≡ l → up_view_at T env (first_of (up_view_within T env s k)) k t l ≡ Some v
              → ((u : Ty) → up_view_within T env s k u ≡ Some v → FitsOver T (BelowAt T n) K (close vars captured u) → Seen v k) → Seen v k
          by_layer (Ty-F.Prim p) o e rest = let none : None ≡ Some v = e in cc
          by_layer (Ty-F.Class c args) o e rest =
              let is : close vars captured t ≡ Class c (map (close_arg vars captured) args) = ap (close vars captured) (as_class_type t c args o) ∙ (closing vars captured).class c args in
              class_seen c k args v (close vars captured t) (ap out-Ty is ∙ outs-Class c (map (close_arg vars captured) args)) (ap class_of is ∙ class_made c (map (close_arg vars captured) args)) e fits
          by_layer (Ty-F.Raw c) o e rest =
              let is : close vars captured t ≡ Raw c = ap (close vars captured) (as_raw_type t c o) ∙ (closing vars captured).raw c in
              raw_seen_by c k v (close vars captured t) (ap class_of is ∙ raw_made c) (ap (view T k) (sym (as_raw_type t c o)) ∙ e) fits
          by_layer (Ty-F.Array u m) o e rest = inl (array_up k t u v m o e)
          by_layer (Ty-F.Variable x) o e rest = bounded (bound_to x vars) (bounds_of T x) (close_variable vars captured t x o) (stand.within x) e rest
          by_layer (Ty-F.Captured c) o e rest = bounded (get_or captured c.0 NullTy) (uppers_of env c) (close_captured vars captured t c o) (stand.captured_within c) e rest
          by_layer (Ty-F.Meet ts) o e rest =
              let is : close vars captured t ≡ Meet (map (close vars captured) ts) = ap (close vars captured) (as_meet t ts o) ∙ (closing vars captured).meet ts in
              let r = first_from (up_view_within T env s k) v ts e in
              rest r.0 r.2 (all_fit ts r.0 r.1 (parts_fit (close vars captured t) (map (close vars captured) ts) (ap out-Ty is ∙ outs-Meet (map (close vars captured) ts)) fits))
          by_layer Ty-F.NullTy o e rest = let none : None ≡ Some v = e in cc

      pub seen : (k : ClassId) (t v : Ty) → up_view T env k t ≡ Some v → FitsOver T (BelowAt T n) K (close vars captured t) → Seen v k
      unfolding up_view
      seen k t v e fits = seen_within (view_steps T env) k t v e fits
