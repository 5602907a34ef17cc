-- What fits an operand fits the least upper bound.
use Rattle.std.proofs.Common.{◌≡◌, inl, inr, ℕ, zero, suc, ◌+◌, ◌-◌, ◌≤◌, ◌==◌, ◌||◌, not, Bool, true, false, Some, None, List, [], ◌∷◌, map, length, get_or, if◌then◌else◌, refl, sym, ap, subst as along, ◌∙◌, arith}
use Rattle.std.specs.List.{filter}
use Rattle.std.proofs.lemmas.List.{length-map}
use Rattle.std.proofs.lemmas.Bool.Decides.{nat_tests}
use Rattle.jc_types.specs.declared.environment.Bounds.{Bounds}
use Rattle.jc_types.specs.declared.form.Arg.{Arg}
use Rattle.jc_types.specs.declared.form.Ty.{Ty, Ty-F, out-Ty}
use Rattle.jc_types.specs.declared.form.Ty.TheVariants.{Prim, Class, Raw, Array, Meet, NullTy, outs-Class, outs-Raw, outs-Array, outs-Meet, outs-NullTy}
use Rattle.jc_types.specs.declared.ids.ClassId.{ClassId}
use Rattle.jc_types.specs.declared.table.Table.{Table}
use Rattle.jc_types.specs.Accessors.{vars_of}
use Rattle.jc_types.specs.Arrays.{array_over, element, element_at, lowered}
use Rattle.jc_types.proofs.Sameness.{same_told}
use Rattle.jc_judge.specs.Kinds.{Layer, class_of, class_at, is_null, is_null_at, is_object, is_object_at, is_primitive, is_primitive_at}
use Rattle.jc_judge.specs.Meeting.{as_one}
use Rattle.jc_judge.specs.Supers.{numbered}
use Rattle.jc_judge.specs.Views.{view}
use Rattle.jc_lub.specs.Columns.{one_raw, upper_of, joined_from, joined_views}
use Rattle.jc_lub.specs.Lubs.{all_same_types, common, candidates, views, joined_at, by_supers, depth, depth_at, depth_over, shared, stripped, stripped_at, over, unless_same, not_null, arrays_and_supers, through, join, lub}
use Rattle.jc_lub.specs.Uncaptured.{args_of}
use Rattle.jc_meaning.specs.declared.frame.Binding.{Binding}
use Rattle.jc_meaning.specs.Kept.{bound_to, close}
use Rattle.jc_meaning.specs.Levels.{BelowAll, BelowAt, PrimitivesBelow, FitsOver, to_object, to_raw, to_class, to_primitives, to_array, to_meet, FitsAll, none, more, is_raw, is_raw_at, SoundOver}
use Rattle.jc_meaning.proofs.Levels.{below_trans, below_smaller}
use Rattle.jc_header_rules.specs.Checked.{IsAmong, HasHeaders}
use Rattle.jc_lub_laws.specs.Standing.{Stand, IsOperand, OperandsAreBelow}
use Rattle.jc_lub_laws.specs.Under.{IsIn, any, extending, AllIn}
use Rattle.jc_lub_laws.proofs.Beneath.{Beneath, by_itself, by_null, by_top, by_raw, by_class, by_parts, by_elements}
use Rattle.jc_lub_laws.proofs.Closing.{close_arg, closing, close_variable, close_captured, inner, element_over}
use Rattle.jc_lub_laws.proofs.Homs.{hom_over}
use Rattle.jc_lub_laws.proofs.Joined.{under_through}
use Rattle.jc_lub_laws.proofs.Layers.{as_class_type, as_raw_type, as_array, as_meet, as_null, Dimensions, on_array, on_other, dimensions}
use Rattle.jc_lub_laws.proofs.Lists.{passed}
use Rattle.jc_lub_laws.proofs.Seen.{Taken, Seen, seen}
use Rattle.jc_lub_laws.proofs.Unique.{class_made, raw_made}

-- ---- reference types

abbrev Ref : Ty → Type 0
Ref t = is_primitive t ≡ false

out_ref : (t : Ty) (l : Layer) → out-Ty t ≡ l → is_primitive_at l ≡ false → Ref t
unfolding is_primitive
out_ref t l e f = ap is_primitive_at e ∙ f

ref_out : (t : Ty) (l : Layer) → out-Ty t ≡ l → Ref t → is_primitive_at l ≡ false
unfolding is_primitive
ref_out t l e r = sym (ap is_primitive_at e) ∙ r

object_out : (t : Ty) (l : Layer) → out-Ty t ≡ l → is_object t ≡ is_object_at l
unfolding is_object
object_out t l e = ap is_object_at e

class_ref : (i : ClassId) (xs : List Arg) → Ref (Class i xs)
class_ref i xs = out_ref (Class i xs) (Ty-F.Class i xs) (outs-Class i xs) refl

raw_ref : (i : ClassId) → Ref (Raw i)
raw_ref i = out_ref (Raw i) (Ty-F.Raw i) (outs-Raw i) refl

array_ref : (u : Ty) (n : ℕ) → Ref (Array u n)
array_ref u n = out_ref (Array u n) (Ty-F.Array u n) (outs-Array u n) refl

meet_ref : (ts : List Ty) → Ref (Meet ts)
meet_ref ts = out_ref (Meet ts) (Ty-F.Meet ts) (outs-Meet ts) refl

null_ref : Ref NullTy
null_ref = out_ref NullTy Ty-F.NullTy outs-NullTy refl

array_over_ref : (n : ℕ) (t : Ty) → Ref (array_over n t)
array_over_ref n t = by_kind (dimensions n t)
  where
    by_kind : Dimensions n t → Ref (array_over n t)
    by_kind (on_array u m e f) = along Ref (sym f) (array_ref u (m + n + 1))
    by_kind (on_other f) = along Ref (sym f) (array_ref t n)

over_ref : (d : ℕ) (t : Ty) → Ref t → Ref (over d t)
over_ref zero t r = r
over_ref (suc d) t r = array_over_ref d t

module _ (T : Table) (env : List Bounds) (f : List Ty → Arg) where
  joined_ref : (ts : List Ty) (k : ClassId) → Ref (joined_at T env f ts k)
  unfolding joined_at joined_views
  joined_ref ts k = by_test (one_raw (length (vars_of T k)) (views T env k ts))
    where
      by_test : (b : Bool) → Ref (if b then Raw k else Class k (joined_from f (views T env k ts) 0 (vars_of T k)))
      by_test true = raw_ref k
      by_test false = class_ref k (joined_from f (views T env k ts) 0 (vars_of T k))

  one_ref : (ts : List Ty) (ks : List ClassId) → Ref (as_one (map (joined_at T env f ts) ks))
  one_ref ts [] = class_ref (record { 0 = 0 }) []
  one_ref ts (k ∷ []) = joined_ref ts k
  one_ref ts (k ∷ l ∷ ks) = meet_ref (joined_at T env f ts k ∷ joined_at T env f ts l ∷ map (joined_at T env f ts) ks)

  supers_ref : (ts : List Ty) → Ref (by_supers T env f ts)
  unfolding by_supers
  supers_ref ts = one_ref ts (candidates T (common T env ts))

  unless_ref : (ts : List Ty) → ((t : Ty) → IsAmong t ts → Ref t) → Ref (unless_same (arrays_and_supers T env f) ts)
  unless_ref [] h = null_ref
  unless_ref (t ∷ ts) h = by_test (all_same_types t ts)
    where
      by_test : (b : Bool) → Ref (if b then t else arrays_and_supers T env f (t ∷ ts))
      by_test true = h t (inl refl)
      by_test false = over_ref (shared (t ∷ ts)) (by_supers T env f (map (stripped (shared (t ∷ ts))) (t ∷ ts))) (supers_ref (map (stripped (shared (t ∷ ts))) (t ∷ ts)))

  -- the bound of reference types is one
  through_ref : (ts : List Ty) → ((t : Ty) → IsAmong t ts → Ref t) → Ref (through T env f ts)
  unfolding through
  through_ref ts h = unless_ref (filter not_null ts) (λ t m. h t (passed not_null t ts m).0)

-- ---- arrays

stripped_none : (t : Ty) → stripped 0 t ≡ t
unfolding stripped
stripped_none t = by_layer (out-Ty t) refl
  where
    by_layer : (l : Layer) → out-Ty t ≡ l → stripped_at 0 t l ≡ t
    by_layer (Ty-F.Array u n) e = let dims : n + 1 - 0 ≡ suc n = omega arith in ap (lowered u) dims ∙ sym (as_array t u n e)
    by_layer (Ty-F.Prim p) e = refl
    by_layer (Ty-F.Class i xs) e = refl
    by_layer (Ty-F.Raw i) e = refl
    by_layer (Ty-F.Variable v) e = refl
    by_layer (Ty-F.Captured c) e = refl
    by_layer (Ty-F.Meet ts) e = refl
    by_layer Ty-F.NullTy e = refl

stripped_array : (d : ℕ) (u : Ty) (n : ℕ) → stripped d (Array u n) ≡ lowered u (n + 1 - d)
unfolding stripped
stripped_array d u n = ap (stripped_at d (Array u n)) (outs-Array u n)

depth_array : (u : Ty) (n : ℕ) → depth (Array u n) ≡ depth_over u n
unfolding depth
depth_array u n = ap depth_at (outs-Array u n)

-- one dimension of an array, of which so many are taken off
record Lower (w : Ty) (m d : ℕ) : Type 0 where
  deep : d ≤ depth (lowered w m)
  alike : stripped (suc d) (Array w m) ≡ stripped d (lowered w m)
  reference : Ref (lowered w m)

lower_by : (w : Ty) (m d : ℕ) (b : Bool) → is_primitive w ≡ b → suc d ≤ (if b then m else m + 1) → Lower w m d
lower_by w zero d true p l = absurd (omega (arith, l))
lower_by w zero d false p l =
    let none : d ≡ 0 = omega (arith, l) in
    along (Lower w 0) (sym none) (record {
      deep = omega arith;
      alike = stripped_array 1 w 0 ∙ ap (lowered w) (let z : 0 + 1 - 1 ≡ 0 = omega arith in z) ∙ sym (stripped_none w);
      reference = p;
    })
lower_by w (suc m) d b p l = record {
  deep = along (λ x. d ≤ x) (sym (depth_array w m ∙ ap (λ (t : Bool). if t then m else m + 1) p)) (within b l);
  alike = stripped_array (suc d) w (suc m) ∙ ap (lowered w) (let z : suc m + 1 - suc d ≡ m + 1 - d = omega arith in z) ∙ sym (stripped_array d w m);
  reference = array_ref w m;
}
  where
    within : (b : Bool) → suc d ≤ (if b then suc m else suc m + 1) → d ≤ (if b then m else m + 1)
    within true l = omega (arith, l)
    within false l = omega (arith, l)

lower : (w : Ty) (m d : ℕ) → suc d ≤ depth (Array w m) → Lower w m d
lower w m d l = lower_by w m d (is_primitive w) refl (along (λ x. suc d ≤ x) (depth_array w m) l)

no_depth : (t : Ty) (d : ℕ) → suc d ≤ depth t → (w : Ty) × (m : ℕ) × (t ≡ Array w m)
unfolding depth
no_depth t d l = by_layer (out-Ty t) refl l
  where
    by_layer : (y : Layer) → out-Ty t ≡ y → suc d ≤ depth_at y → (w : Ty) × (m : ℕ) × (t ≡ Array w m)
    by_layer (Ty-F.Array w m) e l = (w, m, as_array t w m e)
    by_layer (Ty-F.Prim p) e l = absurd (omega (arith, l))
    by_layer (Ty-F.Class i xs) e l = absurd (omega (arith, l))
    by_layer (Ty-F.Raw i) e l = absurd (omega (arith, l))
    by_layer (Ty-F.Variable v) e l = absurd (omega (arith, l))
    by_layer (Ty-F.Captured c) e l = absurd (omega (arith, l))
    by_layer (Ty-F.Meet ts) e l = absurd (omega (arith, l))
    by_layer Ty-F.NullTy e l = absurd (omega (arith, l))

-- ---- what is beneath a type

module _ (T : Table) (env : List Bounds) (R : Ty → Ty → Type 0) where
  beneath_ref : (t u : Ty) → Beneath T env Ref R t u → Ref t → Ref u
  beneath_ref t u (by_itself _ _ e) r = along Ref (same_told t u e) r
  beneath_ref t u (by_null _ _ e n) r = n
  beneath_ref t u (by_top _) r = class_ref (numbered 0) []
  beneath_ref t u (by_raw _ v k e) r = raw_ref k
  beneath_ref t u (by_class _ v k args e h) r = class_ref k args
  beneath_ref t u (by_parts _ us h) r = meet_ref us
  beneath_ref t u (by_elements _ w zero l b) r = beneath_ref (stripped 0 t) w b (along Ref (sym (stripped_none t)) r)
  beneath_ref t u (by_elements _ w (suc d) l b) r = array_over_ref d w

  as_many : (xs ys : List Arg) → AllIn R xs ys → length xs ≡ length ys
  as_many [] [] h = refl
  as_many [] (y ∷ ys) h = absurd h
  as_many (x ∷ xs) [] h = absurd h
  as_many (x ∷ xs) (y ∷ ys) h = let rest : length xs ≡ length ys = as_many xs ys h.1 in omega (arith, rest)

  module _ (vars : List Binding) (captured : List Ty) where
    abbrev cl : Ty → Ty
    cl t = close vars captured t

    closed_ref : (n : ℕ) → Stand T n env vars captured → (t : Ty) → Ref t → Ref (close vars captured t)
    closed_ref n stand t r = by_layer (out-Ty t) refl
      where
        by_layer : (l : Layer) → out-Ty t ≡ l → Ref (close vars captured t)
        by_layer (Ty-F.Prim p) e = let no_one : true ≡ false = ref_out t (Ty-F.Prim p) e r in cc
        by_layer (Ty-F.Class i xs) e = along Ref (sym (ap (close vars captured) (as_class_type t i xs e) ∙ (closing vars captured).class i xs)) (class_ref i (map (close_arg vars captured) xs))
        by_layer (Ty-F.Raw i) e = along Ref (sym (ap (close vars captured) (as_raw_type t i e) ∙ (closing vars captured).raw i)) (raw_ref i)
        by_layer (Ty-F.Array u m) e = along Ref (sym (ap (close vars captured) (as_array t u m e) ∙ (closing vars captured).array u m)) (array_over_ref m (close vars captured u))
        by_layer (Ty-F.Variable v) e = along Ref (sym (close_variable vars captured t v e)) (stand.reference v)
        by_layer (Ty-F.Captured c) e = along Ref (sym (close_captured vars captured t c e)) (stand.captured_reference c)
        by_layer (Ty-F.Meet ts) e = along Ref (sym (ap (close vars captured) (as_meet t ts e) ∙ (closing vars captured).meet ts)) (meet_ref (map (close vars captured) ts))
        by_layer Ty-F.NullTy e = along Ref (sym (ap (close vars captured) (as_null t e) ∙ (closing vars captured).null)) null_ref

    lowered_closed : (w : Ty) (m : ℕ) → close vars captured (lowered w m) ≡ inner m (close vars captured w)
    lowered_closed w zero = refl
    lowered_closed w (suc m) = (closing vars captured).array w m

    over_closed : (d : ℕ) (u : Ty) → close vars captured (over d u) ≡ inner d (close vars captured u)
    over_closed zero u = refl
    over_closed (suc d) u = hom_over (close vars captured) (close_arg vars captured) (closing vars captured) d u

    module _ (H : HasHeaders T) (n : ℕ) (less : Stand T n env vars captured) (stand : Stand T (suc n) env vars captured)
        (carries : (t u : Ty) → R t u → BelowAt T n (close vars captured t) (close vars captured u))
        (one_less : (t u : Ty) → is_primitive t ≡ false → Beneath T env (λ t. is_primitive t ≡ false) R t u → BelowAt T n (close vars captured t) (close vars captured u))
        (K : Ty) (sound : SoundOver T (BelowAt T n) K) where
      abbrev Fits : Ty → Type 0
      Fits t = FitsOver T (BelowAt T n) K t

      abbrev IsSeen : Ty → ClassId → Type 0
      IsSeen v k = Seen T H n vars captured R carries K sound v k

      object_made : (t : Ty) (k : ClassId) (l : Layer) → out-Ty t ≡ l → is_object_at l ≡ (k.0 == 0) → (k.0 == 0) ≡ true → Fits t
      object_made t k l e f z = to_object (object_out t l e ∙ f ∙ z)

      raw_test : (t : Ty) (l : Layer) → out-Ty t ≡ l → is_raw T t ≡ is_raw_at T l
      unfolding is_raw
      raw_test t l e = ap (is_raw_at T) e

      fits_raw : (v : Ty) (k : ClassId) → IsSeen v k → Fits (close vars captured (Raw k))
      fits_raw v k s = along Fits (sym ((closing vars captured).raw k)) (by_seen s)
        where
          by_seen : IsSeen v k → Fits (Raw k)
          by_seen (inl z) = object_made (Raw k) k (Ty-F.Raw k) (outs-Raw k) refl z
          by_seen (inr w) = to_raw (raw_made k) (raw_test (Raw k) (Ty-F.Raw k) (outs-Raw k)) w.1

      fits_class : (v : Ty) (k : ClassId) (args : List Arg) → AllIn R (args_of v) args → IsSeen v k → Fits (close vars captured (Class k args))
      fits_class v k args h s = along Fits (sym ((closing vars captured).class k args)) (by_seen s)
        where
          by_count : (w : Ty) → view T k K ≡ Some w → (length (args_of v) ≡ length (vars_of T k) → Taken T H n vars captured R carries K sound v k) → (b : Bool)
              → (length (map (close_arg vars captured) args) == length (vars_of T k)) ≡ b → Fits (Class k (map (close_arg vars captured) args))
          by_count w e f true q =
              let many : length (map (close_arg vars captured) args) ≡ length (vars_of T k) = grind (arith, nat_tests, q) in
              let own : length (args_of v) ≡ length (vars_of T k) = as_many (args_of v) args h ∙ sym (length-map args (close_arg vars captured)) ∙ many in
              let taken = f own in
              to_class taken.0 (outs-Class k (map (close_arg vars captured) args)) many taken.1 (taken.2 args h)
          by_count w e f false q =
              to_raw (class_made k (map (close_arg vars captured) args)) (raw_test (Class k (map (close_arg vars captured) args)) (Ty-F.Class k (map (close_arg vars captured) args)) (outs-Class k (map (close_arg vars captured) args)) ∙ ap not q) e

          by_seen : IsSeen v k → Fits (Class k (map (close_arg vars captured) args))
          by_seen (inl z) = object_made (Class k (map (close_arg vars captured) args)) k (Ty-F.Class k (map (close_arg vars captured) args)) (outs-Class k (map (close_arg vars captured) args)) refl z
          by_seen (inr w) = by_count w.0 w.1 w.2 (length (map (close_arg vars captured) args) == length (vars_of T k)) refl

      fits_null : (t u : Ty) → out-Ty t ≡ Ty-F.NullTy → Fits t → Fits u
      unfolding is_object class_of element
      fits_null t u o (to_object f) = let s : false ≡ true = sym (ap is_object_at o) ∙ f in cc
      fits_null t u o (to_raw {id = i} f r g) = let s : None ≡ Some i = sym (ap class_at o) ∙ f in cc
      fits_null t u o (to_class {id = i} {args = ys} ks p m v h) = let s : Ty-F.NullTy ≡ Ty-F.Class i ys = sym o ∙ p in cc
      fits_null t u o (to_primitives {a = a} f g p) = let s : None ≡ Some a = sym (ap element_at o) ∙ g in cc
      fits_null t u o (to_array {b = b} f g p q h) = let s : None ≡ Some b = sym (ap element_at o) ∙ g in cc
      fits_null t u o (to_meet {parts = us} p h) = let s : Ty-F.NullTy ≡ Ty-F.Meet us = sym o ∙ p in cc

      null_out : (t : Ty) → is_null t ≡ true → out-Ty (close vars captured t) ≡ Ty-F.NullTy
      unfolding is_null
      null_out t e = by_layer (out-Ty t) refl e
        where
          by_layer : (l : Layer) → out-Ty t ≡ l → is_null_at l ≡ true → out-Ty (close vars captured t) ≡ Ty-F.NullTy
          by_layer Ty-F.NullTy o f = ap out-Ty (ap (close vars captured) (as_null t o) ∙ (closing vars captured).null) ∙ outs-NullTy
          by_layer l o f = cc

      fits_parts : (us : List Ty) → ((u : Ty) → IsAmong u us → Fits (close vars captured u)) → FitsAll T (BelowAt T n) K (map (close vars captured) us)
      fits_parts [] h = none
      fits_parts (u ∷ us) h = more (h u (inl refl)) (fits_parts us (λ w m. h w (inr m)))

      -- an array that fits one has elements below those
      abbrev Elements : Ty → Type 0
      Elements b = (a : Ty) × (element K ≡ Some a) × (is_primitive a ≡ false) × BelowAt T n a b

      no_other : (t b : Ty) → element t ≡ Some b → is_primitive b ≡ false → Fits t → Elements b
      unfolding is_object class_of element
      no_other t b e r fits = by_layer (out-Ty t) refl e fits
        where
          by_fit : (u : Ty) (m : ℕ) → out-Ty t ≡ Ty-F.Array u m → Fits t → Elements b
          by_fit u m o (to_object f) = let s : false ≡ true = sym (ap is_object_at o) ∙ f in cc
          by_fit u m o (to_raw {id = i} f q g) = let s : None ≡ Some i = sym (ap class_at o) ∙ f in cc
          by_fit u m o (to_class {id = i} {args = ys} ks p l v h) = let s : Ty-F.Array u m ≡ Ty-F.Class i ys = sym o ∙ p in cc
          by_fit u m o (to_primitives {a = a} f g p) =
              let s : Some b ≡ Some a = sym e ∙ g in
              let same : b ≡ a = cc in
              let no_one : false ≡ true = sym r ∙ ap is_primitive same ∙ p in
              cc
          by_fit u m o (to_array {a = a} {b = c} f g p q h) =
              let s : Some c ≡ Some b = sym g ∙ e in
              let same : c ≡ b = cc in
              (a, f, p, along (λ x. BelowAt T n a x) same h)
          by_fit u m o (to_meet {parts = us} p h) = let s : Ty-F.Array u m ≡ Ty-F.Meet us = sym o ∙ p in cc

          by_layer : (l : Layer) → out-Ty t ≡ l → element_at l ≡ Some b → Fits t → Elements b
          by_layer (Ty-F.Array u m) o f fits = by_fit u m o fits
          by_layer l o f fits = let s : None ≡ Some b = f in cc

      fits_elements : (t u : Ty) (d : ℕ) → suc d ≤ depth t → Beneath T env (λ t. is_primitive t ≡ false) R (stripped (suc d) t) u → Fits (close vars captured t) → Fits (close vars captured (over (suc d) u))
      fits_elements t u d l b fits =
          let array = no_depth t d l in
          let w = array.0 in
          let m = array.1 in
          let low = lower w m d (along (λ x. suc d ≤ depth x) array.2 l) in
          let below : Beneath T env (λ t. is_primitive t ≡ false) R (lowered w m) (over d u) =
          by_elements (lowered w m) u d low.deep (along (λ x. Beneath T env (λ t. is_primitive t ≡ false) R x u) (ap (stripped (suc d)) array.2 ∙ low.alike) b) in
          let made : close vars captured t ≡ array_over m (close vars captured w) = ap (close vars captured) array.2 ∙ (closing vars captured).array w m in
          let elements : element (close vars captured t) ≡ Some (close vars captured (lowered w m)) = ap element made ∙ element_over m (close vars captured w) ∙ ap Some (sym (lowered_closed w m)) in
          let has = no_other (close vars captured t) (close vars captured (lowered w m)) elements (closed_ref n less (lowered w m) low.reference) fits in
          let result : element (close vars captured (over (suc d) u)) ≡ Some (close vars captured (over d u)) =
          ap element (over_closed (suc d) u) ∙ element_over d (close vars captured u) ∙ ap Some (sym (over_closed d u)) in
          to_array has.1 result has.2 (closed_ref n less (over d u) (beneath_ref (lowered w m) (over d u) below low.reference))
          (below_trans T n has.0 (close vars captured (lowered w m)) (close vars captured (over d u)) has.3 (one_less (lowered w m) (over d u) low.reference below))

      -- what fits a type fits each that it is beneath
      fits_above : (t u : Ty) → Beneath T env (λ t. is_primitive t ≡ false) R t u → Fits (close vars captured t) → Fits (close vars captured u)
      fits_above t u (by_itself _ _ e) fits = along (λ x. Fits (close vars captured x)) (same_told t u e) fits
      fits_above t u (by_null _ _ e r) fits = fits_null (close vars captured t) (close vars captured u) (null_out t e) fits
      fits_above t u (by_top _) fits =
          along Fits (sym ((closing vars captured).class (numbered 0) [])) (object_made (Class (numbered 0) []) (numbered 0) (Ty-F.Class (numbered 0) []) (outs-Class (numbered 0) []) refl refl)
      fits_above t u (by_raw _ v k e) fits = fits_raw v k (seen T H n vars captured R carries K sound env stand k t v e fits)
      fits_above t u (by_class _ v k args e h) fits = fits_class v k args h (seen T H n vars captured R carries K sound env stand k t v e fits)
      fits_above t u (by_parts _ us h) fits =
          along Fits (sym ((closing vars captured).meet us)) (to_meet (outs-Meet (map (close vars captured) us)) (fits_parts us (λ w m. fits_above t w (h w m) fits)))
      fits_above t u (by_elements _ w zero l b) fits = fits_above (stripped 0 t) w b (along (λ x. Fits (close vars captured x)) (sym (stripped_none t)) fits)
      fits_above t u (by_elements _ w (suc d) l b) fits = fits_elements t w d l b fits

-- ---- at each level

none_primitive : (s t : Ty) → Ref s → Ref t → PrimitivesBelow s t
none_primitive s t r q e = let no_one : false ≡ true = sym (ap (λ (b : Bool). b || is_primitive t) r ∙ q) ∙ e in cc

within_less : (T : Table) (n : ℕ) (k : Ty) (bs : List Ty) → BelowAll (BelowAt T (suc n)) k bs → BelowAll (BelowAt T n) k bs
within_less T n k [] h = tt
within_less T n k (b ∷ bs) h = (below_smaller T n k b h.0, within_less T n k bs h.1)

stand_less : (T : Table) (n : ℕ) (env : List Bounds) (vars : List Binding) (captured : List Ty) → Stand T (suc n) env vars captured → Stand T n env vars captured
stand_less T n env vars captured s = record {
  reference = s.reference;
  captured_reference = s.captured_reference;
  within = λ v. within_less T n (bound_to v vars) _ (s.within v);
  captured_within = λ c. within_less T n (get_or captured c.0 NullTy) _ (s.captured_within c);
}

module _ (T : Table) (H : HasHeaders T) (env : List Bounds) (vars : List Binding) (captured : List Ty) where
  abbrev Carries : ℕ → (Ty → Ty → Type 0) → Type 0
  Carries n R = (t u : Ty) → R t u → BelowAt T n (close vars captured t) (close vars captured u)

  beneath_at : (R : Ty → Ty → Type 0) → ((n : ℕ) → Stand T n env vars captured → Carries n R) → (n : ℕ) → Stand T n env vars captured
      → (t u : Ty) → is_primitive t ≡ false → Beneath T env (λ t. is_primitive t ≡ false) R t u → BelowAt T n (close vars captured t) (close vars captured u)
  unfolding BelowAt
  beneath_at R carries zero stand t u r b =
      none_primitive (close vars captured t) (close vars captured u) (closed_ref T env R vars captured 0 stand t r) (closed_ref T env R vars captured 0 stand u (beneath_ref T env R t u b r))
  beneath_at R carries (suc n) stand t u r b =
      let less = stand_less T n env vars captured stand in (
        beneath_at R carries n less t u r b,
        λ K sound fits. fits_above T env R vars captured H n less stand (carries n less) (beneath_at R carries n less) K sound t u b fits,
      )

  abbrev Never : Ty → Ty → Type 0
  Never t u = ⊥

  abbrev Inside : Ty → Ty → Type 0
  Inside t u = (is_primitive t ≡ false) × Beneath T env (λ t. is_primitive t ≡ false) Never t u

  abbrev Whatever : Ty → Type 0
  Whatever t = Unit {0}

  in_any : (ts : List Ty) (t : Ty) (a : Arg) → ((x : Ty) → IsAmong x ts → Whatever x) → IsAmong t ts → upper_of a ≡ Some t → IsIn Never a (join T env 0 ts)
  in_any ts t a h o e = any a

  in_join : (ts : List Ty) (t : Ty) (a : Arg) → ((x : Ty) → IsAmong x ts → is_primitive x ≡ false) → IsAmong t ts → upper_of a ≡ Some t → IsIn Inside a (join T env 1 ts)
  in_join ts t a h o e =
      extending a t (through T env (join T env 0) ts) e (
        h t o,
        under_through T env (λ t. is_primitive t ≡ false) Whatever Never (join T env 0) in_any t ts (through_ref T env (join T env 0) ts h) (λ t m d l k v e c n x u. tt) o,
      )

  inside_carries : (n : ℕ) → Stand T n env vars captured → Carries n Inside
  inside_carries n stand t u r = beneath_at Never (λ n s t u r. absurd r) n stand t u r.0 r.1

  operand_below : (n : ℕ) → Stand T n env vars captured → (ts : List Ty) → ((t : Ty) → IsAmong t ts → IsOperand T env t) → (t : Ty) → IsAmong t ts
      → BelowAt T n (close vars captured t) (close vars captured (lub T env ts))
  operand_below n stand ts h t o =
      beneath_at Inside inside_carries n stand t (lub T env ts) (h t o).reference
      (under_through T env (λ t. is_primitive t ≡ false) (λ t. is_primitive t ≡ false) Inside (join T env 1) in_join t ts (through_ref T env (join T env 1) ts (λ x m. (h x m).reference))
      (λ x m d l k v e c q y u. (h x m).arguments d k v c y l e q u) o)

pub operands_are_below : OperandsAreBelow
operands_are_below T H n env vars captured stand ts h t o = operand_below T H env vars captured n stand ts h t o
