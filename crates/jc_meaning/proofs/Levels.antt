-- Below is transitive, and what holds at a level holds at each smaller one.
use Rattle.std.proofs.Common.{◌≡◌, ℕ, zero, suc, ◌||◌, true, false, Some, List, [], ◌∷◌, map, refl, ap}
use Rattle.jc_types.specs.declared.form.Ty.{Ty, Ty-F, out-Ty}
use Rattle.jc_types.specs.declared.form.Arg.{Arg, Arg-F, out-Arg}
use Rattle.jc_types.specs.declared.form.Primitive.{Primitive}
use Rattle.jc_types.specs.declared.form.Primitive.TheVariants.{Boolean, Byte, Short, Char, Int, Long}
use Rattle.jc_types.specs.declared.ids.VarId.{VarId}
use Rattle.jc_types.specs.declared.ids.ClassId.{ClassId}
use Rattle.jc_types.specs.Arrays.{element, element_at}
use Rattle.jc_types.specs.declared.table.Table.{Table}
use Rattle.jc_types.specs.Substitution.{subst}
use Rattle.jc_types.specs.Accessors.{bounds_of}
use Rattle.jc_judge.specs.Kinds.{Layer, is_primitive, is_primitive_at, primitives_below, primitives_at, primitive_below, is_object, is_object_at, class_of, class_at}
use Rattle.jc_meaning.specs.Levels.{Relation, Holds_at, AllHeld, FitsOver, to_object, to_raw, to_class, to_primitives, to_array, to_meet, FitsAll, none, more, BelowAll, ArgsSound, SoundOver, sound_class, sound_array, PrimitivesBelow, BelowAt, FitsAt, SoundAt}

primitive_trans : (p q r : Primitive) → primitive_below p q ≡ true → primitive_below q r ≡ true → primitive_below p r ≡ true
primitive_trans Boolean Boolean Boolean e f = refl
primitive_trans Byte Byte Byte e f = refl
primitive_trans Byte Byte Short e f = refl
primitive_trans Byte Byte Int e f = refl
primitive_trans Byte Byte Long e f = refl
primitive_trans Byte Short Short e f = refl
primitive_trans Byte Short Int e f = refl
primitive_trans Byte Short Long e f = refl
primitive_trans Byte Int Int e f = refl
primitive_trans Byte Int Long e f = refl
primitive_trans Byte Long Long e f = refl
primitive_trans Short Short Short e f = refl
primitive_trans Short Short Int e f = refl
primitive_trans Short Short Long e f = refl
primitive_trans Short Int Int e f = refl
primitive_trans Short Int Long e f = refl
primitive_trans Short Long Long e f = refl
primitive_trans Char Char Char e f = refl
primitive_trans Char Char Int e f = refl
primitive_trans Char Char Long e f = refl
primitive_trans Char Int Int e f = refl
primitive_trans Char Int Long e f = refl
primitive_trans Char Long Long e f = refl
primitive_trans Int Int Int e f = refl
primitive_trans Int Int Long e f = refl
primitive_trans Int Long Long e f = refl
primitive_trans Long Long Long e f = refl
primitive_trans _ _ _ e f = cc

layers_trans : (l m r : Layer) → ((is_primitive_at l || is_primitive_at m) ≡ true → primitives_at l m ≡ true) → ((is_primitive_at m || is_primitive_at r) ≡ true → primitives_at m r ≡ true) → (is_primitive_at l || is_primitive_at r) ≡ true → primitives_at l r ≡ true
layers_trans (Ty-F.Prim p) (Ty-F.Prim q) (Ty-F.Prim r) f g h = primitive_trans p q r (f refl) (g refl)
layers_trans (Ty-F.Prim p) (Ty-F.Prim q) r f g h = g refl
layers_trans (Ty-F.Prim p) m r f g h = let e : false ≡ true = f refl in cc
layers_trans l (Ty-F.Prim q) r f g h = let e : false ≡ true = f refl in cc
layers_trans l m (Ty-F.Prim r) f g h = g refl
layers_trans l m r f g h = h

kinds_trans : (s t u : Ty) → PrimitivesBelow s t → PrimitivesBelow t u → PrimitivesBelow s u
unfolding is_primitive primitives_below
kinds_trans s t u f g = layers_trans (out-Ty s) (out-Ty t) (out-Ty u) f g

module _ (A B : Relation) (f : (s t : Ty) → A s t → B s t) where
  held_along : (a : Arg-F Arg Ty) (k : Ty) → Holds_at A a k → Holds_at B a k
  held_along (Arg-F.Exact t) k h = h
  held_along Arg-F.Any k h = tt
  held_along (Arg-F.Extends u) k h = f k u h
  held_along (Arg-F.Super l) k h = f l k h

  pub all_held_along : (args : List Arg) (ks : List Ty) → AllHeld A args ks → AllHeld B args ks
  all_held_along [] ks h = tt
  all_held_along (a ∷ args) [] h = tt
  all_held_along (a ∷ args) (k ∷ ks) h = (held_along (out-Arg a) k h.0, all_held_along args ks h.1)

  mutual
    pub fits_along : (T : Table) (k t : Ty) → FitsOver T A k t → FitsOver T B k t
    fits_along T k t (to_object e) = to_object e
    fits_along T k t (to_raw c r v) = to_raw c r v
    fits_along T k t (to_class ks o l v h) = to_class ks o l v (all_held_along _ _ h)
    fits_along T k t (to_primitives o p e) = to_primitives o p e
    fits_along T k t (to_array o p a b h) = to_array o p a b (f _ _ h)
    fits_along T k t (to_meet o h) = to_meet o (all_fit_along T k _ h)

    all_fit_along : (T : Table) (k : Ty) (ts : List Ty) → FitsAll T A k ts → FitsAll T B k ts
    all_fit_along T k ts none = none
    all_fit_along T k ts (more h hs) = more (fits_along T k _ h) (all_fit_along T k _ hs)

  below_all_along : (k : Ty) (bs : List Ty) → BelowAll A k bs → BelowAll B k bs
  below_all_along k [] h = tt
  below_all_along k (b ∷ bs) h = (f k b h.0, below_all_along k bs h.1)

  args_along : (T : Table) (vars : List VarId) (by : List Ty) (ps : List VarId) (ks : List Ty) → ArgsSound T A vars by ps ks → ArgsSound T B vars by ps ks
  args_along T vars by [] ks h = tt
  args_along T vars by (p ∷ ps) [] h = tt
  args_along T vars by (p ∷ ps) (k ∷ ks) h = (h.0, below_all_along k (map (subst vars by) (bounds_of T p)) h.1, args_along T vars by ps ks h.2)

  pub sound_along : (T : Table) (k : Ty) → SoundOver T A k → SoundOver T B k
  sound_along T k (sound_class ks e l h) = sound_class ks e l (args_along T _ _ _ _ h)
  sound_along T k (sound_array e) = sound_array e

pub below_trans : (T : Table) (n : ℕ) (s t u : Ty) → BelowAt T n s t → BelowAt T n t u → BelowAt T n s u
unfolding BelowAt
below_trans T zero s t u f g = kinds_trans s t u f g
below_trans T (suc n) s t u f g = (below_trans T n s t u f.0 g.0, λ k sound fits. g.1 k sound (f.1 k sound fits))

pub below_smaller : (T : Table) (n : ℕ) (s t : Ty) → BelowAt T (suc n) s t → BelowAt T n s t
unfolding BelowAt
below_smaller T n s t h = h.0

object_layer : (l : Layer) → is_object_at l ≡ true → is_primitive_at l ≡ false
object_layer (Ty-F.Prim p) h = cc
object_layer _ h = refl

class_layer : (l : Layer) (id : ClassId) → class_at l ≡ Some id → is_primitive_at l ≡ false
class_layer (Ty-F.Prim p) id h = cc
class_layer _ id h = refl

element_layer : (l : Layer) (a : Ty) → element_at l ≡ Some a → is_primitive_at l ≡ false
element_layer (Ty-F.Prim p) a h = cc
element_layer _ a h = refl

-- what a kept type fits is a reference type
not_primitive : (T : Table) (below : Relation) (k t : Ty) → FitsOver T below k t → is_primitive t ≡ false
unfolding is_primitive is_object class_of element
not_primitive T below k t (to_object e) = object_layer (out-Ty t) e
not_primitive T below k t (to_raw {id = id} c r v) = class_layer (out-Ty t) id c
not_primitive T below k t (to_class ks o l v h) = ap is_primitive_at o
not_primitive T below k t (to_primitives {a = a} o p e) = element_layer (out-Ty t) a p
not_primitive T below k t (to_array {b = b} o p x y h) = element_layer (out-Ty t) b p
not_primitive T below k t (to_meet o h) = ap is_primitive_at o

pub fits_smaller : (T : Table) (n : ℕ) (k t : Ty) → FitsAt T (suc n) k t → FitsAt T n k t
fits_smaller T zero k t h = not_primitive T (BelowAt T 0) k t h
fits_smaller T (suc n) k t h = fits_along _ _ (below_smaller T n) T k t h

pub sound_smaller : (T : Table) (n : ℕ) (k : Ty) → SoundAt T (suc n) k → SoundAt T n k
sound_smaller T zero k h = tt
sound_smaller T (suc n) k h = sound_along _ _ (below_smaller T n) T k h
