-- Substitution of nothing, and erasure behind it.
use Rattle.std.proofs.Common.{◌≡◌, ℕ, zero, suc, ◌+◌, List, [], ◌∷◌, map, refl, sym, ap, subst, ◌∙◌, arith}
use Rattle.jc_types.specs.declared.erased.Base.{Base}
use Rattle.jc_types.specs.declared.erased.Base.TheVariants as base
use Rattle.jc_types.specs.declared.erased.Erased.{Erased}
use Rattle.jc_types.specs.declared.form.Arg.{Arg, Arg-F, map-Arg, roll-Arg}
use Rattle.jc_types.specs.declared.form.Arg.TheVariants.{Exact, Extends, Super, rolls-Exact, rolls-Any, rolls-Extends, rolls-Super}
use Rattle.jc_types.specs.declared.form.Ty.{Ty, Ty-F, out-Ty, roll-Ty, roll-out-Ty, map-Ty, fold_out-Ty, ind-Ty}
use Rattle.jc_types.specs.declared.form.Ty.TheVariants.{Prim, Class, Array, Meet, outs-Class, outs-Array, outs-Meet, rolls-Prim, rolls-Class, rolls-Raw, rolls-Array, rolls-Variable, rolls-Captured, rolls-Meet, rolls-NullTy}
use Rattle.jc_types.specs.declared.ids.CaptureId.{CaptureId}
use Rattle.jc_types.specs.declared.ids.ClassId.{ClassId}
use Rattle.jc_types.specs.declared.ids.VarId.{VarId}
use Rattle.jc_types.specs.declared.table.Table.{Table}
use Rattle.jc_types.specs.Accessors.{vars_of}
use Rattle.jc_types.specs.Arrays.{array_over, array_over_at}
use Rattle.jc_types.specs.Erasing.{erasure, erased_by, erased_step, erased_within, first_or_object, raised, capped}
use Rattle.jc_types.specs.Substitution.{subst as put, subst_arg as put_arg}
use Rattle.jc_types.proofs.Substituted.{subst-Prim, subst-Class, subst-Raw, subst-Array, subst-Variable, subst-Captured, subst-Meet, subst-NullTy, subst_arg-Exact, subst_arg-Any, subst_arg-Extends, subst_arg-Super}
use Rattle.jc_overriding.specs.Viewing.{base_type, erased_type, plain, plain_class, with_dims}

-- ---- arrays

over_array : (n m : ℕ) (t : Ty) → array_over n (Array t m) ≡ Array t (m + n + 1)
unfolding array_over
over_array n m t = ap (array_over_at n (Array t m)) (outs-Array t m)

over_over_at : (n m : ℕ) (t : Ty) (l : Ty-F Arg Ty) → array_over n (array_over_at m t l) ≡ array_over_at (m + n + 1) t l
over_over_at n m t (Ty-F.Array u k) = over_array n (k + m + 1) u ∙ ap (Array u) (omega arith)
over_over_at n m t (Ty-F.Prim p) = over_array n m t
over_over_at n m t (Ty-F.Class i xs) = over_array n m t
over_over_at n m t (Ty-F.Raw i) = over_array n m t
over_over_at n m t (Ty-F.Variable v) = over_array n m t
over_over_at n m t (Ty-F.Captured v) = over_array n m t
over_over_at n m t (Ty-F.Meet ts) = over_array n m t
over_over_at n m t Ty-F.NullTy = over_array n m t

over_over : (n m : ℕ) (t : Ty) → array_over n (array_over m t) ≡ array_over (m + n + 1) t
unfolding array_over
over_over n m t = over_over_at n m t (out-Ty t)

-- ---- nothing for no variable

put_over_at : (n : ℕ) (t : Ty) (l : Ty-F Arg Ty) → roll-Ty l ≡ t → put [] [] (array_over_at n t l) ≡ array_over n (put [] [] t)
put_over_at n t (Ty-F.Array u m) e =
    subst-Array [] [] u (m + n + 1)
    ∙ (sym (over_over n m (put [] [] u)) ∙ ap (array_over n) (sym (subst-Array [] [] u m) ∙ ap (put [] []) (sym (rolls-Array u m) ∙ e)))
put_over_at n t (Ty-F.Prim p) e = subst-Array [] [] t n
put_over_at n t (Ty-F.Class i xs) e = subst-Array [] [] t n
put_over_at n t (Ty-F.Raw i) e = subst-Array [] [] t n
put_over_at n t (Ty-F.Variable v) e = subst-Array [] [] t n
put_over_at n t (Ty-F.Captured v) e = subst-Array [] [] t n
put_over_at n t (Ty-F.Meet ts) e = subst-Array [] [] t n
put_over_at n t Ty-F.NullTy e = subst-Array [] [] t n

put_over : (n : ℕ) (t : Ty) → put [] [] (array_over n t) ≡ array_over n (put [] [] t)
unfolding array_over
put_over n t = put_over_at n t (out-Ty t) (roll-out-Ty t)

abbrev Twice : Ty → Type 0
Twice t = put [] [] (put [] [] t) ≡ put [] [] t

abbrev TwiceArg : Arg → Type 0
TwiceArg a = put_arg [] [] (put_arg [] [] a) ≡ put_arg [] [] a

abbrev SomeTy : Type 0
SomeTy = (t : Ty) × Twice t

abbrev SomeArg : Type 0
SomeArg = (a : Arg) × TwiceArg a

types_twice : (zs : List SomeTy) → map (put [] []) (map (put [] []) (map (λ z. z.0) zs)) ≡ map (put [] []) (map (λ z. z.0) zs)
types_twice [] = refl
types_twice (z ∷ zs) = ap (λ t. t ∷ map (put [] []) (map (put [] []) (map (λ z. z.0) zs))) z.1 ∙ ap (λ ts. put [] [] z.0 ∷ ts) (types_twice zs)

args_twice : (zs : List SomeArg) → map (put_arg [] []) (map (put_arg [] []) (map (λ z. z.0) zs)) ≡ map (put_arg [] []) (map (λ z. z.0) zs)
args_twice [] = refl
args_twice (z ∷ zs) = ap (λ a. a ∷ map (put_arg [] []) (map (put_arg [] []) (map (λ z. z.0) zs))) z.1 ∙ ap (λ xs. put_arg [] [] z.0 ∷ xs) (args_twice zs)

-- where the first substitution leaves a type whose second one is known
again : (t s u : Ty) → t ≡ s → put [] [] s ≡ u → put [] [] u ≡ u → Twice t
again t s u e f g = subst Twice (sym e) (ap (put [] []) f ∙ g ∙ sym f)

again_arg : (a b c : Arg) → a ≡ b → put_arg [] [] b ≡ c → put_arg [] [] c ≡ c → TwiceArg a
again_arg a b c e f g = subst TwiceArg (sym e) (ap (put_arg [] []) f ∙ g ∙ sym f)

abbrev plain_layer : Ty-F SomeArg SomeTy → Ty-F Arg Ty
plain_layer y = map-Ty SomeArg SomeTy Arg Ty (λ z. z.0) (λ z. z.0) y

layer_twice : (y : Ty-F SomeArg SomeTy) → Twice (roll-Ty (plain_layer y))
layer_twice (Ty-F.Prim p) = again _ _ _ (rolls-Prim p) (subst-Prim [] [] p) (subst-Prim [] [] p)
layer_twice (Ty-F.Class i zs) = again _ _ _ (rolls-Class i (map (λ z. z.0) zs)) (subst-Class [] [] i (map (λ z. z.0) zs)) (subst-Class [] [] i (map (put_arg [] []) (map (λ z. z.0) zs)) ∙ ap (Class i) (args_twice zs))
layer_twice (Ty-F.Raw i) = again _ _ _ (rolls-Raw i) (subst-Raw [] [] i) (subst-Raw [] [] i)
layer_twice (Ty-F.Array z n) = again _ _ _ (rolls-Array z.0 n) (subst-Array [] [] z.0 n) (put_over n (put [] [] z.0) ∙ ap (array_over n) z.1)
layer_twice (Ty-F.Variable v) = again _ _ _ (rolls-Variable v) (subst-Variable [] [] v) (subst-Variable [] [] v)
layer_twice (Ty-F.Captured v) = again _ _ _ (rolls-Captured v) (subst-Captured [] [] v) (subst-Captured [] [] v)
layer_twice (Ty-F.Meet zs) = again _ _ _ (rolls-Meet (map (λ z. z.0) zs)) (subst-Meet [] [] (map (λ z. z.0) zs)) (subst-Meet [] [] (map (put [] []) (map (λ z. z.0) zs)) ∙ ap Meet (types_twice zs))
layer_twice Ty-F.NullTy = again _ _ _ rolls-NullTy (subst-NullTy [] []) (subst-NullTy [] [])

abbrev plain_arg_layer : Arg-F SomeArg SomeTy → Arg-F Arg Ty
plain_arg_layer (Arg-F.Exact z) = Arg-F.Exact z.0
plain_arg_layer Arg-F.Any = Arg-F.Any
plain_arg_layer (Arg-F.Extends z) = Arg-F.Extends z.0
plain_arg_layer (Arg-F.Super z) = Arg-F.Super z.0

arg_layer_twice : (y : Arg-F SomeArg SomeTy) (x : Arg-F Arg Ty) → plain_arg_layer y ≡ x → TwiceArg (roll-Arg x)
arg_layer_twice (Arg-F.Exact z) x e = subst (λ x. TwiceArg (roll-Arg x)) e (again_arg _ _ _ (rolls-Exact z.0) (subst_arg-Exact [] [] z.0) (subst_arg-Exact [] [] (put [] [] z.0) ∙ ap Exact z.1))
arg_layer_twice Arg-F.Any x e = subst (λ x. TwiceArg (roll-Arg x)) e (again_arg _ _ _ rolls-Any (subst_arg-Any [] []) (subst_arg-Any [] []))
arg_layer_twice (Arg-F.Extends z) x e = subst (λ x. TwiceArg (roll-Arg x)) e (again_arg _ _ _ (rolls-Extends z.0) (subst_arg-Extends [] [] z.0) (subst_arg-Extends [] [] (put [] [] z.0) ∙ ap Extends z.1))
arg_layer_twice (Arg-F.Super z) x e = subst (λ x. TwiceArg (roll-Arg x)) e (again_arg _ _ _ (rolls-Super z.0) (subst_arg-Super [] [] z.0) (subst_arg-Super [] [] (put [] [] z.0) ∙ ap Super z.1))

twice : (t : Ty) → Twice t
twice = ind-Ty TwiceArg Twice
    (λ x y is. arg_layer_twice y x (by y ∙ is))
    (λ x y is. subst (λ x. Twice (roll-Ty x)) is (layer_twice y))
  where
    by : (y : Arg-F SomeArg SomeTy) → plain_arg_layer y ≡ map-Arg SomeArg SomeTy Arg Ty (λ z. z.0) (λ z. z.0) y
    by (Arg-F.Exact z) = refl
    by Arg-F.Any = refl
    by (Arg-F.Extends z) = refl
    by (Arg-F.Super z) = refl

pub all_twice : (ts : List Ty) → map (put [] []) (map (put [] []) ts) ≡ map (put [] []) ts
all_twice [] = refl
all_twice (t ∷ ts) = ap (λ u. u ∷ map (put [] []) (map (put [] []) ts)) (twice t) ∙ ap (λ us. put [] [] t ∷ us) (all_twice ts)

-- ---- erasures are settled

class_settled : (k : ClassId) (vars : List VarId) (T : Table) → put [] [] (plain_class T k vars) ≡ plain_class T k vars
class_settled k [] T = subst-Class [] [] k []
class_settled k (v ∷ vars) T = subst-Raw [] [] k

base_settled : (T : Table) (b : Base) → put [] [] (base_type T b) ≡ base_type T b
base_settled T (base.Prim p) = subst-Prim [] [] p
base_settled T (base.Class k) = class_settled k (vars_of T k) T
base_settled T base.NullTy = subst-NullTy [] []

dims_settled : (n : ℕ) (t : Ty) → put [] [] t ≡ t → put [] [] (with_dims n t) ≡ with_dims n t
dims_settled zero t e = e
dims_settled (suc n) t e = put_over n t ∙ ap (array_over n) e

pub plain_settled : (T : Table) (t : Ty) → put [] [] (plain T t) ≡ plain T t
plain_settled T t = dims_settled (erasure T [] t).dims (base_type T (erasure T [] t).base) (base_settled T (erasure T [] t).base)

-- ---- the erasure of a settled type

module _ (vs : VarId → Erased) (cs : CaptureId → Erased) where
  by_out : (t : Ty) → erased_by vs cs t ≡ erased_step vs cs (map-Ty Arg Ty (Unit {0}) Erased (λ _. tt) (erased_by vs cs) (out-Ty t))
  unfolding erased_by
  by_out t = fold_out-Ty (Unit {0}) Erased (λ _. tt) (erased_step vs cs) t

  by_layer : (t : Ty) (l : Ty-F Arg Ty) → out-Ty t ≡ l → erased_by vs cs t ≡ erased_step vs cs (map-Ty Arg Ty (Unit {0}) Erased (λ _. tt) (erased_by vs cs) l)
  by_layer t l e = by_out t ∙ ap (λ l. erased_step vs cs (map-Ty Arg Ty (Unit {0}) Erased (λ _. tt) (erased_by vs cs) l)) e

  raised_twice : (n m : ℕ) (e : Erased) → raised (n + 1) (raised (m + 1) e) ≡ raised (m + n + 1 + 1) e
  raised_twice n m e = ap (λ (d : ℕ). let r : Erased = record { base = e.base; dims = d } in r) (omega arith)

  over_at : (n : ℕ) (t : Ty) (l : Ty-F Arg Ty) → out-Ty t ≡ l → erased_by vs cs (array_over_at n t l) ≡ raised (n + 1) (erased_by vs cs t)
  over_at n t (Ty-F.Array u m) e = by_layer (Array u (m + n + 1)) (Ty-F.Array u (m + n + 1)) (outs-Array u (m + n + 1)) ∙ (sym (raised_twice n m (erased_by vs cs u)) ∙ ap (raised (n + 1)) (sym (by_layer t (Ty-F.Array u m) e)))
  over_at n t (Ty-F.Prim p) e = by_layer (Array t n) (Ty-F.Array t n) (outs-Array t n)
  over_at n t (Ty-F.Class i xs) e = by_layer (Array t n) (Ty-F.Array t n) (outs-Array t n)
  over_at n t (Ty-F.Raw i) e = by_layer (Array t n) (Ty-F.Array t n) (outs-Array t n)
  over_at n t (Ty-F.Variable v) e = by_layer (Array t n) (Ty-F.Array t n) (outs-Array t n)
  over_at n t (Ty-F.Captured v) e = by_layer (Array t n) (Ty-F.Array t n) (outs-Array t n)
  over_at n t (Ty-F.Meet ts) e = by_layer (Array t n) (Ty-F.Array t n) (outs-Array t n)
  over_at n t Ty-F.NullTy e = by_layer (Array t n) (Ty-F.Array t n) (outs-Array t n)

  pub over_erased : (n : ℕ) (t : Ty) → erased_by vs cs (array_over n t) ≡ raised (n + 1) (erased_by vs cs t)
  unfolding array_over
  over_erased n t = over_at n t (out-Ty t) refl

  abbrev Kept : Ty → Type 0
  Kept t = erased_by vs cs (put [] [] t) ≡ erased_by vs cs t

  abbrev KeptTy : Type 0
  KeptTy = (t : Ty) × Kept t

  abbrev AnyArg : Type 0
  AnyArg = (a : Arg) × Unit {0}

  types_kept : (zs : List KeptTy) → map (erased_by vs cs) (map (put [] []) (map (λ z. z.0) zs)) ≡ map (erased_by vs cs) (map (λ z. z.0) zs)
  types_kept [] = refl
  types_kept (z ∷ zs) = ap (λ e. e ∷ map (erased_by vs cs) (map (put [] []) (map (λ z. z.0) zs))) z.1 ∙ ap (λ es. erased_by vs cs z.0 ∷ es) (types_kept zs)

  kept_as : (t s : Ty) → t ≡ s → Kept s → Kept t
  kept_as t s e h = subst Kept (sym e) h

  layer_kept : (y : Ty-F AnyArg KeptTy) → Kept (roll-Ty (map-Ty AnyArg KeptTy Arg Ty (λ z. z.0) (λ z. z.0) y))
  layer_kept (Ty-F.Prim p) = kept_as _ _ (rolls-Prim p) (ap (erased_by vs cs) (subst-Prim [] [] p))
  layer_kept (Ty-F.Class i zs) =
      let xs : List Arg = map (λ z. z.0) zs in
      kept_as _ _ (rolls-Class i xs)
      (ap (erased_by vs cs) (subst-Class [] [] i xs) ∙ (by_layer (Class i (map (put_arg [] []) xs)) (Ty-F.Class i (map (put_arg [] []) xs)) (outs-Class i (map (put_arg [] []) xs)) ∙ sym (by_layer (Class i xs) (Ty-F.Class i xs) (outs-Class i xs))))
  layer_kept (Ty-F.Raw i) = kept_as _ _ (rolls-Raw i) (ap (erased_by vs cs) (subst-Raw [] [] i))
  layer_kept (Ty-F.Array z n) =
      kept_as _ _ (rolls-Array z.0 n)
      (ap (erased_by vs cs) (subst-Array [] [] z.0 n) ∙ (over_erased n (put [] [] z.0) ∙ (ap (raised (n + 1)) z.1 ∙ sym (by_layer (Array z.0 n) (Ty-F.Array z.0 n) (outs-Array z.0 n)))))
  layer_kept (Ty-F.Variable v) = kept_as _ _ (rolls-Variable v) (ap (erased_by vs cs) (subst-Variable [] [] v))
  layer_kept (Ty-F.Captured v) = kept_as _ _ (rolls-Captured v) (ap (erased_by vs cs) (subst-Captured [] [] v))
  layer_kept (Ty-F.Meet zs) =
      let ts : List Ty = map (λ z. z.0) zs in
      kept_as _ _ (rolls-Meet ts)
      (ap (erased_by vs cs) (subst-Meet [] [] ts)
      ∙ (by_layer (Meet (map (put [] []) ts)) (Ty-F.Meet (map (put [] []) ts)) (outs-Meet (map (put [] []) ts)) ∙ (ap first_or_object (types_kept zs) ∙ sym (by_layer (Meet ts) (Ty-F.Meet ts) (outs-Meet ts)))))
  layer_kept Ty-F.NullTy = kept_as _ _ rolls-NullTy (ap (erased_by vs cs) (subst-NullTy [] []))

  pub kept : (t : Ty) → Kept t
  kept = ind-Ty (λ a. Unit {0}) Kept (λ x y is. tt) (λ x y is. subst (λ x. Kept (roll-Ty x)) is (layer_kept y))

-- two types of one erasure
same_plain : (T : Table) (s t : Ty) → ((vs : VarId → Erased) (cs : CaptureId → Erased) → erased_by vs cs s ≡ erased_by vs cs t) → plain T s ≡ plain T t
unfolding erasure erased_within
same_plain T s t h = ap (λ e. erased_type T (capped e)) (h _ _)

pub plain_of_settled : (T : Table) (t : Ty) → plain T (put [] [] t) ≡ plain T t
plain_of_settled T t = same_plain T (put [] [] t) t (λ vs cs. kept vs cs t)

pub plain_over : (T : Table) (t : Ty) (n : ℕ) → plain T (array_over n t) ≡ plain T (Array t n)
plain_over T t n = same_plain T (array_over n t) (Array t n) (λ vs cs. over_erased vs cs n t ∙ sym (by_layer vs cs (Array t n) (Ty-F.Array t n) (outs-Array t n)))
