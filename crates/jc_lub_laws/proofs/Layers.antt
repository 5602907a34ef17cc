-- A type and an argument by their outermost layers.
use Rattle.std.proofs.Common.{◌≡◌, ℕ, ◌+◌, List, arith, refl, sym, ap, ◌∙◌}
use Rattle.jc_types.specs.declared.form.Arg.{Arg, Arg-F, out-Arg, roll-Arg, roll-out-Arg}
use Rattle.jc_types.specs.declared.form.Arg.TheVariants.{Exact, Any, Extends, Super, outs-Exact, outs-Extends, outs-Super, rolls-Exact, rolls-Any, rolls-Extends, rolls-Super}
use Rattle.jc_types.specs.declared.form.Primitive as kind
use Rattle.jc_types.specs.declared.form.Ty.{Ty, Ty-F, out-Ty, roll-Ty, roll-out-Ty}
use Rattle.jc_types.specs.declared.form.Ty.TheVariants.{Prim, Class, Raw, Array, Variable, Captured, Meet, NullTy, outs-Class, outs-Array, outs-Meet, rolls-Prim, rolls-Class, rolls-Raw, rolls-Array, rolls-Variable, rolls-Meet, rolls-NullTy}
use Rattle.jc_types.specs.declared.ids.ClassId.{ClassId}
use Rattle.jc_types.specs.declared.ids.VarId.{VarId}
use Rattle.jc_types.specs.Arrays.{array_over, array_over_at}
use Rattle.jc_judge.specs.Kinds.{Layer}

rolled : (t : Ty) (l : Layer) → out-Ty t ≡ l → t ≡ roll-Ty l
rolled t l e = sym (roll-out-Ty t) ∙ ap roll-Ty e

pub as_prim : (t : Ty) (p : kind.Primitive) → out-Ty t ≡ Ty-F.Prim p → t ≡ Prim p
as_prim t p e = rolled t (Ty-F.Prim p) e ∙ rolls-Prim p

pub as_class_type : (t : Ty) (i : ClassId) (xs : List Arg) → out-Ty t ≡ Ty-F.Class i xs → t ≡ Class i xs
as_class_type t i xs e = rolled t (Ty-F.Class i xs) e ∙ rolls-Class i xs

pub as_raw_type : (t : Ty) (i : ClassId) → out-Ty t ≡ Ty-F.Raw i → t ≡ Raw i
as_raw_type t i e = rolled t (Ty-F.Raw i) e ∙ rolls-Raw i

pub as_array : (t u : Ty) (n : ℕ) → out-Ty t ≡ Ty-F.Array u n → t ≡ Array u n
as_array t u n e = rolled t (Ty-F.Array u n) e ∙ rolls-Array u n

pub as_variable : (t : Ty) (v : VarId) → out-Ty t ≡ Ty-F.Variable v → t ≡ Variable v
as_variable t v e = rolled t (Ty-F.Variable v) e ∙ rolls-Variable v

pub as_meet : (t : Ty) (ts : List Ty) → out-Ty t ≡ Ty-F.Meet ts → t ≡ Meet ts
as_meet t ts e = rolled t (Ty-F.Meet ts) e ∙ rolls-Meet ts

pub as_null : (t : Ty) → out-Ty t ≡ Ty-F.NullTy → t ≡ NullTy
as_null t e = rolled t Ty-F.NullTy e ∙ rolls-NullTy

arg_rolled : (a : Arg) (l : Arg-F Arg Ty) → out-Arg a ≡ l → a ≡ roll-Arg l
arg_rolled a l e = sym (roll-out-Arg a) ∙ ap roll-Arg e

pub as_exact : (a : Arg) (t : Ty) → out-Arg a ≡ Arg-F.Exact t → a ≡ Exact t
as_exact a t e = arg_rolled a (Arg-F.Exact t) e ∙ rolls-Exact t

pub as_any : (a : Arg) → out-Arg a ≡ Arg-F.Any → a ≡ Any
as_any a e = arg_rolled a Arg-F.Any e ∙ rolls-Any

pub as_extends : (a : Arg) (t : Ty) → out-Arg a ≡ Arg-F.Extends t → a ≡ Extends t
as_extends a t e = arg_rolled a (Arg-F.Extends t) e ∙ rolls-Extends t

pub as_super : (a : Arg) (t : Ty) → out-Arg a ≡ Arg-F.Super t → a ≡ Super t
as_super a t e = arg_rolled a (Arg-F.Super t) e ∙ rolls-Super t

-- what is made alike has like parts
pub class_parts : (i j : ClassId) (xs ys : List Arg) → Class i xs ≡ Class j ys → (i ≡ j) × (xs ≡ ys)
class_parts i j xs ys e =
    let o : Ty-F.Class i xs ≡ Ty-F.Class j ys = sym (outs-Class i xs) ∙ ap out-Ty e ∙ outs-Class j ys in
    ((let s : i ≡ j = cc in s), (let s : xs ≡ ys = cc in s))

pub meet_parts : (ts us : List Ty) → Meet ts ≡ Meet us → ts ≡ us
meet_parts ts us e = let o : Ty-F.Meet ts ≡ Ty-F.Meet us = sym (outs-Meet ts) ∙ ap out-Ty e ∙ outs-Meet us in cc

pub exact_parts : (t u : Ty) → Exact t ≡ Exact u → t ≡ u
exact_parts t u e = let o : Arg-F.Exact t ≡ Arg-F.Exact u = sym (outs-Exact t) ∙ ap out-Arg e ∙ outs-Exact u in cc

pub extends_parts : (t u : Ty) → Extends t ≡ Extends u → t ≡ u
extends_parts t u e = let o : Arg-F.Extends t ≡ Arg-F.Extends u = sym (outs-Extends t) ∙ ap out-Arg e ∙ outs-Extends u in cc

pub super_parts : (t u : Ty) → Super t ≡ Super u → t ≡ u
super_parts t u e = let o : Arg-F.Super t ≡ Arg-F.Super u = sym (outs-Super t) ∙ ap out-Arg e ∙ outs-Super u in cc

pub array_parts : (t u : Ty) (m n : ℕ) → Array t m ≡ Array u n → (t ≡ u) × (m ≡ n)
array_parts t u m n e =
    let o : Ty-F.Array t m ≡ Ty-F.Array u n = sym (outs-Array t m) ∙ ap out-Ty e ∙ outs-Array u n in
    ((let s : t ≡ u = cc in s), (let s : m ≡ n = cc in s))

-- an array type over a type: over another array, or as it stands
pub data Dimensions (n : ℕ) (t : Ty) : Type 0 where
  on_array : (u : Ty) (m : ℕ) → t ≡ Array u m → array_over n t ≡ Array u (m + n + 1) → Dimensions n t
  on_other : array_over n t ≡ Array t n → Dimensions n t

dimensions_at : (n : ℕ) (t : Ty) (l : Layer) → out-Ty t ≡ l → array_over n t ≡ array_over_at n t l → Dimensions n t
dimensions_at n t (Ty-F.Array u m) e f = on_array u m (as_array t u m e) f
dimensions_at n t (Ty-F.Prim p) e f = on_other f
dimensions_at n t (Ty-F.Class i xs) e f = on_other f
dimensions_at n t (Ty-F.Raw i) e f = on_other f
dimensions_at n t (Ty-F.Variable v) e f = on_other f
dimensions_at n t (Ty-F.Captured v) e f = on_other f
dimensions_at n t (Ty-F.Meet ts) e f = on_other f
dimensions_at n t Ty-F.NullTy e f = on_other f

pub dimensions : (n : ℕ) (t : Ty) → Dimensions n t
unfolding array_over
dimensions n t = dimensions_at n t (out-Ty t) refl refl

pub array_of_array : (n m : ℕ) (u : Ty) → array_over n (Array u m) ≡ Array u (m + n + 1)
unfolding array_over
array_of_array n m u = ap (array_over_at n (Array u m)) (outs-Array u m)

-- dimensions over dimensions
pub array_twice : (n m : ℕ) (t : Ty) → array_over n (array_over m t) ≡ array_over (m + n + 1) t
array_twice n m t = by_kind (dimensions m t) (dimensions (m + n + 1) t)
  where
    by_kind : Dimensions m t → Dimensions (m + n + 1) t → array_over n (array_over m t) ≡ array_over (m + n + 1) t
    by_kind (on_array u k e f) (on_array w j g h) =
        let same : (u ≡ w) × (k ≡ j) = array_parts u w k j (sym e ∙ g) in
        let sums : (k + m + 1) + n + 1 ≡ j + (m + n + 1) + 1 = omega (arith, same.1) in
        ap (array_over n) f ∙ array_of_array n (k + m + 1) u ∙ ap (λ (d : ℕ). Array u d) sums ∙ ap (λ (x : Ty). Array x (j + (m + n + 1) + 1)) same.0 ∙ sym h
    by_kind (on_array u k e f) (on_other h) =
        let over : array_over (m + n + 1) t ≡ Array u (k + (m + n + 1) + 1) = ap (array_over (m + n + 1)) e ∙ array_of_array (m + n + 1) k u in
        let sums : (k + m + 1) + n + 1 ≡ k + (m + n + 1) + 1 = omega arith in
        ap (array_over n) f ∙ array_of_array n (k + m + 1) u ∙ ap (λ (d : ℕ). Array u d) sums ∙ sym over
    by_kind (on_other f) (on_array w j g h) =
        let over : array_over m t ≡ Array w (j + m + 1) = ap (array_over m) g ∙ array_of_array m j w in
        let sums : (j + m + 1) + n + 1 ≡ j + (m + n + 1) + 1 = omega arith in
        ap (array_over n) over ∙ array_of_array n (j + m + 1) w ∙ ap (λ (d : ℕ). Array w d) sums ∙ sym h
    by_kind (on_other f) (on_other h) = ap (array_over n) f ∙ array_of_array n m t ∙ sym h

pub array_over_same : (n : ℕ) (t u : Ty) → array_over n t ≡ array_over n u → t ≡ u
array_over_same n t u e = by_kind (dimensions n t) (dimensions n u)
  where
    by_kind : Dimensions n t → Dimensions n u → t ≡ u
    by_kind (on_array a k s f) (on_array b j g h) =
        let same : (a ≡ b) × (k + n + 1 ≡ j + n + 1) = array_parts a b (k + n + 1) (j + n + 1) (sym f ∙ e ∙ h) in
        let dims : k ≡ j = omega (arith, same.1) in
        s ∙ ap (λ (x : Ty). Array x k) same.0 ∙ ap (λ (d : ℕ). Array b d) dims ∙ sym g
    by_kind (on_array a k s f) (on_other h) =
        let same : (a ≡ u) × (k + n + 1 ≡ n) = array_parts a u (k + n + 1) n (sym f ∙ e ∙ h) in
        absurd (omega (arith, same.1))
    by_kind (on_other f) (on_array b j g h) =
        let same : (t ≡ b) × (n ≡ j + n + 1) = array_parts t b n (j + n + 1) (sym f ∙ e ∙ h) in
        absurd (omega (arith, same.1))
    by_kind (on_other f) (on_other h) = (array_parts t u n n (sym f ∙ e ∙ h)).0
