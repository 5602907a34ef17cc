-- A test of whether two types are the same, for definitions that compute.
use Rattle.std.specs.Prelude.{ℕ, ◌==◌, ◌&&◌, Bool, true, false, List, [], ◌∷◌}
use Rattle.jc_types.specs.declared.form.Ty.{Ty, Ty-F, out-Ty, fold-Ty}
use Rattle.jc_types.specs.declared.form.Arg.{Arg, Arg-F, out-Arg, fold-Arg}
use Rattle.jc_types.specs.declared.form.Primitive.{Primitive}
use Rattle.jc_types.specs.declared.form.Primitive.TheVariants.{Boolean, Byte, Short, Char, Int, Long}

-- a number for each primitive type, no two of them alike, by which they are compared
abbrev pub prim_number : Primitive → ℕ
prim_number Boolean = 0
prim_number Byte = 1
prim_number Short = 2
prim_number Char = 3
prim_number Int = 4
prim_number Long = 5

-- each test passes its element, and there are as many
abbrev pub all_pass : {X : Type 0} → List (X → Bool) → List X → Bool
all_pass [] [] = true
all_pass [] (x ∷ xs) = false
all_pass (f ∷ fs) [] = false
all_pass (f ∷ fs) (x ∷ xs) = f x && all_pass fs xs

-- a layer of a test and one of an argument, or of a type: of one form, with the same ids and dimensions, each part passes its test
abbrev pub arg_passes : Arg-F (Arg → Bool) (Ty → Bool) → Arg-F Arg Ty → Bool
arg_passes (Arg-F.Exact f) (Arg-F.Exact t) = f t
arg_passes Arg-F.Any Arg-F.Any = true
arg_passes (Arg-F.Extends f) (Arg-F.Extends t) = f t
arg_passes (Arg-F.Super f) (Arg-F.Super t) = f t
arg_passes _ _ = false

abbrev pub type_passes : Ty-F (Arg → Bool) (Ty → Bool) → Ty-F Arg Ty → Bool
type_passes (Ty-F.Prim p) (Ty-F.Prim q) = prim_number p == prim_number q
type_passes (Ty-F.Class i fs) (Ty-F.Class j xs) = (i.0 == j.0) && all_pass fs xs
type_passes (Ty-F.Raw i) (Ty-F.Raw j) = i.0 == j.0
type_passes (Ty-F.Array f n) (Ty-F.Array t m) = (n == m) && f t
type_passes (Ty-F.Variable v) (Ty-F.Variable w) = v.0 == w.0
type_passes (Ty-F.Captured v) (Ty-F.Captured w) = v.0 == w.0
type_passes (Ty-F.Meet fs) (Ty-F.Meet xs) = all_pass fs xs
type_passes Ty-F.NullTy Ty-F.NullTy = true
type_passes _ _ = false

-- two types, or two arguments, of one form, with the same ids and dimensions, and the same parts in the same order
unfoldable pub same : Ty → Ty → Bool
same t = fold-Ty (Arg → Bool) (Ty → Bool) (λ l a. arg_passes l (out-Arg a)) (λ l u. type_passes l (out-Ty u)) t

unfoldable pub same_arg : Arg → Arg → Bool
same_arg a = fold-Arg (Arg → Bool) (Ty → Bool) (λ l a. arg_passes l (out-Arg a)) (λ l u. type_passes l (out-Ty u)) a
