-- A number above those of all type variables that types name.
use Rattle.std.specs.Prelude.{ℕ, ◌+◌, max, List, [], ◌∷◌, Option, Some, None}
use Rattle.jc_types.specs.declared.form.Ty.{Ty, Ty-F, fold-Ty}
use Rattle.jc_types.specs.declared.form.Arg.{Arg, Arg-F, fold-Arg}

-- the greatest of these numbers; 0 where there are none
abbrev pub greatest : List ℕ → ℕ
greatest [] = 0
greatest (n ∷ ns) = max n (greatest ns)

-- of an argument, and of a type, where that of its parts is known
abbrev pub arg_above : Arg-F ℕ ℕ → ℕ
arg_above (Arg-F.Exact n) = n
arg_above Arg-F.Any = 0
arg_above (Arg-F.Extends n) = n
arg_above (Arg-F.Super n) = n

abbrev pub type_above : Ty-F ℕ ℕ → ℕ
type_above (Ty-F.Variable v) = v.0 + 1
type_above (Ty-F.Class id ns) = greatest ns
type_above (Ty-F.Array n dims) = n
type_above (Ty-F.Meet ns) = greatest ns
type_above _ = 0

-- the least number above those of all variables that a type names at any depth; bounds of captured variables aren't looked into
unfoldable pub above : Ty → ℕ
above t = fold-Ty ℕ ℕ arg_above type_above t

unfoldable pub above_in_arg : Arg → ℕ
above_in_arg a = fold-Arg ℕ ℕ arg_above type_above a

-- .. of these types
abbrev pub above_all : List Ty → ℕ
above_all [] = 0
above_all (t ∷ ts) = max (above t) (above_all ts)

-- .. of a target, if there is one
abbrev pub above_target : Option Ty → ℕ
above_target None = 0
above_target (Some t) = above t
