-- The size of a type.
use Rattle.std.specs.Prelude.{ℕ, ◌+◌, ◌-◌, ◌^◌, min, sum}
use Rattle.jc_types.specs.declared.form.Ty.{Ty, Ty-F, fold-Ty}
use Rattle.jc_types.specs.declared.form.Arg.{Arg, Arg-F, fold-Arg}

-- an argument that is a type counts as that type, a wildcard one more than its bound, and `?` one
abbrev pub count_arg_step : Arg-F ℕ ℕ → ℕ
count_arg_step (Arg-F.Exact n) = n
count_arg_step Arg-F.Any = 1
count_arg_step (Arg-F.Extends n) = n + 1
count_arg_step (Arg-F.Super n) = n + 1

-- a type counts one, an array one for each of its dimensions, and what the arguments or the parts count is added
abbrev pub count_step : Ty-F ℕ ℕ → ℕ
count_step (Ty-F.Class id args) = sum args + 1
count_step (Ty-F.Array n d) = n + d + 1
count_step (Ty-F.Meet parts) = sum parts + 1
count_step _ = 1

-- how many types and wildcards a type consists of, itself included, where each dimension of an array counts
unfoldable pub count_of : Ty → ℕ
count_of t = fold-Ty ℕ ℕ count_arg_step count_step t

-- the same of an argument
unfoldable pub arg_count_of : Arg → ℕ
arg_count_of a = fold-Arg ℕ ℕ count_arg_step count_step a

-- a count that stays at the greatest u32
abbrev pub capped : ℕ → ℕ
capped n = min n (2 ^ 32 - 1)
