-- Array types (JLS 10.1): an array type of n + 1 dimensions over a type that is no array.
use Rattle.std.specs.Prelude.{ℕ, zero, suc, ◌+◌, Option, Some, None}
use Rattle.jc_types.specs.declared.form.Ty.{Ty, Ty-F, out-Ty}
use Rattle.jc_types.specs.declared.form.Ty.TheVariants.{Array}
use Rattle.jc_types.specs.declared.form.Arg.{Arg}

-- the type is given twice, as it is and opened by one level; its own dimensions, m + 1, are added to the n + 1
abbrev pub array_over_at : ℕ → Ty → Ty-F Arg Ty → Ty
array_over_at n t (Ty-F.Array u m) = Array u (m + n + 1)
array_over_at n t _ = Array t n

-- the array type of n + 1 dimensions over a type, whose own dimensions are counted with them
unfoldable pub array_over : ℕ → Ty → Ty
array_over n t = array_over_at n t (out-Ty t)

-- the array type of n dimensions over a type, which is that type itself where n is 0
abbrev pub lowered : Ty → ℕ → Ty
lowered t zero = t
lowered t (suc n) = Array t n

-- None for what is no array
abbrev pub element_at : Ty-F Arg Ty → Option Ty
element_at (Ty-F.Array t n) = Some (lowered t n)
element_at _ = None

-- the type of an array type's elements, which has one dimension less
unfoldable pub element : Ty → Option Ty
element t = element_at (out-Ty t)
