-- Assignment conversion (JLS 5.2) and method invocation conversion (JLS 5.3).
use Rattle.std.specs.Prelude.{◌==◌, ◌&&◌, not, Bool, true, false, ℤ, pos, negsuc, int_le, Option, Some, None, is_some, is_none, List, [], ◌∷◌, if◌then◌else◌}
use Rattle.jc_types.specs.declared.constant.Constant.{Constant}
use Rattle.jc_types.specs.declared.constant.Constant.TheVariants.{Whole, Text}
use Rattle.jc_types.specs.declared.conversion.Step.{Step}
use Rattle.jc_types.specs.declared.conversion.Step.TheVariants.{Widen, Narrow, BoxUp, Unbox, Up}
use Rattle.jc_types.specs.declared.environment.Bounds.{Bounds}
use Rattle.jc_types.specs.declared.form.Primitive.{Primitive}
use Rattle.jc_types.specs.declared.form.Primitive.TheVariants.{Boolean, Byte, Short, Char, Int, Long}
use Rattle.jc_types.specs.declared.form.Ty.{Ty, Ty-F, out-Ty}
use Rattle.jc_types.specs.declared.form.Ty.TheVariants.{Prim, Class}
use Rattle.jc_types.specs.declared.table.Table.{Table}
use Rattle.jc_types.specs.Reifying.{arguments}
use Rattle.jc_types.specs.Sameness.{same, prim_number}
use Rattle.jc_judge.specs.Deciding.{answer_of}
use Rattle.jc_judge.specs.Kinds.{Layer, primitive_below}
use Rattle.jc_boxes.specs.Boxes.{box_of}
use Rattle.jc_lub.specs.Distinct.{is_parameterized}
use Rattle.jc_lub.specs.Uncaptured.{up_view}
use Rattle.jc_convert.specs.declared.answer.Converts.{Converts}
use Rattle.jc_convert.specs.Rows.{Row, row, plain_row, checked, unchecked, first_row}

-- ---- unchecked conversion (JLS 5.1.9)

-- there is a view, and it is raw or counts as raw (JLS 4.8)
abbrev pub is_raw_view : Table → Option Ty → Bool
is_raw_view T None = false
is_raw_view T (Some v) = is_none (arguments T v)

-- the type is parameterized, and S has a view as its class that is raw
abbrev pub unchecked_class : Table → List Bounds → Ty → Layer → Bool
unchecked_class T env s (Ty-F.Class k args) = is_parameterized T k args && is_raw_view T (up_view T env k s)
unchecked_class T env s _ = false

-- the same of the elements of an array, beside those of another one
abbrev pub unchecked_array : Table → List Bounds → Ty → Layer → Bool
unchecked_array T env s (Ty-F.Array t m) = unchecked_class T env s (out-Ty t)
unchecked_array T env s _ = false

-- two arrays of as many dimensions
abbrev pub same_further : Layer → Layer → Bool
same_further (Ty-F.Array s n) (Ty-F.Array t m) = n == m
same_further _ _ = false

abbrev pub unchecked_at : Table → List Bounds → Ty → Layer → Layer → Bool
unchecked_at T env s (Ty-F.Array u n) l = same_further (Ty-F.Array u n) l && unchecked_array T env u l
unchecked_at T env s _ l = unchecked_class T env s l

-- S is raw where T isn't, or has a supertype that is; and the same of the elements of arrays with as many dimensions
unfoldable pub converts_unchecked : Table → List Bounds → Ty → Ty → Bool
converts_unchecked T env s t = unchecked_at T env s (out-Ty s) (out-Ty t)

-- ---- boxes (JLS 5.1.7, 5.1.8)

-- the class of a primitive type
abbrev pub box : Table → Primitive → Ty
box T p = Class (box_of T p) []

-- a step from S up to T, or none where they are one type
abbrev pub up_unless_same : Ty → Ty → List Step
up_unless_same s t = if same s t then [] else Up t ∷ []

-- the class of a primitive type is that of T or of a type above T
abbrev pub unboxes : Table → List Bounds → Ty → Primitive → Bool
unboxes T env t p = not ((box_of T p).0 == 0) && is_some (up_view T env (box_of T p) t)

-- the first of these primitive types whose class is T's or above it
abbrev pub first_unboxed : Table → List Bounds → Ty → List Primitive → Option Primitive
first_unboxed T env t [] = None
first_unboxed T env t (p ∷ ps) = if unboxes T env t p then Some p else first_unboxed T env t ps

-- the primitive type that a type unboxes to
unfoldable pub unboxed : Table → List Bounds → Ty → Option Primitive
unboxed T env t = first_unboxed T env t (Boolean ∷ Byte ∷ Short ∷ Char ∷ Int ∷ Long ∷ [])

-- from the class of p, or from below it, to q
abbrev pub unboxing : Table → Ty → Primitive → Primitive → List Step
unboxing T s p q =
    if same s (box T p) then (if prim_number p == prim_number q then Unbox ∷ [] else Unbox ∷ Widen q ∷ [])
    else (if prim_number p == prim_number q then Up (box T p) ∷ Unbox ∷ [] else Up (box T p) ∷ Unbox ∷ Widen q ∷ [])

-- ---- constants

-- the types whose constants may be narrowed (JLS 5.2)
abbrev pub is_small : Primitive → Bool
is_small Boolean = false
is_small Byte = true
is_small Short = true
is_small Char = true
is_small Int = true
is_small Long = false

-- n is neither less than low nor greater than high
abbrev pub is_within : ℤ → ℤ → ℤ → Bool
is_within low high n = int_le low n && int_le n high

-- a number is a value of byte, short or char
abbrev pub is_value : Primitive → ℤ → Bool
is_value Byte n = is_within (negsuc 127) (pos 127) n
is_value Short n = is_within (negsuc 32767) (pos 32767) n
is_value Char n = is_within (pos 0) (pos 65535) n
is_value _ n = false

-- a constant is there, is a number, and is a value of q
abbrev pub constant_fits : Option Constant → Primitive → Bool
constant_fits None q = false
constant_fits (Some (Whole n of)) q = is_value q n
constant_fits (Some (Text units)) q = false

-- a constant of type byte, short, char or int is a value of q, which is byte, short or char
abbrev pub narrows : Option Constant → Primitive → Primitive → Bool
narrows c p q = is_small p && constant_fits c q

-- .. and T is the class of q
abbrev pub narrows_to_box : Table → Option Constant → Primitive → Ty → Primitive → Bool
narrows_to_box T c p t q = same t (box T q) && narrows c p q

-- ---- the rows

-- identity (5.1.1), widening (5.1.2), and narrowing of a constant (5.2)
abbrev pub primitive_rows : Option Constant → Primitive → Primitive → List Row
primitive_rows c p q =
    plain_row (prim_number p == prim_number q) (checked [])
    ∷ plain_row (primitive_below p q) (checked (Widen q ∷ []))
    ∷ plain_row (narrows c p q) (checked (Narrow q ∷ []))
    ∷ []

-- identity, widening (5.1.5), and unchecked conversion behind it
abbrev pub reference_rows : Table → List Bounds → Ty → Ty → List Row
reference_rows T env s t =
    plain_row (same s t) (checked [])
    ∷ row (answer_of T 64 env s t) (checked (Up t ∷ []))
    ∷ plain_row (converts_unchecked T env s t) (unchecked (Up t ∷ []))
    ∷ []

-- narrowing of a constant, and boxing behind it (5.2)
abbrev pub constant_rows : Table → Option Constant → Primitive → Ty → List Row
constant_rows T c p t =
    plain_row (narrows_to_box T c p t Byte) (checked (Narrow Byte ∷ BoxUp ∷ []))
    ∷ plain_row (narrows_to_box T c p t Short) (checked (Narrow Short ∷ BoxUp ∷ []))
    ∷ plain_row (narrows_to_box T c p t Char) (checked (Narrow Char ∷ BoxUp ∷ []))
    ∷ []

-- boxing, and widening or unchecked conversion behind it; then constants
abbrev pub boxing_rows : Table → List Bounds → Option Constant → Primitive → Ty → List Row
boxing_rows T env c p t =
    row (answer_of T 64 env (box T p) t) (checked (BoxUp ∷ up_unless_same (box T p) t))
    ∷ plain_row (converts_unchecked T env (box T p) t) (unchecked (BoxUp ∷ Up t ∷ []))
    ∷ constant_rows T c p t

-- unboxing, and widening behind it; a variable with a box above it goes up to that first
abbrev pub unboxing_rows : Table → Ty → Option Primitive → Primitive → List Row
unboxing_rows T s None q = []
unboxing_rows T s (Some p) q = plain_row (primitive_below p q) (checked (unboxing T s p q)) ∷ []

-- the rows, by which of S and T are primitive
abbrev pub rows_from_primitive : Table → List Bounds → Option Constant → Primitive → Ty → Layer → List Row
rows_from_primitive T env c p t (Ty-F.Prim q) = primitive_rows c p q
rows_from_primitive T env c p t _ = boxing_rows T env c p t

abbrev pub rows_from_reference : Table → List Bounds → Ty → Ty → Layer → List Row
rows_from_reference T env s t (Ty-F.Prim q) = unboxing_rows T s (unboxed T env s) q
rows_from_reference T env s t _ = reference_rows T env s t

abbrev pub rows_at : Table → List Bounds → Option Constant → Ty → Ty → Layer → Layer → List Row
rows_at T env c s t (Ty-F.Prim p) l = rows_from_primitive T env c p t l
rows_at T env c s t _ l = rows_from_reference T env s t l

-- the rows for a conversion of S to T, where the expression may have a constant value
unfoldable pub rows : Table → List Bounds → Option Constant → Ty → Ty → List Row
rows T env c s t = rows_at T env c s t (out-Ty s) (out-Ty t)

-- assignment conversion, of an expression with this constant value if it has one
abbrev pub assignment : Table → List Bounds → Ty → Option Constant → Ty → Converts
assignment T env s c t = first_row (rows T env c s t)

-- method invocation conversion, which asks for no constant
abbrev pub invocation : Table → List Bounds → Ty → Ty → Converts
invocation T env s t = first_row (rows T env None s t)
