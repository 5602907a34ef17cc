-- Kinds of types, and subtyping among primitive types.
use Rattle.std.specs.Prelude.{Bool, true, false, ◌==◌, ◌||◌, Option, Some, None}
use Rattle.jc_types.specs.declared.form.Ty.{Ty, Ty-F, out-Ty}
use Rattle.jc_types.specs.declared.form.Arg.{Arg, Arg-F}
use Rattle.jc_types.specs.declared.form.Primitive.{Primitive}
use Rattle.jc_types.specs.declared.form.Primitive.TheVariants.{Boolean, Byte, Short, Char, Int, Long}
use Rattle.jc_types.specs.declared.ids.ClassId.{ClassId}

-- a type and an argument, opened by one level
abbrev pub Layer : Type 0
Layer = Ty-F Arg Ty

abbrev pub ArgLayer : Type 0
ArgLayer = Arg-F Arg Ty

-- each definition in `_at` asks a type that is opened by one level
abbrev pub is_primitive_at : Layer → Bool
is_primitive_at (Ty-F.Prim p) = true
is_primitive_at _ = false

-- every type that is not primitive is a reference (JLS 4.1)
unfoldable pub is_primitive : Ty → Bool
is_primitive t = is_primitive_at (out-Ty t)

abbrev pub is_null_at : Layer → Bool
is_null_at Ty-F.NullTy = true
is_null_at _ = false

-- the type of `null` (JLS 4.1)
unfoldable pub is_null : Ty → Bool
is_null t = is_null_at (out-Ty t)

-- the class java.lang.Object, raw or with whatever arguments
abbrev pub is_object_at : Layer → Bool
is_object_at (Ty-F.Class id args) = id.0 == 0
is_object_at (Ty-F.Raw id) = id.0 == 0
is_object_at _ = false

-- java.lang.Object is the first class of a table
unfoldable pub is_object : Ty → Bool
is_object t = is_object_at (out-Ty t)

-- the class of a class or raw type, and None for every other type
abbrev pub class_at : Layer → Option ClassId
class_at (Ty-F.Class id args) = Some id
class_at (Ty-F.Raw id) = Some id
class_at _ = None

-- the class of a class or raw type
unfoldable pub class_of : Ty → Option ClassId
class_of t = class_at (out-Ty t)

-- this primitive type alone: boolean, then char, then long
abbrev pub is_boolean : Primitive → Bool
is_boolean Boolean = true
is_boolean _ = false

abbrev pub is_char : Primitive → Bool
is_char Char = true
is_char _ = false

abbrev pub is_long : Primitive → Bool
is_long Long = true
is_long _ = false

-- int or a type above it; the next two ask the same of short and of byte, which char is not above (JLS 4.10.1)
abbrev pub is_int_or_long : Primitive → Bool
is_int_or_long Int = true
is_int_or_long Long = true
is_int_or_long _ = false

abbrev pub is_short_or_wider : Primitive → Bool
is_short_or_wider Short = true
is_short_or_wider p = is_int_or_long p

abbrev pub is_byte_or_wider : Primitive → Bool
is_byte_or_wider Byte = true
is_byte_or_wider p = is_short_or_wider p

-- byte, short, int and long are each below the next, and char is below int (JLS 4.10.1)
abbrev pub primitive_below : Primitive → Primitive → Bool
primitive_below Boolean q = is_boolean q
primitive_below Byte q = is_byte_or_wider q
primitive_below Short q = is_short_or_wider q
primitive_below Char q = is_char q || is_int_or_long q
primitive_below Int q = is_int_or_long q
primitive_below Long q = is_long q

-- only a primitive type is above a primitive type
abbrev pub below_primitive_at : Primitive → Layer → Bool
below_primitive_at p (Ty-F.Prim q) = primitive_below p q
below_primitive_at p _ = false

-- only a primitive type is below a primitive type
abbrev pub primitives_at : Layer → Layer → Bool
primitives_at (Ty-F.Prim p) l = below_primitive_at p l
primitives_at _ l = false

-- two primitive types, the first below the second
unfoldable pub primitives_below : Ty → Ty → Bool
primitives_below s t = primitives_at (out-Ty s) (out-Ty t)
