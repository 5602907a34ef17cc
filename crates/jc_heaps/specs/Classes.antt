-- Classes and erased types at run time.
use Rattle.std.specs.Prelude.{ℕ, zero, suc, ◌+◌, ◌-◌, ◌==◌, nat_lt, Bool, true, false, ◌&&◌, ◌||◌, not, List, [], ◌∷◌, Option, Some, None, if◌then◌else◌}
use Rattle.jc_types.specs.declared.form.Ty.{Ty, Ty-F, out-Ty}
use Rattle.jc_types.specs.declared.form.Arg.{Arg}
use Rattle.jc_types.specs.declared.form.Primitive.{Primitive}
use Rattle.jc_types.specs.declared.form.Primitive.TheVariants.{Boolean, Byte, Short, Char, Int, Long}
use Rattle.jc_types.specs.declared.ids.ClassId.{ClassId}
use Rattle.jc_types.specs.declared.erased.Erased.{Erased}
use Rattle.jc_types.specs.declared.erased.Base.{Base}
use Rattle.jc_types.specs.declared.erased.Base.TheVariants as base
use Rattle.jc_types.specs.declared.table.Table.{Table}
use Rattle.jc_types.specs.Accessors.{class_count, supers_of}

-- `java.lang.Object` is the first class of a table
abbrev pub object_class : ClassId
object_class = record { 0 = 0 }

-- by the outermost layer of a type
abbrev pub class_at : Ty-F Arg Ty → Option ClassId
class_at (Ty-F.Class id args) = Some id
class_at (Ty-F.Raw id) = Some id
class_at _ = None

-- the class of a class type, with arguments or raw
abbrev pub class_of : Ty → Option ClassId
class_of t = class_at (out-Ty t)

-- the class of the first of the types; None where it is no class type, or there is none
abbrev pub first_class : List Ty → Option ClassId
first_class [] = None
first_class (t ∷ ts) = class_of t

-- the superclass; an interface has Object, which has none (JLS 8.1.4, 9.2)
abbrev pub superclass_of : Table → ClassId → Option ClassId
superclass_of T k = first_class (supers_of T k)

-- whether a class or one of some types meets a test; what is no class doesn't
abbrev pub in_class : (ClassId → Bool) → Option ClassId → Bool
in_class f None = false
in_class f (Some k) = f k

abbrev pub any_of : (ClassId → Bool) → List Ty → Bool
any_of f [] = false
any_of f (t ∷ ts) = in_class f (class_of t) || any_of f ts

-- k is c, or c is above k by at most n steps (JLS 8.1.4, 8.1.5, 9.1.3)
unfoldable pub is_within : Table → ℕ → ClassId → ClassId → Bool
is_within T zero c k = false
is_within T (suc n) c k = (k.0 == c.0) || any_of (is_within T n c) (supers_of T k)

-- k is c or a subclass of it, interfaces counted; where no class is above itself these are steps enough
unfoldable pub is_subclass : Table → ClassId → ClassId → Bool
is_subclass T k c = is_within T (class_count T + 1) c k

-- whether it is Object, by its number in the table
abbrev pub is_object_base : Base → Bool
is_object_base (base.Class k) = k.0 == 0
is_object_base _ = false

-- equality of primitive types
abbrev pub same_primitive : Primitive → Primitive → Bool
same_primitive Boolean Boolean = true
same_primitive Byte Byte = true
same_primitive Short Short = true
same_primitive Char Char = true
same_primitive Int Int = true
same_primitive Long Long = true
same_primitive _ _ = false

-- without dimensions: a primitive type is of itself alone, a class of those above it, and the null type of nothing
abbrev pub is_base_of : Table → Base → Base → Bool
is_base_of T (base.Prim p) (base.Prim q) = same_primitive p q
is_base_of T (base.Class k) (base.Class c) = is_subclass T k c
is_base_of T _ _ = false

-- equality of bases, and of erased types
abbrev pub same_base : Base → Base → Bool
same_base (base.Prim p) (base.Prim q) = same_primitive p q
same_base (base.Class k) (base.Class c) = k.0 == c.0
same_base base.NullTy base.NullTy = true
same_base _ _ = false

abbrev pub same_erased : Erased → Erased → Bool
same_erased e f = (e.dims == f.dims) && same_base e.base f.base

-- whether an object of the one erased type is of the other (JLS 4.10.3, 15.20.2): a class is of its superclasses, an array is an
-- Object, an array of references is an array of what its elements are of
abbrev pub is_of : Table → Erased → Erased → Bool
is_of T e f =
    if nat_lt f.dims e.dims then is_object_base f.base else
    (e.dims == f.dims) && is_base_of T e.base f.base

-- an array's element type, and an array type of elements
abbrev pub element_of : Erased → Erased
element_of e = record e { dims = e.dims - 1 }

abbrev pub array_of : Erased → Erased
array_of e = record e { dims = e.dims + 1 }

abbrev pub is_array : Erased → Bool
is_array e = not (e.dims == 0)

-- the class whose methods an object has: an array has those of Object (JLS 10.7)
abbrev pub class_in : Base → ClassId
class_in (base.Class k) = k
class_in _ = object_class

abbrev pub methods_class : Erased → ClassId
methods_class e = if is_array e then object_class else class_in e.base
