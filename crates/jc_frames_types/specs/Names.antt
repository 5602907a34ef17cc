-- Names of classes and arrays as verification types, and which of them may stand for which (JVMS 4.10.1.2).
use Rattle.std.specs.Prelude.{ℕ, zero, suc, ◌+◌, ◌-◌, ◌/◌, ◌%◌, ◌==◌, Bool, true, false, not, ◌&&◌, ◌||◌, List, [], ◌∷◌, ◌++◌, length, take, slice_get, codes, option_and_then, if◌then◌else◌}
use Rattle.std.specs.Str.{bytes_eq}
use Rattle.std.specs.declared.option.Option.{Option}
use Rattle.std.specs.declared.option.Option.TheVariants.{Some, None}
use Rattle.jc_class_out.specs.declared.model.ClassModel.{ClassModel}
use Rattle.jc_jvm.specs.Classes.{class_named}

-- ---- classes by their names

-- the first class of that name
abbrev pub class_by_name : List ClassModel → List ℕ → Option ClassModel
class_by_name classes name = option_and_then (slice_get classes) (class_named classes name)

abbrev pub superclass_in : Option ClassModel → Option (List ℕ)
superclass_in (Some c) = c.superclass
superclass_in None = None

-- the name of the superclass; a class that isn't there has none
abbrev pub superclass_named : List ClassModel → List ℕ → Option (List ℕ)
superclass_named classes name = superclass_in (class_by_name classes name)

-- ACC_INTERFACE, 0x0200 (JVMS 4.1)
abbrev pub is_interface : Option ClassModel → Bool
is_interface (Some c) = c.flags / 0x200 % 2 == 1
is_interface None = false

-- the name is `to`, or that of a superclass is, over at most so many steps (4.10.1.1, superclassChain)
unfoldable pub is_in_line : List ClassModel → ℕ → List ℕ → List ℕ → Bool
is_in_line classes zero to name = bytes_eq name to
is_in_line classes (suc n) to name = bytes_eq name to || elim (superclass_named classes name) [ Some above ↦ is_in_line classes n to above | None ↦ false ]

abbrev pub is_object : List ℕ → Bool
is_object name = bytes_eq name (codes "java/lang/Object")

-- isJavaAssignable, from a class to a class: every class goes where an interface is wanted, as where Object is (4.10.1.2). No class is
-- among its own superclasses, so there are no more steps than classes.
unfoldable pub is_class_below : List ClassModel → List ℕ → List ℕ → Bool
is_class_below classes from to = is_object to || (is_interface (class_by_name classes to) || is_in_line classes (length classes) to from)

-- ---- arrays

-- a name means an array type where it is a descriptor that begins with `[` (4.4.1)
abbrev pub is_array_name : List ℕ → Bool
is_array_name [] = false
is_array_name (u ∷ us) = u == 91

-- the classes that an array is below: Object, and what isArrayInterface names (4.10.1.2)
abbrev pub is_above_arrays : List ℕ → Bool
is_above_arrays to = is_object to || (bytes_eq to (codes "java/lang/Cloneable") || bytes_eq to (codes "java/io/Serializable"))

-- the class name behind the `L` of a descriptor
abbrev pub class_in : List ℕ → List ℕ
class_in us = take (length us - 1) us

-- isJavaAssignable, from a type to a type, by their descriptors: of two arrays the elements decide, and primitive elements have to be the same
unfoldable pub is_type_below : List ClassModel → List ℕ → List ℕ → Bool
is_type_below classes [] to = false
is_type_below classes (f ∷ fs) [] = false
is_type_below classes (f ∷ fs) (t ∷ ts) =
    if f == 91 then (if t == 91 then is_type_below classes fs ts else t == 76 && is_above_arrays (class_in ts)) else
    if f == 76 && t == 76 then is_class_below classes (class_in fs) (class_in ts) else f == t

-- from a name to a name; a class goes nowhere where an array is wanted
unfoldable pub is_name_below : List ClassModel → List ℕ → List ℕ → Bool
is_name_below classes from to =
    bytes_eq from to || (
    if is_array_name from then (if is_array_name to then is_type_below classes from to else is_above_arrays to) else
    not (is_array_name to) && is_class_below classes from to)

-- how many dimensions a name has, 0 where it is a class (4.10.1.9, classDimension)
unfoldable pub dims_of : List ℕ → ℕ
dims_of [] = 0
dims_of (u ∷ us) = if u == 91 then dims_of us + 1 else 0

-- the array type whose elements are of the class or array type of this name
abbrev pub array_of : List ℕ → List ℕ
array_of name = if is_array_name name then 91 ∷ name else 91 ∷ 76 ∷ name ++ 59 ∷ []
