-- Classes, their members and their code, by name and by number. A name means the first class of that name.
use Rattle.std.specs.Prelude.{ℕ, zero, suc, ◌+◌, ◌==◌, Bool, false, not, ◌&&◌, ◌||◌, List, [], ◌∷◌, ◌++◌, map, filter, position, reverse, length, slice_get, option_and_then, bit_and, codes, if◌then◌else◌}
use Rattle.std.specs.List.{list_any, filter_map, flat_map}
use Rattle.std.specs.Option.{option_map}
use Rattle.std.specs.Str.{bytes_eq}
use Rattle.std.specs.declared.option.Option.{Option}
use Rattle.std.specs.declared.option.Option.TheVariants.{Some, None}
use Rattle.jc_class_out.specs.declared.model.ClassModel.{ClassModel}
use Rattle.jc_class_out.specs.declared.model.CodeModel.{CodeModel}
use Rattle.jc_class_out.specs.declared.model.FieldModel.{FieldModel}
use Rattle.jc_class_out.specs.declared.model.Ins.{Ins}
use Rattle.jc_class_out.specs.declared.model.MethodModel.{MethodModel}
use Rattle.jc_class_out.specs.Instructions.{ins_size}

-- ---- classes

-- the number of the first class of this name; a class's number is its place in the list, from 0
abbrev pub class_named : List ClassModel → List ℕ → Option ℕ
class_named classes name = position (λ c. bytes_eq c.name name) classes

-- a number that is no class has the empty name
abbrev pub name_of : List ClassModel → ℕ → List ℕ
name_of classes k = elim (slice_get classes k) [ Some c ↦ c.name | None ↦ [] ]

-- the superclass, where the classes have it
abbrev pub super_of : List ClassModel → ℕ → Option ℕ
super_of classes k = option_and_then (λ c. option_and_then (class_named classes) c.superclass) (slice_get classes k)

-- the direct superinterfaces, where the classes have them
abbrev pub interfaces_of : List ClassModel → ℕ → List ℕ
interfaces_of classes k = elim (slice_get classes k) [ Some c ↦ filter_map (class_named classes) c.interfaces | None ↦ [] ]

-- a flag of a class, a field or a method (JVMS 4.1, 4.5, 4.6), by its value
abbrev pub has_flag : ℕ → ℕ → Bool
has_flag flag flags = not (bit_and flags flag == 0)

-- a number that is no class has no flags
abbrev pub class_has_flag : List ClassModel → ℕ → ℕ → Bool
class_has_flag classes flag k = elim (slice_get classes k) [ Some c ↦ has_flag flag c.flags | None ↦ false ]

-- a class with its superclasses, itself first; at most so many
unfoldable pub line_on : List ClassModel → ℕ → Option ℕ → List ℕ
line_on classes n None = []
line_on classes zero (Some k) = []
line_on classes (suc n) (Some k) = k ∷ line_on classes n (super_of classes k)

-- No class is among its own supertypes, so no line is longer than there are classes.
abbrev pub line_of : List ClassModel → ℕ → List ℕ
line_of classes k = line_on classes (length classes) (Some k)

-- the first if it is there, and the second otherwise; then what is there as a list
abbrev pub or_else : {A : Type 0} → Option A → Option A → Option A
or_else (Some x) y = Some x
or_else None y = y

abbrev pub listed : {A : Type 0} → Option A → List A
listed (Some x) = x ∷ []
listed None = []

-- a class or interface is another one or has it among its supertypes, over at most so many steps
unfoldable pub below_on : List ClassModel → ℕ → ℕ → ℕ → Bool
below_on classes zero wanted k = false
below_on classes (suc n) wanted k = (k == wanted) || list_any (below_on classes n wanted) (listed (super_of classes k) ++ interfaces_of classes k)

-- the same over as many steps as there are classes, which is enough
abbrev pub is_class_below : List ClassModel → ℕ → ℕ → Bool
is_class_below classes k wanted = below_on classes (length classes) wanted k

-- ---- fields

-- a field by its name and its descriptor, both of which have to agree
abbrev pub is_field : List ℕ → List ℕ → FieldModel → Bool
is_field name descriptor f = bytes_eq f.name name && bytes_eq f.descriptor descriptor

-- ACC_STATIC (JVMS 4.5)
abbrev pub is_static_field : FieldModel → Bool
is_static_field f = has_flag 0x0008 f.flags

-- the fields that a class declares, static or not, in the order of the class file
abbrev pub fields_of : List ClassModel → ℕ → List FieldModel
fields_of classes k = elim (slice_get classes k) [ Some c ↦ c.fields | None ↦ [] ]

-- the first class for which there is something
abbrev pub first_some : {A : Type 0} → (ℕ → Option A) → List ℕ → Option A
first_some f [] = None
first_some f (k ∷ ks) = or_else (f k) (first_some f ks)

-- The class that declares a field and the field's number there (JVMS 5.4.3.2): the class itself, then its superinterfaces, then its
-- superclass; over at most so many steps.
unfoldable pub field_on : List ClassModel → List ℕ → List ℕ → ℕ → ℕ → Option (ℕ × ℕ)
field_on classes name descriptor zero k = None
field_on classes name descriptor (suc n) k =
    or_else (option_map (λ (i : ℕ). (k, i)) (position (is_field name descriptor) (fields_of classes k)))
    (first_some (field_on classes name descriptor n) (interfaces_of classes k ++ listed (super_of classes k)))

-- the same from the class of this name
abbrev pub field_of : List ClassModel → List ℕ → List ℕ → List ℕ → Option (ℕ × ℕ)
field_of classes class name descriptor = option_and_then (field_on classes name descriptor (length classes)) (class_named classes class)

-- the field of that class and number
abbrev pub field_at : List ClassModel → ℕ × ℕ → Option FieldModel
field_at classes place = slice_get (fields_of classes place.0) place.1

-- the instance fields that a class declares, with its number
abbrev pub own_fields : List ClassModel → ℕ → List (ℕ × FieldModel)
own_fields classes k = map (λ (f : FieldModel). (k, f)) (filter (λ f. not (is_static_field f)) (fields_of classes k))

-- the instance fields of an object, those of its superclasses first
abbrev pub instance_fields : List ClassModel → ℕ → List (ℕ × FieldModel)
instance_fields classes k = flat_map (own_fields classes) (reverse (line_of classes k))

-- where the field of that name and descriptor, which that class declares, stands in its objects and in those of its subclasses
abbrev pub slot_of : List ClassModel → List ℕ → List ℕ → ℕ → Option ℕ
slot_of classes name descriptor k = position (λ (s : ℕ × FieldModel). (s.0 == k) && is_field name descriptor s.1) (instance_fields classes k)

-- ---- methods

-- a method by its name and its descriptor, both of which have to agree
abbrev pub is_method : List ℕ → List ℕ → MethodModel → Bool
is_method name descriptor m = bytes_eq m.name name && bytes_eq m.descriptor descriptor

-- ACC_STATIC (JVMS 4.6)
abbrev pub is_static_method : MethodModel → Bool
is_static_method m = has_flag 0x0008 m.flags

-- a method that a call may select by the class of its object: neither private nor static
abbrev pub is_selectable : MethodModel → Bool
is_selectable m = not (has_flag 0x0002 m.flags) && not (is_static_method m)

-- the methods that a class declares, in the order of the class file
abbrev pub methods_of : List ClassModel → ℕ → List MethodModel
methods_of classes k = elim (slice_get classes k) [ Some c ↦ c.methods | None ↦ [] ]

-- the first method of some classes that passes a test: the number of its class, and its own there
abbrev pub method_among : List ClassModel → (MethodModel → Bool) → List ℕ → Option (ℕ × ℕ)
method_among classes test ks = first_some (λ k. option_map (λ (m : ℕ). (k, m)) (position test (methods_of classes k))) ks

-- the method of that name and descriptor in a class or else in its superclasses (JVMS 5.4.3.3)
abbrev pub method_of : List ClassModel → List ℕ → List ℕ → ℕ → Option (ℕ × ℕ)
method_of classes name descriptor k = method_among classes (is_method name descriptor) (line_of classes k)

-- the method that a call selects for an object of a class, from that class upward (JVMS 6.5, invokevirtual)
abbrev pub selected : List ClassModel → List ℕ → List ℕ → ℕ → Option (ℕ × ℕ)
selected classes name descriptor k = method_among classes (λ m. is_method name descriptor m && is_selectable m) (line_of classes k)

-- the method of that class and number
abbrev pub method_at : List ClassModel → ℕ × ℕ → Option MethodModel
method_at classes place = slice_get (methods_of classes place.0) place.1

-- the initialiser of a class (JVMS 2.9)
abbrev pub initialiser_of : List ClassModel → ℕ → Option ℕ
initialiser_of classes k = position (λ m. is_method (codes "<clinit>") (codes "()V") m && is_static_method m) (methods_of classes k)

-- ---- code

-- the code of the method of this number in this class; an abstract or a native one has none
abbrev pub code_at : List ClassModel → ℕ → ℕ → Option CodeModel
code_at classes k m = option_and_then (λ (method : MethodModel). method.code) (slice_get (methods_of classes k) m)

-- the instructions from a place on, where the first of them all stands at `start`; a place is the number of bytes before it
abbrev pub rest_from : ℕ → List Ins → ℕ → List Ins
rest_from start [] at = []
rest_from start (i ∷ is) at = if start == at then i ∷ is else rest_from (start + ins_size start i) is at

-- an instruction, and the place behind it
abbrev pub first_of_all : ℕ → List Ins → Option (Ins × ℕ)
first_of_all at [] = None
first_of_all at (i ∷ is) = Some (i, at + ins_size at i)

-- the instruction at a place of a method, and the place behind it
abbrev pub placed_at : List ClassModel → ℕ → ℕ → ℕ → Option (Ins × ℕ)
placed_at classes k m at = option_and_then (λ code. first_of_all at (rest_from 0 code.ins at)) (code_at classes k m)
