-- Values, zeros, and types of objects and arrays (JVMS 2.2 to 2.4, 4.3).
use Rattle.std.specs.Prelude.{ℕ, ◌+◌, ◌-◌, ◌==◌, Bool, true, false, ◌||◌, nat_lt, List, [], ◌∷◌, take, map, length, slice_get, ◌++◌, replicate, pos, codes, if◌then◌else◌}
use Rattle.std.specs.Option.{option_map}
use Rattle.std.specs.Str.{bytes_eq}
use Rattle.std.specs.declared.option.Option.{Option}
use Rattle.std.specs.declared.option.Option.TheVariants.{Some, None}
use Rattle.jc_class_out.specs.declared.model.ClassModel.{ClassModel}
use Rattle.jc_class_out.specs.declared.model.FieldModel.{FieldModel}
use Rattle.jc_class_out.specs.declared.model.Item.{Item}
use Rattle.jc_class_out.specs.declared.model.Item.TheVariants.{Integer, Long as LongItem}
use Rattle.jc_class_out.specs.Descriptors.{parameter_items}
use Rattle.jc_jvm.specs.Classes.{class_named, name_of, is_class_below, instance_fields}
use Rattle.jc_jvm.specs.declared.cells.Cell.{Cell}
use Rattle.jc_jvm.specs.declared.cells.Cell.TheVariants.{Instance, Array}
use Rattle.jc_jvm.specs.declared.operands.Sort.{Sort}
use Rattle.jc_jvm.specs.declared.operands.Sort.TheVariants.{WholeSort, LongSort, ReferenceSort}
use Rattle.jc_jvm.specs.declared.value.Base.{Base}
use Rattle.jc_jvm.specs.declared.value.Base.TheVariants as base
use Rattle.jc_jvm.specs.declared.value.Shape.{Shape}
use Rattle.jc_jvm.specs.declared.value.Value.{Value}
use Rattle.jc_jvm.specs.declared.value.Value.TheVariants.{Whole, Long, Address, NullValue}

-- ---- sorts of values

-- int, long or reference, as instructions tell values apart
abbrev pub sort_of_value : Value → Sort
sort_of_value (Whole n) = WholeSort
sort_of_value (Long n) = LongSort
sort_of_value (Address at) = ReferenceSort
sort_of_value NullValue = ReferenceSort

abbrev pub is_of_sort : Sort → Value → Bool
is_of_sort WholeSort (Whole n) = true
is_of_sort LongSort (Long n) = true
is_of_sort ReferenceSort (Address at) = true
is_of_sort ReferenceSort NullValue = true
is_of_sort _ _ = false

-- the value that a variable of the sort begins with (JVMS 2.3, 2.4)
abbrev pub zero_of : Sort → Value
zero_of WholeSort = Whole (pos 0)
zero_of LongSort = Long (pos 0)
zero_of ReferenceSort = NullValue

-- the sort of a field's values, by the first unit of its descriptor: `J` a long, `L` and `[` a reference
abbrev pub sort_of_descriptor : List ℕ → Sort
sort_of_descriptor [] = WholeSort
sort_of_descriptor (u ∷ us) = if u == 74 then LongSort else if u == 76 || u == 91 then ReferenceSort else WholeSort

-- the value that a field begins with
abbrev pub zero_of_field : FieldModel → Value
zero_of_field f = zero_of (sort_of_descriptor f.descriptor)

-- the slots of a new object
abbrev pub new_fields : List ClassModel → ℕ → List Value
new_fields classes k = map (λ (s : ℕ × FieldModel). zero_of_field s.1) (instance_fields classes k)

-- the sort of a parameter
abbrev pub sort_of_item : Item → Sort
sort_of_item Integer = WholeSort
sort_of_item LongItem = LongSort
sort_of_item _ = ReferenceSort

-- the text behind the `)`
abbrev pub behind_parameters : List ℕ → List ℕ
behind_parameters [] = []
behind_parameters (u ∷ us) = if u == 41 then us else behind_parameters us

abbrev pub result_sort : List ℕ → Option Sort
result_sort descriptor = if bytes_eq (behind_parameters descriptor) (codes "V") then None else Some (sort_of_descriptor (behind_parameters descriptor))

-- of each parameter, as the verifier sees its type
abbrev pub parameter_sorts : List ℕ → List Sort
parameter_sorts descriptor = map sort_of_item (parameter_items descriptor)

-- ---- types

-- the type of the objects of a class
abbrev pub shape_of_class : ℕ → Shape
shape_of_class k = record { base = base.Class k; dims = 0 }

-- with one dimension more
abbrev pub deeper : Shape → Shape
deeper s = record s { dims = s.dims + 1 }

-- with one dimension less
abbrev pub shallower : Shape → Shape
shallower s = record s { dims = s.dims - 1 }

-- the sort of the values of a type; every array is a reference
abbrev pub sort_of_base : Base → Sort
sort_of_base base.Long = LongSort
sort_of_base (base.Class k) = ReferenceSort
sort_of_base _ = WholeSort

abbrev pub sort_of_shape : Shape → Sort
sort_of_shape s = if s.dims == 0 then sort_of_base s.base else ReferenceSort

-- the primitive type of a descriptor's unit
abbrev pub primitive_of : ℕ → Option Base
primitive_of u =
    if u == 90 then Some base.Boolean else
    if u == 67 then Some base.Char else
    if u == 66 then Some base.Byte else
    if u == 83 then Some base.Short else
    if u == 73 then Some base.Int else
    if u == 74 then Some base.Long else None

-- the type itself, with no dimension
abbrev pub based : Base → Shape
based b = record { base = b; dims = 0 }

-- the type of a field descriptor (JVMS 4.3.2), where the classes have its class
unfoldable pub shape_of_descriptor : List ClassModel → List ℕ → Option Shape
shape_of_descriptor classes [] = None
shape_of_descriptor classes (u ∷ us) =
    if u == 91 then option_map deeper (shape_of_descriptor classes us) else
    if u == 76 then option_map shape_of_class (class_named classes (take (length us - 1) us)) else
    option_map based (primitive_of u)

-- the class or array type that a name in an instruction means (JVMS 4.4.1): arrays stand as descriptors
abbrev pub shape_named : List ClassModel → List ℕ → Option Shape
shape_named classes [] = None
shape_named classes (u ∷ us) = if u == 91 then shape_of_descriptor classes (u ∷ us) else option_map shape_of_class (class_named classes (u ∷ us))

-- the type is the class of this name, if the classes have it
abbrev pub is_class_named : List ClassModel → List ℕ → Base → Bool
is_class_named classes name (base.Class k) = elim (class_named classes name) [ Some c ↦ k == c | None ↦ false ]
is_class_named classes name _ = false

abbrev pub is_object : List ClassModel → Base → Bool
is_object classes b = is_class_named classes (codes "java/lang/Object") b

-- a primitive type is below itself alone
abbrev pub is_base_below : List ClassModel → Base → Base → Bool
is_base_below classes base.Boolean base.Boolean = true
is_base_below classes base.Char base.Char = true
is_base_below classes base.Byte base.Byte = true
is_base_below classes base.Short base.Short = true
is_base_below classes base.Int base.Int = true
is_base_below classes base.Long base.Long = true
is_base_below classes (base.Class k) (base.Class wanted) = is_class_below classes k wanted
is_base_below classes _ _ = false

-- a type is another one or below it (JVMS 2.4, 6.5 checkcast). Of the three types above all arrays the library has Object alone.
abbrev pub is_shape_below : List ClassModel → Shape → Shape → Bool
is_shape_below classes s t =
    if s.dims == t.dims then is_base_below classes s.base t.base else
    if nat_lt t.dims s.dims then is_object classes t.base else false

-- the type of an object or an array
abbrev pub shape_of_cell : Cell → Shape
shape_of_cell (Instance class fields) = shape_of_class class
shape_of_cell (Array of items) = deeper of

-- where nothing stands at the address, it is of no type
abbrev pub is_cell_below : List ClassModel → Shape → Option Cell → Bool
is_cell_below classes shape None = false
is_cell_below classes shape (Some cell) = is_shape_below classes (shape_of_cell cell) shape

-- whether a value may go where a reference of this type is wanted: null may everywhere
abbrev pub fits : List ClassModel → List Cell → Shape → Value → Bool
fits classes heap shape (Address at) = is_cell_below classes shape (slice_get heap at)
fits classes heap shape NullValue = true
fits classes heap shape _ = false

-- ---- names of types

-- the units of descriptors (JVMS 4.3.2)
abbrev pub letter_of : Base → ℕ
letter_of base.Boolean = 90
letter_of base.Char = 67
letter_of base.Byte = 66
letter_of base.Short = 83
letter_of base.Int = 73
letter_of base.Long = 74
letter_of (base.Class k) = 76

-- a name with a dot for each slash
abbrev pub dotted : List ℕ → List ℕ
dotted name = map (λ (u : ℕ). if u == 47 then 46 else u) name

-- the name of a class with dots (JVMS 4.2.1, JLS 13.1)
abbrev pub binary_name : List ClassModel → ℕ → List ℕ
binary_name classes k = dotted (name_of classes k)

-- the descriptor of an element type (JVMS 4.3.2)
abbrev pub descriptor_of_base : List ClassModel → Base → List ℕ
descriptor_of_base classes (base.Class k) = 76 ∷ binary_name classes k ++ 59 ∷ []
descriptor_of_base classes b = letter_of b ∷ []

-- a class alone has its name without `L` and `;`
abbrev pub name_of_base : List ClassModel → Base → List ℕ
name_of_base classes (base.Class k) = binary_name classes k
name_of_base classes b = letter_of b ∷ []

abbrev pub name_of_shape : List ClassModel → Shape → List ℕ
name_of_shape classes s = if s.dims == 0 then name_of_base classes s.base else replicate s.dims 91 ++ descriptor_of_base classes s.base
