-- Verification types (JVMS 4.10.1.2), one for each unit: a long is a Long with a Top behind it.
use Rattle.std.specs.Prelude.{ℕ, ◌==◌, Bool, true, false, not, ◌&&◌, ◌||◌, List, [], ◌∷◌, drop, codes, if◌then◌else◌}
use Rattle.std.specs.Str.{bytes_eq}
use Rattle.std.specs.declared.option.Option.{Option}
use Rattle.std.specs.declared.option.Option.TheVariants.{Some, None}
use Rattle.jc_class_out.specs.declared.model.ClassModel.{ClassModel}
use Rattle.jc_class_out.specs.declared.model.Item.{Item}
use Rattle.jc_class_out.specs.declared.model.Item.TheVariants.{Top, Integer, Long, NullItem, UninitializedThis, Object, Uninitialized}
use Rattle.jc_class_out.specs.Descriptors.{item_of_type}
use Rattle.jc_frames_types.specs.Names.{is_array_name, is_name_below}
use Rattle.jc_frames_types.specs.declared.units.UnitType.{UnitType}
use Rattle.jc_frames_types.specs.declared.units.UnitType.TheVariants as seen

-- an item whose name lies in a class model
abbrev pub item_of : UnitType → Item
item_of seen.Top = Top
item_of seen.Integer = Integer
item_of seen.Long = Long
item_of seen.NullItem = NullItem
item_of seen.UninitializedThis = UninitializedThis
item_of (seen.Object name) = Object name.now
item_of (seen.Uninitialized at) = Uninitialized at

-- isAssignable (4.10.1.2): the first may stand where the second is wanted
unfoldable pub is_assignable : List ClassModel → Item → Item → Bool
is_assignable classes from Top = true
is_assignable classes Integer Integer = true
is_assignable classes Long Long = true
is_assignable classes NullItem NullItem = true
is_assignable classes NullItem (Object to) = true
is_assignable classes UninitializedThis UninitializedThis = true
is_assignable classes (Object from) (Object to) = is_name_below classes from to
is_assignable classes (Uninitialized at) (Uninitialized to) = at == to
is_assignable classes _ _ = false

-- what has one unit and is no Top (4.10.1.3, popCategory1)
abbrev pub is_one_unit : Item → Bool
is_one_unit Top = false
is_one_unit Long = false
is_one_unit _ = true

-- what the type `reference` covers (4.10.1.2)
abbrev pub is_reference : Item → Bool
is_reference NullItem = true
is_reference UninitializedThis = true
is_reference (Object name) = true
is_reference (Uninitialized at) = true
is_reference _ = false

-- null or an array
abbrev pub is_array : Item → Bool
is_array NullItem = true
is_array (Object name) = is_array_name name
is_array _ = false

-- isSmallArray (4.10.1.9, baload): null, or an array of byte or of boolean
abbrev pub is_byte_array : Item → Bool
is_byte_array NullItem = true
is_byte_array (Object name) = bytes_eq name (codes "[B") || bytes_eq name (codes "[Z")
is_byte_array _ = false

-- the element type behind the `[` is a class or an array
abbrev pub is_reference_type : List ℕ → Bool
is_reference_type [] = false
is_reference_type (u ∷ us) = u == 76 || u == 91

-- the elements of an array of references, all of which go where an array of Object is wanted; those of null are null (4.10.1.9, aaload)
abbrev pub element_of : Item → Option Item
element_of NullItem = Some NullItem
element_of (Object name) = if is_array_name name && is_reference_type (drop 1 name) then Some (item_of_type (drop 1 name)) else None
element_of _ = None
