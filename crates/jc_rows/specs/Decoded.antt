-- What an instruction does, with all that its names mean in these classes, in the method of these numbers (JVMS 5.4.3, 6.5).
use Rattle.std.specs.Prelude.{ℕ, true, false, List, if◌then◌else◌}
use Rattle.std.specs.Option.{option_map}
use Rattle.std.specs.declared.option.Option.{Option}
use Rattle.std.specs.declared.option.Option.TheVariants.{Some, None}
use Rattle.jc_class_out.specs.declared.model.ClassModel.{ClassModel}
use Rattle.jc_class_out.specs.declared.model.MethodModel.{MethodModel}
use Rattle.jc_class_out.specs.declared.model.Ins.{Ins}
use Rattle.jc_class_out.specs.declared.model.Loaded.{Loaded}
use Rattle.jc_class_out.specs.declared.model.Loaded.TheVariants.{Text as LoadedText}
use Rattle.jc_class_out.specs.declared.model.Operand.{Operand}
use Rattle.jc_class_out.specs.declared.model.Operand.TheVariants as op
use Rattle.jc_opcodes.specs.Opcodes.{opcode_of}
use Rattle.jc_opcodes.specs.declared.opcode.Opcode.{Opcode}
use Rattle.jc_heap.specs.Signatures.{signature_of}
use Rattle.jc_jvm.specs.Calls.{sorts_of_call, special_method}
use Rattle.jc_jvm.specs.Classes.{class_named, class_has_flag, method_at}
use Rattle.jc_jvm.specs.Table.{group_of, plain_of, static_field, instance_slot, static_method, type_of_code}
use Rattle.jc_jvm.specs.Types.{result_sort, sort_of_descriptor, shape_named, based}
use Rattle.jc_jvm.specs.declared.groups.Group.{Group}
use Rattle.jc_jvm.specs.declared.groups.Group.TheVariants.{Literals, ElementLoads, ElementStores, Switches, Returns, StaticLoads, StaticStores, FieldLoads, FieldStores, VirtualCalls, SpecialCalls, StaticCalls, News, NewArrays, NewReferenceArrays, NewNests, Lengths, Throws, Casts, Tests}
use Rattle.jc_jvm.specs.declared.groups.Plain.{Plain}
use Rattle.jc_jvm.specs.declared.operands.Sort.{Sort}
use Rattle.jc_jvm.specs.declared.value.Shape.{Shape}
use Rattle.jc_rows.specs.declared.row.Row.{Row}
use Rattle.jc_rows.specs.declared.row.Row.TheVariants as row

-- ---- by what the names mean, where they mean something

-- a static field by the class and number that its name means, or an instance field by its slot; the same for loads and stores
abbrev pub static_load_row : Sort → Option (ℕ × ℕ) → Row
static_load_row sort (Some place) = row.LoadStatic sort place.0 place.1
static_load_row sort None = row.Nothing

abbrev pub static_store_row : Sort → Option (ℕ × ℕ) → Row
static_store_row sort (Some place) = row.StoreStatic sort place.0 place.1
static_store_row sort None = row.Nothing

abbrev pub field_load_row : Sort → Option ℕ → Row
field_load_row sort (Some slot) = row.LoadField sort slot
field_load_row sort None = row.Nothing

abbrev pub field_store_row : Sort → Option ℕ → Row
field_store_row sort (Some slot) = row.StoreField sort slot
field_store_row sort None = row.Nothing

-- a static method by its class and number, and the sorts of its arguments
abbrev pub static_call_row : List Sort → Option (ℕ × ℕ) → Row
static_call_row sorts (Some place) = row.CallStatic place.0 place.1 sorts
static_call_row sorts None = row.Nothing

-- new of a class that is neither an interface nor abstract
abbrev pub new_row : List ClassModel → Option ℕ → Row
new_row classes (Some k) = if class_has_flag classes 0x0600 k then row.Nothing else row.New k
new_row classes None = row.Nothing

-- a new array by the type of its elements, or a nest of arrays by its own type and how many lengths it takes
abbrev pub array_row : Option Shape → Row
array_row (Some of) = row.NewArray of
array_row None = row.Nothing

abbrev pub nest_row : ℕ → Option Shape → Row
nest_row dims (Some shape) = row.NewNest shape dims
nest_row dims None = row.Nothing

-- a return of this sort from a method, with the sort of the method's result
abbrev pub return_row : Option Sort → Option MethodModel → Row
return_row wanted (Some m) = row.Return wanted (result_sort m.descriptor)
return_row wanted None = row.Nothing

-- ---- by the operand, and then by the group of the instruction

-- an operand that isn't the group's own has no row, here and below
abbrev pub row_without_operand : List ClassModel → ℕ × ℕ → Group → Row
row_without_operand classes place (ElementLoads element) = row.LoadElement element
row_without_operand classes place (ElementStores element) = row.StoreElement element
row_without_operand classes place (Returns wanted) = return_row wanted (method_at classes place)
row_without_operand classes place Throws = row.Throw
row_without_operand classes place Lengths = row.Length
row_without_operand classes place _ = row.Nothing

-- ldc of a string; numbers touch their frame alone
abbrev pub row_of_constant : Group → Loaded → Row
row_of_constant Literals (LoadedText text) = row.Literal text
row_of_constant _ _ = row.Nothing

-- newarray, by the type that its number means
abbrev pub row_of_number : Group → Option Shape → Row
row_of_number NewArrays shape = array_row shape
row_of_number _ shape = row.Nothing

-- lookupswitch, whose row is given
abbrev pub row_of_switch : Group → Row → Row
row_of_switch Switches switch = switch
row_of_switch _ switch = row.Nothing

-- the instructions that name a field or a method; `current` is the class whose code this is
abbrev pub row_of_member : List ClassModel → ℕ → List ℕ → List ℕ → List ℕ → Group → Row
row_of_member classes current class name descriptor StaticLoads = static_load_row (sort_of_descriptor descriptor) (static_field classes class name descriptor)
row_of_member classes current class name descriptor StaticStores = static_store_row (sort_of_descriptor descriptor) (static_field classes class name descriptor)
row_of_member classes current class name descriptor FieldLoads = field_load_row (sort_of_descriptor descriptor) (instance_slot classes class name descriptor)
row_of_member classes current class name descriptor FieldStores = field_store_row (sort_of_descriptor descriptor) (instance_slot classes class name descriptor)
row_of_member classes current class name descriptor VirtualCalls = row.CallVirtual (signature_of classes name descriptor) (sorts_of_call true descriptor)
row_of_member classes current class name descriptor SpecialCalls = row.CallSpecial (special_method classes current class name descriptor) (sorts_of_call true descriptor)
row_of_member classes current class name descriptor StaticCalls = static_call_row (sorts_of_call false descriptor) (static_method classes class name descriptor)
row_of_member classes current class name descriptor _ = row.Nothing

-- new, anewarray, checkcast and instanceof; the latter two have a row also where the name means nothing, since null passes without it
abbrev pub row_of_class : List ClassModel → List ℕ → Group → Row
row_of_class classes name News = new_row classes (class_named classes name)
row_of_class classes name NewReferenceArrays = array_row (shape_named classes name)
row_of_class classes name Casts = row.Cast (shape_named classes name)
row_of_class classes name Tests = row.Test (shape_named classes name)
row_of_class classes name _ = row.Nothing

-- multianewarray
abbrev pub row_of_dims : List ClassModel → List ℕ → ℕ → Group → Row
row_of_dims classes name dims NewNests = nest_row dims (shape_named classes name)
row_of_dims classes name dims _ = row.Nothing

-- the row by the sort of the operand; `place` is the class and the method whose code this is
abbrev pub row_by_operand : List ClassModel → ℕ × ℕ → Group → Operand → Row
row_by_operand classes place group op.Nothing = row_without_operand classes place group
row_by_operand classes place group (op.Load constant) = row_of_constant group constant
row_by_operand classes place group (op.Number n) = row_of_number group (option_map based (type_of_code n))
row_by_operand classes place group (op.Switch otherwise cases) = row_of_switch group (row.Switch otherwise cases)
row_by_operand classes place group (op.Member class name descriptor) = row_of_member classes place.0 class name descriptor group
row_by_operand classes place group (op.Class name) = row_of_class classes name group
row_by_operand classes place group (op.Dims name dims) = row_of_dims classes name dims group
row_by_operand classes place group _ = row.Nothing

-- an instruction that touches its frame alone comes first
abbrev pub row_by_plain : Row → Option Plain → Row
row_by_plain other (Some plain) = row.Alone plain
row_by_plain other None = other

-- an opcode that the machine doesn't have is no row
abbrev pub row_by_code : List ClassModel → ℕ × ℕ → Operand → Option Opcode → Row
row_by_code classes place operand (Some code) = row_by_plain (row_by_operand classes place (group_of code) operand) (plain_of (group_of code) operand)
row_by_code classes place operand None = row.Nothing

-- an instruction of the method of this place
abbrev pub row_of : List ClassModel → ℕ × ℕ → Ins → Row
row_of classes place ins = row_by_code classes place ins.operand (opcode_of ins.code)
