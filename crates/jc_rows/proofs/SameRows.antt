-- The rows, with what their names mean, do what the instruction table says of their instructions.
use Rattle.std.proofs.Common.{◌≡◌, ℕ, Bool, true, false, List, [], ◌∷◌, ap, option_and_then, refl, slice_get}
use Rattle.std.specs.Prelude.{ℤ, if◌then◌else◌}
use Rattle.std.specs.Option.{option_map}
use Rattle.std.specs.declared.option.Option.{Option}
use Rattle.std.specs.declared.option.Option.TheVariants.{Some, None}
use Rattle.jc_class_out.specs.declared.model.ClassModel.{ClassModel}
use Rattle.jc_class_out.specs.declared.model.Ins.{Ins}
use Rattle.jc_class_out.specs.declared.model.Loaded.{Loaded}
use Rattle.jc_class_out.specs.declared.model.Loaded.TheVariants.{Whole as LoadedWhole, Long as LoadedLong, Text as LoadedText}
use Rattle.jc_class_out.specs.declared.model.MethodModel.{MethodModel}
use Rattle.jc_class_out.specs.declared.model.SwitchCase.{SwitchCase}
use Rattle.jc_class_out.specs.declared.model.Operand.{Operand}
use Rattle.jc_class_out.specs.declared.model.Operand.TheVariants as op
use Rattle.jc_opcodes.specs.Opcodes.{opcode_of}
use Rattle.jc_opcodes.specs.declared.opcode.Opcode.{Opcode}
use Rattle.jc_jvm.specs.Calls.{Step, stuck, acts, arguments_of, called, called_virtually, selecting_class, sorts_of_call}
use Rattle.jc_jvm.specs.Classes.{class_named, class_has_flag, method_at, selected}
use Rattle.jc_jvm.specs.Objects.{object_made}
use Rattle.jc_jvm.specs.Table.{group_of, first_initialised, type_of_code, plain_of, static_field, instance_slot, static_method, static_loads, static_stores, field_loads, field_stores, static_calls, news, new_arrays, new_nests, returns, row as table_row, grouped_row, coded_row, placed_row}
use Rattle.jc_jvm.specs.Types.{shape_named, sort_of_descriptor, based}
use Rattle.jc_jvm.specs.declared.frame.Frame.{Frame}
use Rattle.jc_jvm.specs.declared.frame.Waiting.{Waiting}
use Rattle.jc_jvm.specs.declared.groups.Group.{Group}
use Rattle.jc_jvm.specs.declared.groups.Group.TheVariants.{Literals, Switches, Returns, StaticLoads, StaticStores, FieldLoads, FieldStores, StaticCalls, VirtualCalls, News, NewArrays, NewReferenceArrays, NewNests}
use Rattle.jc_jvm.specs.declared.groups.Plain.{Plain}
use Rattle.jc_jvm.specs.declared.operands.Sort.{Sort}
use Rattle.jc_jvm.specs.declared.value.Shape.{Shape}
use Rattle.jc_jvm.specs.declared.value.Value.{Value}
use Rattle.jc_jvm.specs.declared.value.Value.TheVariants.{Whole, Long, Address, NullValue}
use Rattle.jc_jvm.specs.declared.world.World.{World}
use Rattle.jc_heap.proofs.Signing.{selected_by_number}
use Rattle.jc_heap.specs.Signatures.{selected_as, signature_of}
use Rattle.jc_rows.specs.Acts.{called_by_number, row_step}
use Rattle.jc_rows.specs.declared.row.Row.TheVariants as row
use Rattle.jc_rows.specs.Decoded.{static_load_row, static_store_row, field_load_row, field_store_row, static_call_row, new_row, array_row, nest_row, return_row, row_without_operand, row_of_constant, row_of_number, row_of_switch, row_of_member, row_of_class, row_of_dims, row_by_operand, row_by_plain, row_by_code, row_of}

-- ---- what a name may mean

same_static_load : (classes : List ClassModel) (sort : Sort) (world : World) (next : ℕ) (now : Frame) (waiting : List Waiting) (place : Option (ℕ × ℕ)) →
    static_loads classes sort world next now waiting place ≡ row_step classes world next now waiting (static_load_row sort place)
same_static_load classes sort world next now waiting (Some place) = refl
same_static_load classes sort world next now waiting None = refl

same_static_store : (classes : List ClassModel) (sort : Sort) (world : World) (next : ℕ) (now : Frame) (waiting : List Waiting) (place : Option (ℕ × ℕ)) →
    static_stores classes sort world next now waiting place ≡ row_step classes world next now waiting (static_store_row sort place)
same_static_store classes sort world next now waiting (Some place) = refl
same_static_store classes sort world next now waiting None = refl

same_field_load : (classes : List ClassModel) (sort : Sort) (world : World) (next : ℕ) (now : Frame) (waiting : List Waiting) (slot : Option ℕ) →
    field_loads classes sort world next now waiting slot ≡ row_step classes world next now waiting (field_load_row sort slot)
same_field_load classes sort world next now waiting (Some slot) = refl
same_field_load classes sort world next now waiting None = refl

same_field_store : (classes : List ClassModel) (sort : Sort) (world : World) (next : ℕ) (now : Frame) (waiting : List Waiting) (slot : Option ℕ) →
    field_stores classes sort world next now waiting slot ≡ row_step classes world next now waiting (field_store_row sort slot)
same_field_store classes sort world next now waiting (Some slot) = refl
same_field_store classes sort world next now waiting None = refl

same_static_call : (classes : List ClassModel) (descriptor : List ℕ) (world : World) (next : ℕ) (now : Frame) (waiting : List Waiting) (place : Option (ℕ × ℕ)) →
    static_calls classes descriptor world next now waiting place ≡ row_step classes world next now waiting (static_call_row (sorts_of_call false descriptor) place)
same_static_call classes descriptor world next now waiting (Some place) = refl
same_static_call classes descriptor world next now waiting None = refl

new_by : (classes : List ClassModel) (world : World) (next : ℕ) (now : Frame) (waiting : List Waiting) (k : ℕ) (b : Bool) →
    (let s : Step = (if b then stuck else first_initialised classes world now waiting k (acts classes waiting (object_made classes k world next now))) in s) ≡ row_step classes world next now waiting (if b then row.Nothing else row.New k)
new_by classes world next now waiting k true = refl
new_by classes world next now waiting k false = refl

same_new : (classes : List ClassModel) (world : World) (next : ℕ) (now : Frame) (waiting : List Waiting) (k : Option ℕ) →
    news classes world next now waiting k ≡ row_step classes world next now waiting (new_row classes k)
same_new classes world next now waiting (Some k) = new_by classes world next now waiting k (class_has_flag classes 0x0600 k)
same_new classes world next now waiting None = refl

same_array : (classes : List ClassModel) (world : World) (next : ℕ) (now : Frame) (waiting : List Waiting) (of : Option Shape) →
    new_arrays classes world next now waiting of ≡ row_step classes world next now waiting (array_row of)
same_array classes world next now waiting (Some of) = refl
same_array classes world next now waiting None = refl

same_nest : (classes : List ClassModel) (dims : ℕ) (world : World) (next : ℕ) (now : Frame) (waiting : List Waiting) (shape : Option Shape) →
    new_nests classes dims world next now waiting shape ≡ row_step classes world next now waiting (nest_row dims shape)
same_nest classes dims world next now waiting (Some shape) = refl
same_nest classes dims world next now waiting None = refl

same_return : (classes : List ClassModel) (world : World) (next : ℕ) (now : Frame) (waiting : List Waiting) (wanted : Option Sort) (m : Option MethodModel) →
    returns classes world now waiting wanted m ≡ row_step classes world next now waiting (return_row wanted m)
same_return classes world next now waiting wanted (Some m) = refl
same_return classes world next now waiting wanted None = refl

same_target : (classes : List ClassModel) (name descriptor : List ℕ) (class : Option ℕ) → option_and_then (selected classes name descriptor) class ≡ option_and_then (selected_as classes (signature_of classes name descriptor)) class
same_target classes name descriptor (Some k) = selected_by_number classes name descriptor k
same_target classes name descriptor None = refl

same_virtual : (classes : List ClassModel) (name descriptor : List ℕ) (world : World) (next : ℕ) (now : Frame) (waiting : List Waiting) (taken : Option (List Value × List Value)) →
    called_virtually classes name descriptor world next now waiting taken ≡ called_by_number classes (signature_of classes name descriptor) world next now waiting taken
same_virtual classes name descriptor world next now waiting (Some (Address at ∷ more, rest)) =
    ap (λ (target : Option (ℕ × ℕ)). called classes world next now waiting (Address at ∷ more) rest target) (same_target classes name descriptor (selecting_class classes (slice_get world.heap at)))
same_virtual classes name descriptor world next now waiting (Some (NullValue ∷ more, rest)) = refl
same_virtual classes name descriptor world next now waiting (Some (Whole n ∷ more, rest)) = refl
same_virtual classes name descriptor world next now waiting (Some (Long n ∷ more, rest)) = refl
same_virtual classes name descriptor world next now waiting (Some ([], rest)) = refl
same_virtual classes name descriptor world next now waiting None = refl

-- ---- by the operand and the group

same_without_operand : (classes : List ClassModel) (world : World) (next : ℕ) (now : Frame) (waiting : List Waiting) (group : Group) →
    table_row classes world next now waiting group op.Nothing ≡ row_step classes world next now waiting (row_without_operand classes (now.class, now.method) group)
same_without_operand classes world next now waiting (Returns wanted) = same_return classes world next now waiting wanted (method_at classes (now.class, now.method))
same_without_operand classes world next now waiting _ = refl

same_constant : (classes : List ClassModel) (world : World) (next : ℕ) (now : Frame) (waiting : List Waiting) (group : Group) (constant : Loaded) →
    table_row classes world next now waiting group (op.Load constant) ≡ row_step classes world next now waiting (row_of_constant group constant)
same_constant classes world next now waiting Literals (LoadedWhole n) = refl
same_constant classes world next now waiting Literals (LoadedLong n) = refl
same_constant classes world next now waiting Literals (LoadedText text) = refl
same_constant classes world next now waiting _ constant = refl

same_number : (classes : List ClassModel) (world : World) (next : ℕ) (now : Frame) (waiting : List Waiting) (group : Group) (n : ℤ) →
    table_row classes world next now waiting group (op.Number n) ≡ row_step classes world next now waiting (row_of_number group (option_map based (type_of_code n)))
same_number classes world next now waiting NewArrays n = same_array classes world next now waiting (option_map based (type_of_code n))
same_number classes world next now waiting _ n = refl

same_switch : (classes : List ClassModel) (world : World) (next : ℕ) (now : Frame) (waiting : List Waiting) (group : Group) (otherwise : ℕ) (cases : List SwitchCase) →
    table_row classes world next now waiting group (op.Switch otherwise cases) ≡ row_step classes world next now waiting (row_of_switch group (row.Switch otherwise cases))
same_switch classes world next now waiting Switches otherwise cases = refl
same_switch classes world next now waiting _ otherwise cases = refl

same_member : (classes : List ClassModel) (world : World) (next : ℕ) (now : Frame) (waiting : List Waiting) (group : Group) (class name descriptor : List ℕ) →
    table_row classes world next now waiting group (op.Member class name descriptor) ≡ row_step classes world next now waiting (row_of_member classes now.class class name descriptor group)
same_member classes world next now waiting StaticLoads class name descriptor = same_static_load classes (sort_of_descriptor descriptor) world next now waiting (static_field classes class name descriptor)
same_member classes world next now waiting StaticStores class name descriptor = same_static_store classes (sort_of_descriptor descriptor) world next now waiting (static_field classes class name descriptor)
same_member classes world next now waiting FieldLoads class name descriptor = same_field_load classes (sort_of_descriptor descriptor) world next now waiting (instance_slot classes class name descriptor)
same_member classes world next now waiting FieldStores class name descriptor = same_field_store classes (sort_of_descriptor descriptor) world next now waiting (instance_slot classes class name descriptor)
same_member classes world next now waiting StaticCalls class name descriptor = same_static_call classes descriptor world next now waiting (static_method classes class name descriptor)
same_member classes world next now waiting VirtualCalls class name descriptor = same_virtual classes name descriptor world next now waiting (arguments_of (sorts_of_call true descriptor) now.stack.values)
same_member classes world next now waiting _ class name descriptor = refl

same_class : (classes : List ClassModel) (world : World) (next : ℕ) (now : Frame) (waiting : List Waiting) (group : Group) (name : List ℕ) →
    table_row classes world next now waiting group (op.Class name) ≡ row_step classes world next now waiting (row_of_class classes name group)
same_class classes world next now waiting News name = same_new classes world next now waiting (class_named classes name)
same_class classes world next now waiting NewReferenceArrays name = same_array classes world next now waiting (shape_named classes name)
same_class classes world next now waiting _ name = refl

same_dims : (classes : List ClassModel) (world : World) (next : ℕ) (now : Frame) (waiting : List Waiting) (group : Group) (name : List ℕ) (dims : ℕ) →
    table_row classes world next now waiting group (op.Dims name dims) ≡ row_step classes world next now waiting (row_of_dims classes name dims group)
same_dims classes world next now waiting NewNests name dims = same_nest classes dims world next now waiting (shape_named classes name)
same_dims classes world next now waiting _ name dims = refl

no_local : (classes : List ClassModel) (world : World) (next : ℕ) (now : Frame) (waiting : List Waiting) (group : Group) (local : ℕ) → table_row classes world next now waiting group (op.Local local) ≡ stuck
no_local classes world next now waiting Literals local = refl
no_local classes world next now waiting _ local = refl

no_step : (classes : List ClassModel) (world : World) (next : ℕ) (now : Frame) (waiting : List Waiting) (group : Group) (local : ℕ) (by : ℤ) → table_row classes world next now waiting group (op.Step local by) ≡ stuck
no_step classes world next now waiting Literals local by = refl
no_step classes world next now waiting _ local by = refl

no_jump : (classes : List ClassModel) (world : World) (next : ℕ) (now : Frame) (waiting : List Waiting) (group : Group) (to : ℕ) → table_row classes world next now waiting group (op.Jump to) ≡ stuck
no_jump classes world next now waiting Literals to = refl
no_jump classes world next now waiting _ to = refl

same_by_operand : (classes : List ClassModel) (world : World) (next : ℕ) (now : Frame) (waiting : List Waiting) (group : Group) (operand : Operand) →
    table_row classes world next now waiting group operand ≡ row_step classes world next now waiting (row_by_operand classes (now.class, now.method) group operand)
same_by_operand classes world next now waiting group op.Nothing = same_without_operand classes world next now waiting group
same_by_operand classes world next now waiting group (op.Load constant) = same_constant classes world next now waiting group constant
same_by_operand classes world next now waiting group (op.Number n) = same_number classes world next now waiting group n
same_by_operand classes world next now waiting group (op.Switch otherwise cases) = same_switch classes world next now waiting group otherwise cases
same_by_operand classes world next now waiting group (op.Member class name descriptor) = same_member classes world next now waiting group class name descriptor
same_by_operand classes world next now waiting group (op.Class name) = same_class classes world next now waiting group name
same_by_operand classes world next now waiting group (op.Dims name dims) = same_dims classes world next now waiting group name dims
same_by_operand classes world next now waiting group (op.Local local) = no_local classes world next now waiting group local
same_by_operand classes world next now waiting group (op.Step local by) = no_step classes world next now waiting group local by
same_by_operand classes world next now waiting group (op.Jump to) = no_jump classes world next now waiting group to

same_by_plain : (classes : List ClassModel) (world : World) (next : ℕ) (now : Frame) (waiting : List Waiting) (group : Group) (operand : Operand) (plain : Option Plain) →
    grouped_row classes world next now waiting group operand plain ≡ row_step classes world next now waiting (row_by_plain (row_by_operand classes (now.class, now.method) group operand) plain)
same_by_plain classes world next now waiting group operand (Some plain) = refl
same_by_plain classes world next now waiting group operand None = same_by_operand classes world next now waiting group operand

same_by_code : (classes : List ClassModel) (world : World) (next : ℕ) (now : Frame) (waiting : List Waiting) (operand : Operand) (code : Option Opcode) →
    coded_row classes world next now waiting operand code ≡ row_step classes world next now waiting (row_by_code classes (now.class, now.method) operand code)
same_by_code classes world next now waiting operand (Some code) = same_by_plain classes world next now waiting (group_of code) operand (plain_of (group_of code) operand)
same_by_code classes world next now waiting operand None = refl

-- an instruction's step is that of its row
pub same_row : (classes : List ClassModel) (world : World) (next : ℕ) (now : Frame) (waiting : List Waiting) (ins : Ins) →
    placed_row classes world now waiting (Some (ins, next)) ≡ row_step classes world next now waiting (row_of classes (now.class, now.method) ins)
same_row classes world next now waiting ins = same_by_code classes world next now waiting ins.operand (opcode_of ins.code)
