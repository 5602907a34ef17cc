-- What class files call classes, types and members (JVMS 4.2, 4.3).
use Rattle.std.specs.Prelude.{ℕ, ◌==◌, List, [], ◌∷◌, ◌++◌, map, replicate, codes, Option, Some, None, slice_get, if◌then◌else◌}
use Rattle.jc_types.specs.declared.erased.Base.{Base}
use Rattle.jc_types.specs.declared.erased.Base.TheVariants as base
use Rattle.jc_types.specs.declared.erased.Erased.{Erased}
use Rattle.jc_types.specs.declared.form.Primitive.{Primitive}
use Rattle.jc_types.specs.declared.form.Primitive.TheVariants.{Boolean, Byte, Char, Int, Long, Short}
use Rattle.jc_types.specs.declared.form.Ty.{Ty}
use Rattle.jc_types.specs.declared.ids.ClassId.{ClassId}
use Rattle.jc_types.specs.declared.ids.FieldId.{FieldId}
use Rattle.jc_types.specs.declared.ids.MethodId.{MethodId}
use Rattle.jc_types.specs.declared.table.Table.{Table}
use Rattle.jc_types.specs.declared.declarations.FieldDecl.{FieldDecl}
use Rattle.jc_types.specs.declared.declarations.MethodKind.{MethodKind}
use Rattle.jc_types.specs.declared.declarations.MethodKind.TheVariants as method_kind
use Rattle.jc_types.specs.Accessors.{binary_of, field_type_of, method_kind_of, params_of, result_of}
use Rattle.jc_types.specs.Erasing.{erasure}
use Rattle.jc_heaps.specs.Layout.{field_class}
use Rattle.jc_heaps.specs.Making.{units_of_text}
use Rattle.jc_meaning.specs.Programs.{method_class}
use Rattle.jc_erased.specs.declared.program.ErasedProgram.{ErasedProgram}
use Rattle.jc_erased.specs.Programs.{name_of_method}
use Rattle.jc_class_out.specs.declared.model.Operand.{Operand}
use Rattle.jc_class_out.specs.declared.model.Operand.TheVariants as op

-- a dot as `/`
abbrev pub slashed : ℕ → ℕ
slashed u = if u == 46 then 47 else u

-- the name of a class, by its UTF-16 units
abbrev pub class_name : Table → ClassId → List ℕ
class_name T k = map slashed (units_of_text (binary_of T k))

-- B, C, I, J, S, Z; a class between `L` and `;`
abbrev pub letter : Primitive → List ℕ
letter Boolean = codes "Z"
letter Byte = codes "B"
letter Char = codes "C"
letter Int = codes "I"
letter Long = codes "J"
letter Short = codes "S"

abbrev pub base_descriptor : Table → Base → List ℕ
base_descriptor T (base.Prim p) = letter p
base_descriptor T (base.Class k) = codes "L" ++ class_name T k ++ codes ";"
base_descriptor T base.NullTy = codes "V"

-- the descriptor of a type, a `[` for each dimension
abbrev pub descriptor : Table → Erased → List ℕ
descriptor T e = replicate e.dims 91 ++ base_descriptor T e.base

-- of a method: the parameters in parentheses, and the result, or V
abbrev pub all_descriptors : Table → List Ty → List ℕ
all_descriptors T [] = []
all_descriptors T (t ∷ ts) = descriptor T (erasure T [] t) ++ all_descriptors T ts

abbrev pub result_descriptor : Table → Option Ty → List ℕ
result_descriptor T None = codes "V"
result_descriptor T (Some t) = descriptor T (erasure T [] t)

abbrev pub method_descriptor : Table → MethodId → List ℕ
method_descriptor T m = codes "(" ++ all_descriptors T (params_of T m) ++ codes ")" ++ result_descriptor T (result_of T m)

-- a type as an operand names it: a class by its name, an array by its descriptor (JVMS 4.4.1)
abbrev pub base_name : Table → Base → List ℕ
base_name T (base.Class k) = class_name T k
base_name T b = base_descriptor T b

abbrev pub type_name : Table → Erased → List ℕ
type_name T e = if e.dims == 0 then base_name T e.base else descriptor T e

-- a field by the class that declares it, its name and its descriptor
abbrev pub declared_descriptor : Table → Option Ty → List ℕ
declared_descriptor T None = []
declared_descriptor T (Some t) = descriptor T (erasure T [] t)

abbrev pub field_name_in : Option FieldDecl → List ℕ
field_name_in None = []
field_name_in (Some f) = f.name

abbrev pub field_name : Table → FieldId → List ℕ
field_name T f = units_of_text (field_name_in (slice_get T.fields f.0))

abbrev pub field_member : Table → FieldId → Operand
field_member T f = op.Member (class_name T (field_class T f)) (field_name T f) (declared_descriptor T (field_type_of T f))

-- A method by the class that declares it, its name there and its descriptor. All constructors have one name (JVMS 2.9)
abbrev pub name_by : Option MethodKind → List ℕ → List ℕ
name_by (Some method_kind.Constructor) name = codes "<init>"
name_by (Some method_kind.ImpliedConstructor) name = codes "<init>"
name_by kind name = name

abbrev pub method_name : ErasedProgram → MethodId → List ℕ
method_name P m = name_by (method_kind_of P.table m) (name_of_method P m)

abbrev pub method_member : ErasedProgram → MethodId → Operand
method_member P m = op.Member (class_name P.table (method_class P.table m)) (method_name P m) (method_descriptor P.table m)
