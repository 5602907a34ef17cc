-- What a typed program says of its methods and classes.
use Rattle.std.specs.Prelude.{◌==◌, Bool, true, false, List, [], ◌∷◌, ◌++◌, length, map, drop, Option, Some, None, slice_get, if◌then◌else◌}
use Rattle.jc_types.specs.declared.ids.ClassId.{ClassId}
use Rattle.jc_types.specs.declared.ids.MethodId.{MethodId}
use Rattle.jc_types.specs.declared.environment.Bounds.{Bounds}
use Rattle.jc_types.specs.declared.declarations.MethodKind.{MethodKind}
use Rattle.jc_types.specs.declared.declarations.MethodKind.TheVariants.{StaticInitialiser}
use Rattle.jc_types.specs.declared.table.Table.{Table}
use Rattle.jc_types.specs.Accessors.{methods_of, method_owner_of, method_kind_of}
use Rattle.jc_types.specs.declared.form.Ty.{Ty}
use Rattle.jc_running.specs.declared.value.Value.{Value}
use Rattle.jc_heaps.specs.Layout.{default_value, or_object}
use Rattle.jc_typed.specs.declared.program.Local.{Local}
use Rattle.jc_typed.specs.declared.program.Body.{Body}
use Rattle.jc_typed.specs.declared.program.TypedMethod.{TypedMethod}
use Rattle.jc_typed.specs.declared.program.Selection.{Selection}
use Rattle.jc_typed.specs.declared.program.TypedProgram.{TypedProgram}
use Rattle.jc_typed.specs.Trees.{Stmt, Stmts, NoStmts, MoreStmts, Operand, Operands, NoOperands, MoreOperands}
use Rattle.jc_typed.specs.Parts.{stmts_of, stmt_of}

-- lists of trees, from their first member on
abbrev pub stmts_before : Stmts → List Stmt → List Stmt
stmts_before NoStmts ss = ss
stmts_before (MoreStmts before last) ss = stmts_before before (last ∷ ss)

abbrev pub stmt_list : Stmts → List Stmt
stmt_list ss = stmts_before ss []

abbrev pub operands_before : Operands → List Operand → List Operand
operands_before NoOperands os = os
operands_before (MoreOperands before last) os = operands_before before (last ∷ os)

abbrev pub operand_list : Operands → List Operand
operand_list os = operands_before os []

-- the statements of a body: the call of another constructor, the initialisers, and the block
abbrev pub body_in : TypedMethod → Option Body → Option (List Stmt)
body_in m None = None
body_in m (Some b) = Some (stmt_list (stmts_of m.nodes b.call) ++ stmt_list (stmts_of m.nodes b.initialisers) ++ stmt_of m.nodes b.rest ∷ [])

-- .. of a method by its number; None where it has no body, or there is no such method
abbrev pub body_of_method : Option TypedMethod → Option (List Stmt)
body_of_method (Some m) = body_in m m.body
body_of_method None = None

abbrev pub body_of : TypedProgram → MethodId → Option (List Stmt)
body_of P m = body_of_method (slice_get P.methods m.0)

-- none where there is no such method
abbrev pub bounds_in : Option TypedMethod → List Bounds
bounds_in (Some m) = m.captured.bounds
bounds_in None = []

-- the captured variables of a method
abbrev pub captured_of : TypedProgram → MethodId → List Bounds
captured_of P m = bounds_in (slice_get P.methods m.0)

-- the types of a method's variables, the receiver and the parameters among them; none where there is no such method
abbrev pub local_types : List Local → List Ty
local_types ls = map (λ l. l.ty) ls

abbrev pub locals_in : Option TypedMethod → List Ty
locals_in (Some m) = local_types m.locals
locals_in None = []

abbrev pub locals_of : TypedProgram → MethodId → List Ty
locals_of P m = locals_in (slice_get P.methods m.0)

-- the variables of a method as it begins: those that are given, and the others, each of which has the default value of its type. Nothing
-- reads them before it sets them (JLS 16)
abbrev pub begun_with : List Ty → List Value → List Value
begun_with types given = given ++ map default_value (drop (length given) types)

-- the class that declares a method
abbrev pub method_class : Table → MethodId → ClassId
method_class T m = or_object (method_owner_of T m)

-- whether a method is a static initialiser
abbrev pub is_static_initialiser : MethodKind → Bool
is_static_initialiser StaticInitialiser = true
is_static_initialiser _ = false

abbrev pub initialises : Option MethodKind → Bool
initialises (Some kind) = is_static_initialiser kind
initialises None = false

-- the first of these methods that is one
abbrev pub first_initialiser : Table → List MethodId → Option MethodId
first_initialiser T [] = None
first_initialiser T (m ∷ ms) = if initialises (method_kind_of T m) then Some m else first_initialiser T ms

-- the static initialiser of a class, if it has one (JLS 8.7)
abbrev pub initialiser_of : Table → ClassId → Option MethodId
initialiser_of T k = first_initialiser T (methods_of T k)

-- the body for this method among those that are listed for the class; None where none is
abbrev pub selected_in : MethodId → List Selection → Option MethodId
selected_in m [] = None
selected_in m (s ∷ ss) = if s.method.0 == m.0 then Some s.body else selected_in m ss

abbrev pub selected_of : MethodId → Option (List Selection) → Option MethodId
selected_of m None = None
selected_of m (Some ss) = selected_in m ss

-- the body that a class has for a method that is called
abbrev pub selected : TypedProgram → ClassId → MethodId → Option MethodId
selected P k m = selected_of m (slice_get P.selections k.0)
