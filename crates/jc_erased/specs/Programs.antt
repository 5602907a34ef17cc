-- What an erased program says of its methods, and the states of its runs.
use Rattle.std.specs.Prelude.{ℕ, Bool, List, [], Option, Some, None, is_some, slice_get}
use Rattle.jc_types.specs.declared.ids.ClassId.{ClassId}
use Rattle.jc_types.specs.declared.ids.MethodId.{MethodId}
use Rattle.jc_types.specs.declared.erased.Erased.{Erased}
use Rattle.jc_types.specs.declared.erased.Base.TheVariants as base
use Rattle.jc_types.specs.declared.form.Ty.{Ty}
use Rattle.jc_types.specs.declared.form.Primitive.TheVariants.{Char}
use Rattle.jc_types.specs.Erasing.{erasure, plain, raised}
use Rattle.jc_running.specs.Outcomes.{Run}
use Rattle.jc_heaps.specs.Erases.{ErasedState}
use Rattle.jc_heaps.specs.Making.{Keeping}
use Rattle.jc_typed.specs.Trees.{Stmt}
use Rattle.jc_meaning.specs.Programs.{body_of_method, locals_in, selected_of}
use Rattle.jc_typed.specs.declared.program.TypedMethod.{TypedMethod}
use Rattle.jc_bridges_spec.specs.declared.bridge.Bridge.{Bridge}
use Rattle.jc_erased.specs.declared.program.ErasedMethod.{ErasedMethod}
use Rattle.jc_erased.specs.declared.program.ErasedProgram.{ErasedProgram}

-- a computation on a state whose objects keep erased types
abbrev pub ErasedRun : Type 0 → Type 0
ErasedRun A = Run ErasedState A

-- objects keep the erasures of their types
abbrev pub erased_keeping : Keeping Erased
erased_keeping = record {
  erased = λ e. e;
  of_class = λ k. plain (base.Class k);
  of_chars = raised 1 (plain (base.Prim Char));
}

-- the erasure of a type without variables
abbrev pub erased_type : ErasedProgram → Ty → Erased
erased_type P t = erasure P.table [] t

-- the typed method of an erased one; None where there is no such method
abbrev pub tree_in : Option ErasedMethod → Option TypedMethod
tree_in (Some m) = Some m.tree
tree_in None = None

abbrev pub tree_of : ErasedProgram → MethodId → Option TypedMethod
tree_of P m = tree_in (slice_get P.methods m.0)

-- the statements of a method's body
abbrev pub body_of : ErasedProgram → MethodId → Option (List Stmt)
body_of P m = body_of_method (tree_of P m)

-- the types of a method's variables, the receiver and the parameters among them
abbrev pub locals_of : ErasedProgram → MethodId → List Ty
locals_of P m = locals_in (tree_of P m)

-- whether a class has a body for a method that is called
abbrev pub is_selected : ErasedProgram → ClassId → MethodId → Bool
is_selected P k m = is_some (selected_of m (slice_get P.selections k.0))

-- empty where there is no such method
abbrev pub name_in : Option ErasedMethod → List ℕ
name_in (Some m) = m.name
name_in None = []

-- the name of a method in its class file
abbrev pub name_of_method : ErasedProgram → MethodId → List ℕ
name_of_method P m = name_in (slice_get P.methods m.0)

-- the bridges of a class; none where none are listed for it
abbrev pub listed : Option (List Bridge) → List Bridge
listed (Some bs) = bs
listed None = []

abbrev pub bridges_of : ErasedProgram → ClassId → List Bridge
bridges_of P k = listed (slice_get P.bridges k.0)
