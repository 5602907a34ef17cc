-- Calls of methods and constructors (JLS 15.12.4).
use Rattle.std.specs.Prelude.{ℕ, List, [], ◌∷◌, ◌++◌, Option, Some, None, if◌then◌else◌}
use Rattle.jc_types.specs.declared.ids.MethodId.{MethodId}
use Rattle.jc_types.specs.declared.form.Ty.{Ty}
use Rattle.jc_types.specs.declared.erased.Erased.{Erased}
use Rattle.jc_types.specs.Accessors.{method_vars_of, params_of, result_of}
use Rattle.jc_types.specs.Erasing.{erasure}
use Rattle.jc_running.specs.declared.value.Value.{Value}
use Rattle.jc_running.specs.declared.value.Value.TheVariants.{Address}
use Rattle.jc_running.specs.declared.seen.Check.TheVariants.{EntryGuard}
use Rattle.jc_running.specs.declared.value.Completion.{Completion}
use Rattle.jc_running.specs.declared.value.Completion.TheVariants.{Normal, Broke, Continued, Returned}
use Rattle.jc_running.specs.Outcomes.{give, wrong, bind}
use Rattle.jc_heaps.specs.declared.state.Object.{Object}
use Rattle.jc_heaps.specs.States.{object_at, in_frame}
use Rattle.jc_heaps.specs.Classes.{is_of, same_erased, methods_class}
use Rattle.jc_heaps.specs.Layout.{default_in}
use Rattle.jc_heaps.specs.Making.{address_of, checked}
use Rattle.jc_typed.specs.declared.program.TypedProgram.{TypedProgram}
use Rattle.jc_meaning.specs.declared.frame.Binding.{Binding}
use Rattle.jc_meaning.specs.declared.frame.Frame.{Frame}
use Rattle.jc_meaning.specs.Kept.{bindings, class_bindings, TypedRun, unsaid_all, typed_keeping}
use Rattle.jc_meaning.specs.Programs.{begun_with, captured_of, locals_of, method_class, selected}

-- what runs a method's body in its own variables
abbrev pub Bodies : Type 0
Bodies = MethodId → TypedRun Completion

-- A body's result. One that completes normally gives the default value of the result's type, which no caller of a method with a result
-- sees (JLS 8.4.7); where there is no result it is null, which nothing reads
abbrev pub answer_of : TypedProgram → MethodId → Completion → TypedRun Value
answer_of P m Normal = give (default_in (result_of P.table m))
answer_of P m (Broke target) = wrong
answer_of P m (Continued target) = wrong
answer_of P m (Returned v) = give v

-- the type parameters of the receiver's class, and of the method, with what they stand for in a call. Where a call gives no types for
-- a method's parameters, they stand for the null type (JLS 4.8, 15.12.2.6)
abbrev pub frame_with : TypedProgram → MethodId → List Binding → Frame
frame_with P m vars = record { method = m; variables = vars; captured = unsaid_all vars (captured_of P m) }

abbrev pub class_part : TypedProgram → MethodId → Option (Object Ty) → List Binding
class_part P m None = []
class_part P m (Some o) = class_bindings P.table (method_class P.table m) o.kept

abbrev pub frame_of : TypedProgram → MethodId → Option (Object Ty) → List Ty → Frame
frame_of P m receiver types = frame_with P m (class_part P m receiver ++ bindings (method_vars_of P.table m) types)

-- the variables of a method as it begins: the receiver, the arguments, and the others with the default values of their types
abbrev pub first_locals : TypedProgram → MethodId → List Value → List Value
first_locals P m given = begun_with (locals_of P m) given

-- the body in a frame and variables of its own; behind it the caller has its own again
abbrev pub run_method : TypedProgram → Bodies → MethodId → Option (Object Ty) → List Value → List Ty → TypedRun Value
run_method P body m receiver given types =
    in_frame (first_locals P m given) (frame_of P m receiver types) (bind (body m) (answer_of P m))

-- a static method, whose class is initialised by now (JLS 15.12.4.5)
abbrev pub call_static : TypedProgram → Bodies → MethodId → List Value → List Ty → TypedRun Value
call_static P body m args types = run_method P body m None args types

-- the body of the method itself, for an object (JLS 15.12.4.4); null throws
abbrev pub call_direct : TypedProgram → Bodies → MethodId → Value → List Value → List Ty → TypedRun Value
call_direct P body m receiver args types =
    bind (address_of (typed_keeping P.table) P.table P.known receiver) (λ a.
    bind (object_at a) (λ o. run_method P body m (Some o) (Address a ∷ args) types))

-- An argument is checked on entry where the erasure of the body's parameter isn't that of the called method's parameter (JLS 15.12.4.5)
abbrev pub entered : TypedProgram → Erased → Erased → Value → TypedRun Value
entered P called own v =
    if same_erased called own then give v else
    checked (typed_keeping P.table) P.table P.known EntryGuard own v

-- each argument by the declared types of its parameter
abbrev pub entered_all : TypedProgram → List Ty → List Ty → List Value → TypedRun (List Value)
entered_all P (c ∷ cs) (o ∷ os) (v ∷ vs) =
    bind (entered P (erasure P.table [] c) (erasure P.table [] o) v) (λ w.
    bind (entered_all P cs os vs) (λ ws. give (w ∷ ws)))
entered_all P _ _ vs = give vs

-- The result is checked where the erasure of the body's result isn't below that of the called method's
abbrev pub answered : TypedProgram → Option Ty → Option Ty → Value → TypedRun Value
answered P (Some called) (Some own) v =
    if is_of P.table (erasure P.table [] own) (erasure P.table [] called) then give v else
    checked (typed_keeping P.table) P.table P.known EntryGuard (erasure P.table [] called) v
answered P _ _ v = give v

-- the selected body; where the class has none, the program is none that was checked
abbrev pub call_selected : TypedProgram → Bodies → MethodId → Option MethodId → ℕ → Object Ty → List Value → List Ty → TypedRun Value
call_selected P body m None a o args types = wrong
call_selected P body m (Some own) a o args types =
    bind (entered_all P (params_of P.table m) (params_of P.table own) args) (λ vs.
    bind (run_method P body own (Some o) (Address a ∷ vs) types)
    (answered P (result_of P.table m) (result_of P.table own)))

-- the body that the class of the receiver selects (JLS 15.12.4.4); null throws
abbrev pub call_virtual : TypedProgram → Bodies → MethodId → Value → List Value → List Ty → TypedRun Value
call_virtual P body m receiver args types =
    bind (address_of (typed_keeping P.table) P.table P.known receiver) (λ a.
    bind (object_at a) (λ o.
    call_selected P body m (selected P (methods_class (erasure P.table [] o.kept)) m) a o args types))
