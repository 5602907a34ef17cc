-- Calls of methods and constructors (JLS 15.12.4, JVMS 6.5).
use Rattle.std.specs.Prelude.{◌≡◌, ℕ, zero, suc, ◌+◌, Bool, true, false, List, ◌∷◌, Option, Some, None, slice_get, if◌then◌else◌}
use Rattle.jc_types.specs.declared.ids.MethodId.{MethodId}
use Rattle.jc_types.specs.declared.form.Ty.{Ty}
use Rattle.jc_types.specs.declared.erased.Erased.{Erased}
use Rattle.jc_types.specs.Accessors.{class_count, params_of, result_of}
use Rattle.jc_running.specs.declared.value.Value.{Value}
use Rattle.jc_running.specs.declared.value.Value.TheVariants.{Address}
use Rattle.jc_running.specs.declared.seen.Check.TheVariants.{EntryGuard}
use Rattle.jc_running.specs.declared.value.Completion.{Completion}
use Rattle.jc_running.specs.declared.value.Completion.TheVariants.{Normal, Broke, Continued, Returned}
use Rattle.jc_running.specs.Outcomes.{give, wrong, bind}
use Rattle.jc_heaps.specs.declared.state.Object.{Object}
use Rattle.jc_heaps.specs.Erases.{ErasedState}
use Rattle.jc_heaps.specs.States.{object_at, in_frame}
use Rattle.jc_heaps.specs.Classes.{is_of, same_erased, methods_class}
use Rattle.jc_heaps.specs.Layout.{default_in}
use Rattle.jc_heaps.specs.Making.{address_of, checked}
use Rattle.jc_meaning.specs.Programs.{begun_with}
use Rattle.jc_erased.specs.declared.program.ErasedProgram.{ErasedProgram}
use Rattle.jc_erased.specs.Programs.{ErasedRun, erased_keeping, erased_type, is_selected, locals_of}
use Rattle.jc_erased.specs.Selecting.{Selected, Written, Across, selected}

-- what runs a method's body in its own variables
abbrev pub Bodies : Type 0
Bodies = MethodId → ErasedRun Completion

-- A body's result. One that completes normally gives the default value of the result's type, which no caller of a method with a result
-- sees (JLS 8.4.7); where there is no result it is null, which nothing reads
abbrev pub answer_of : ErasedProgram → MethodId → Completion → ErasedRun Value
answer_of P m Normal = give (default_in (result_of P.table m))
answer_of P m (Broke target) = wrong
answer_of P m (Continued target) = wrong
answer_of P m (Returned v) = give v

-- the variables of a method as it begins: the receiver, the arguments, and the others with the default values of their types
abbrev pub first_locals : ErasedProgram → MethodId → List Value → List Value
first_locals P m given = begun_with (locals_of P m) given

-- the body in variables of its own; behind it the caller has its own again
abbrev pub run_method : ErasedProgram → Bodies → MethodId → List Value → ErasedRun Value
run_method P body m given = in_frame (first_locals P m given) tt (bind (body m) (answer_of P m))

-- a static method, whose class is initialised by now (invokestatic)
abbrev pub call_static : ErasedProgram → Bodies → MethodId → List Value → ErasedRun Value
call_static P body m args = run_method P body m args

-- the body of the method itself, for an object (invokespecial, and calls of private methods); null throws
abbrev pub call_direct : ErasedProgram → Bodies → MethodId → Value → List Value → ErasedRun Value
call_direct P body m receiver args =
    bind (address_of erased_keeping P.table P.known receiver) (λ a.
    bind (object_at a) (λ o. run_method P body m (Address a ∷ args)))

-- A bridge checks an argument where the erasure of its own parameter isn't that of the method that it leads to
abbrev pub entered : ErasedProgram → Erased → Erased → Value → ErasedRun Value
entered P called own v =
    if same_erased called own then give v else
    checked erased_keeping P.table P.known EntryGuard own v

-- each argument by the declared types of its parameter
abbrev pub entered_all : ErasedProgram → List Ty → List Ty → List Value → ErasedRun (List Value)
entered_all P (c ∷ cs) (o ∷ os) (v ∷ vs) =
    bind (entered P (erased_type P c) (erased_type P o) v) (λ w.
    bind (entered_all P cs os vs) (λ ws. give (w ∷ ws)))
entered_all P _ _ vs = give vs

-- .. and the result where its erasure isn't below that of the bridge's own result
abbrev pub answered : ErasedProgram → Option Ty → Option Ty → Value → ErasedRun Value
answered P (Some called) (Some own) v =
    if is_of P.table (erased_type P own) (erased_type P called) then give v else
    checked erased_keeping P.table P.known EntryGuard (erased_type P called) v
answered P _ _ v = give v

-- what a call does that found a method, a bridge or nothing; `further` calls what a bridge leads to
abbrev pub call_found : ErasedProgram → Bodies → (MethodId → List Value → ErasedRun Value) → ℕ → List Value → Option Selected → ErasedRun Value
call_found P body further a args None = wrong
call_found P body further a args (Some (Written own)) = run_method P body own (Address a ∷ args)
call_found P body further a args (Some (Across b)) =
    bind (entered_all P (params_of P.table b.called) (params_of P.table b.own) args) (λ vs.
    bind (further b.own vs) (answered P (result_of P.table b.called) (result_of P.table b.own)))

-- A call by name and descriptor for an object at an address, by way of at most n bridges. A bridge spends no unit
abbrev pub call_named : ErasedProgram → Bodies → ℕ → ℕ → Object Erased → MethodId → List Value → ErasedRun Value
call_named P body zero a o m args = wrong
call_named P body (suc n) a o m args =
    call_found P body (call_named P body n a o) a args (selected P (methods_class o.kept) m)

-- The method that the class of the receiver selects (invokevirtual, invokeinterface), by way of no more bridges than classes could make
-- follow one another. Where the class has no body for the called method, the program is none that was checked; null throws
abbrev pub call_selected : ErasedProgram → Bodies → Bool → ℕ → Object Erased → MethodId → List Value → ErasedRun Value
call_selected P body false a o m args = wrong
call_selected P body true a o m args = call_named P body (class_count P.table + 2) a o m args

abbrev pub call_virtual : ErasedProgram → Bodies → MethodId → Value → List Value → ErasedRun Value
call_virtual P body m receiver args =
    bind (address_of erased_keeping P.table P.known receiver) (λ a.
    bind (object_at a) (λ o. call_selected P body (is_selected P (methods_class o.kept) m) a o m args))

-- the object at an address is of a class that selects no body for a method
abbrev pub IsUnselected : ErasedProgram → MethodId → ℕ → ErasedState → Type 0
IsUnselected P m a s = (o : Object Erased) × (slice_get s.heap a ≡ Some o) × (is_selected P (methods_class o.kept) m ≡ false)
