-- Calls are alike where bodies are: the erased program goes by name and descriptor to the body that the typed one selects.
use Rattle.std.proofs.Common.{◌≡◌, ℕ, List, [], ◌∷◌, refl, sym, ◌∙◌, subst, Option, Some, None}
use Rattle.std.specs.Prelude.{is_some, slice_get}
use Rattle.jc_types.specs.declared.erased.Erased.{Erased}
use Rattle.jc_types.specs.declared.form.Ty.{Ty}
use Rattle.jc_types.specs.declared.ids.ClassId.{ClassId}
use Rattle.jc_types.specs.declared.ids.MethodId.{MethodId}
use Rattle.jc_types.specs.Accessors.{params_of, result_of}
use Rattle.jc_types.specs.Erasing.{erasure}
use Rattle.jc_running.specs.declared.seen.Check.TheVariants.{EntryGuard}
use Rattle.jc_running.specs.declared.value.Value.{Value}
use Rattle.jc_running.specs.declared.value.Value.TheVariants.{Address}
use Rattle.jc_running.specs.Outcomes.{bind}
use Rattle.jc_heaps.specs.declared.state.Object.{Object}
use Rattle.jc_heaps.specs.Classes.{is_of, methods_class, same_erased}
use Rattle.jc_heaps.specs.Erases.{erase_object, erase_state}
use Rattle.jc_typed.specs.declared.program.TypedProgram.{TypedProgram}
use Rattle.jc_meaning.specs.Calls as t
use Rattle.jc_meaning.specs.Programs.{selected, selected_of}
use Rattle.jc_bridges_laws.specs.Bodies.{HasBodies}
use Rattle.jc_bridges_call_laws.specs.Calls.{HasBridges}
use Rattle.jc_bridges_call_laws.proofs.Calling.{calls_run}
use Rattle.jc_erased.specs.declared.program.ErasedProgram.{ErasedProgram}
use Rattle.jc_erased.specs.Calls as e
use Rattle.jc_erase_spec.specs.Meeting.{AreErasedMethods}
use Rattle.jc_erase_spec.proofs.Calls as c
use Rattle.jc_erase_spec.proofs.Calls.{over}
use Rattle.jc_erase_spec.proofs.Keeps as k
use Rattle.jc_erase_laws.specs.Firm.{FirmMethods}
use Rattle.jc_erase_laws.specs.Theorem.{SelectsBodies}
use Rattle.jc_erase_laws.proofs.Made as made

-- what the equation is drawn from, for an erased program over the table and the known classes of the typed one
pub record Premises (P : TypedProgram) (F : ErasedProgram) : Type 0 where
  pub selections : F.selections ≡ P.selections
  pub methods : AreErasedMethods P P.methods F.methods
  pub bridged : HasBridges (over P F)
  pub firm : FirmMethods P.table P.methods
  pub bodies : HasBodies P.table
  pub selects : SelectsBodies P

module _ (P : TypedProgram) (F : ErasedProgram) (H : Premises P F) (body : t.Bodies) (body' : e.Bodies) (B : (m : MethodId) → k.Alike P.table (body m) (body' m)) where
  pub runs : (m : MethodId) (o : Option (Object Ty)) (vs : List Value) (ts : List Ty) → k.Alike P.table (t.run_method P body m o vs ts) (e.run_method (over P F) body' m vs)
  runs m o vs ts = c.runs P F H.methods body body' B m o vs ts

  pub statics : (m : MethodId) (vs : List Value) (ts : List Ty) → k.Alike P.table (t.call_static P body m vs ts) (e.call_static (over P F) body' m vs)
  statics m vs ts = runs m None vs ts

  pub directs : (m : MethodId) (v : Value) (vs : List Value) (ts : List Ty) → k.Alike P.table (t.call_direct P body m v vs ts) (e.call_direct (over P F) body' m v vs)
  directs m v vs ts = k.andso P.table (k.addresses P.table P.known v) (λ a. k.objects P.table a (λ o. runs m (Some o) (Address a ∷ vs) ts))

  enters : (called own : Erased) (v : Value) → k.Alike P.table (t.entered P called own v) (e.entered (over P F) called own v)
  enters called own v = made.if_alike P.table (same_erased called own) (k.gives P.table v) (made.checks P.table P.known EntryGuard own v)

  all_enter : (cs os : List Ty) (vs : List Value) → k.Alike P.table (t.entered_all P cs os vs) (e.entered_all (over P F) cs os vs)
  all_enter (x ∷ cs) (o ∷ os) (v ∷ vs) =
      k.andso P.table (enters (erasure P.table [] x) (erasure P.table [] o) v) (λ w.
      k.andso P.table (all_enter cs os vs) (λ ws. k.gives P.table (w ∷ ws)))
  all_enter [] os vs = k.gives P.table vs
  all_enter (x ∷ cs) [] vs = k.gives P.table vs
  all_enter (x ∷ cs) (o ∷ os) [] = k.gives P.table []

  answers : (called own : Option Ty) (v : Value) → k.Alike P.table (t.answered P called own v) (e.answered (over P F) called own v)
  answers (Some called) (Some own) v =
      made.if_alike P.table (is_of P.table (erasure P.table [] own) (erasure P.table [] called)) (k.gives P.table v)
      (made.checks P.table P.known EntryGuard (erasure P.table [] called) v)
  answers (Some called) None v = k.gives P.table v
  answers None own v = k.gives P.table v

  module _ (m : MethodId) (a : ℕ) (o : Object Ty) (vs : List Value) (ts : List Ty) where
    abbrev at_class : ClassId
    at_class = methods_class (erasure P.table [] o.kept)

    by_body : (own : Option MethodId) → selected P at_class m ≡ own →
        k.Alike P.table (t.call_selected P body m own a o vs ts) (e.call_selected (over P F) body' (is_some own) a (erase_object (erasure P.table []) o) m vs)
    by_body None is = k.wrongs P.table
    by_body (Some own) is =
        let found = H.selects at_class m own is in
        let whole : k.Alike P.table (t.call_selected P body m (Some own) a o vs ts)
        (bind (e.entered_all (over P F) (params_of P.table m) (params_of P.table own) vs) (λ ws.
        bind (e.run_method (over P F) body' own (Address a ∷ ws)) (e.answered (over P F) (result_of P.table m) (result_of P.table own)))) =
        k.andso P.table (all_enter (params_of P.table m) (params_of P.table own) vs) (λ ws.
        k.andso P.table (runs own (Some o) (Address a ∷ ws) ts) (answers (result_of P.table m) (result_of P.table own))) in
        record { same = λ u s. whole.same u s ∙ sym (calls_run (over P F) H.bridged H.bodies body' a (erase_object (erasure P.table []) o) m own vs found.0 found.1 u (erase_state (erasure P.table []) s)) }

    selects : k.Alike P.table (t.call_selected P body m (selected P at_class m) a o vs ts) (e.call_selected (over P F) body' (is_some (selected_of m (slice_get F.selections at_class.0))) a (erase_object (erasure P.table []) o) m vs)
    selects =
        subst (λ ss. k.Alike P.table (t.call_selected P body m (selected P at_class m) a o vs ts) (e.call_selected (over P F) body' (is_some (selected_of m (slice_get ss at_class.0))) a (erase_object (erasure P.table []) o) m vs))
        (sym H.selections) (by_body (selected P at_class m) refl)

  pub virtuals : (m : MethodId) (v : Value) (vs : List Value) (ts : List Ty) → k.Alike P.table (t.call_virtual P body m v vs ts) (e.call_virtual (over P F) body' m v vs)
  virtuals m v vs ts = k.andso P.table (k.addresses P.table P.known v) (λ a. k.objects P.table a (λ o. selects m a o vs ts))
