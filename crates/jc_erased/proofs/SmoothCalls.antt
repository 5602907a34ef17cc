-- Calls and steps are smooth in their units where the bodies that they run are.
use Rattle.std.proofs.Common.{ℕ, zero, suc, ◌+◌, List, [], ◌∷◌}
use Rattle.std.specs.Prelude.{Bool, true, false, Option, Some, None}
use Rattle.jc_types.specs.declared.form.Ty.{Ty}
use Rattle.jc_types.specs.declared.ids.ClassId.{ClassId}
use Rattle.jc_types.specs.declared.ids.MethodId.{MethodId}
use Rattle.jc_types.specs.declared.erased.Erased.{Erased}
use Rattle.jc_types.specs.Accessors.{class_count, params_of, result_of}
use Rattle.jc_running.specs.declared.value.Value.{Value}
use Rattle.jc_running.specs.declared.value.Value.TheVariants.{Address}
use Rattle.jc_running.specs.declared.seen.Check.TheVariants.{EntryGuard}
use Rattle.jc_running.specs.declared.value.Completion.{Completion}
use Rattle.jc_running.specs.declared.value.Completion.TheVariants.{Normal, Broke, Continued, Returned}
use Rattle.jc_running.specs.Outcomes.{give, wrong, bind}
use Rattle.jc_running.proofs.Smooth.{Smooth}
use Rattle.jc_heaps.specs.declared.state.Object.{Object}
use Rattle.jc_heaps.specs.States.{shown_of}
use Rattle.jc_heaps.specs.Classes.{is_of, same_erased, methods_class}
use Rattle.jc_heaps.specs.Numbers.{converted}
use Rattle.jc_heaps.proofs.Plain.{seq, soft}
use Rattle.jc_heaps.proofs.SmoothHeaps as h
use Rattle.jc_typed.specs.declared.program.BoxedIn.{BoxedIn}
use Rattle.jc_erased.specs.declared.program.ErasedProgram.{ErasedProgram}
use Rattle.jc_typed.specs.Trees.{Step, Widen, Narrow, BoxUp, Unbox, Up, Test}
use Rattle.jc_heaps.specs.Erases.{ErasedState}
use Rattle.jc_meaning.specs.Steps.{box_of}
use Rattle.jc_erased.specs.Programs.{ErasedRun, erased_keeping, erased_type, is_selected}
use Rattle.jc_erased.specs.Selecting.{Selected, Written, Across, selected}
use Rattle.jc_erased.specs.Calls.{Bodies, answer_of, run_method, call_static, call_direct, entered, entered_all, answered, call_found, call_named, call_selected, call_virtual}
use Rattle.jc_erased.specs.Steps.{Ready, boxed, step, steps}

module _ (D : ℕ) where
  abbrev pub Steady : {A : Type 0} → ErasedRun A → ErasedRun A → Type 0
  Steady m m' = Smooth ErasedState shown_of D 0 m m'

  pub andso : {A B : Type 0} {m m' : ErasedRun A} {f f' : A → ErasedRun B} → Steady m m' → ((a : A) → Steady (f a) (f' a)) → Steady (bind m f) (bind m' f')
  andso sm sf = seq ErasedState shown_of D sm sf

  pub gives : {A : Type 0} (a : A) → Steady (give a) (give a)
  gives a = h.gives Erased (Unit {0}) (Unit {0}) D a

  pub wrongs : {A : Type 0} → Steady {A = A} wrong wrong
  wrongs = h.wrongs Erased (Unit {0}) (Unit {0}) D

  answers : (P : ErasedProgram) (m : MethodId) (c : Completion) → Steady (answer_of P m c) (answer_of P m c)
  answers P m Normal = gives _
  answers P m (Broke t) = wrongs
  answers P m (Continued t) = wrongs
  answers P m (Returned v) = gives v

  module _ (P : ErasedProgram) where
    pub enters : (called own : Erased) (v : Value) → Steady (entered P called own v) (entered P called own v)
    enters called own v = h.chooses Erased (Unit {0}) (Unit {0}) D erased_keeping P.table P.known (same_erased called own) (gives v) (h.checks Erased (Unit {0}) (Unit {0}) D erased_keeping P.table P.known EntryGuard own v)

    pub enters_all : (cs os : List Ty) (vs : List Value) → Steady (entered_all P cs os vs) (entered_all P cs os vs)
    enters_all [] [] vs = gives vs
    enters_all [] (o ∷ os) vs = gives vs
    enters_all (c ∷ cs) [] vs = gives vs
    enters_all (c ∷ cs) (o ∷ os) [] = gives []
    enters_all (c ∷ cs) (o ∷ os) (v ∷ vs) = andso (enters (erased_type P c) (erased_type P o) v) (λ w. andso (enters_all cs os vs) (λ ws. gives (w ∷ ws)))

    pub answers_as : (c o : Option Ty) (v : Value) → Steady (answered P c o v) (answered P c o v)
    answers_as None None v = gives v
    answers_as None (Some o) v = gives v
    answers_as (Some c) None v = gives v
    answers_as (Some c) (Some o) v = h.chooses Erased (Unit {0}) (Unit {0}) D erased_keeping P.table P.known (is_of P.table (erased_type P o) (erased_type P c)) (gives v) (h.checks Erased (Unit {0}) (Unit {0}) D erased_keeping P.table P.known EntryGuard (erased_type P c) v)

    module _ (body body' : Bodies) (SB : (m : MethodId) → Smooth ErasedState shown_of D 1 (body m) (body' m)) where
      pub runs : (m : MethodId) (vs : List Value) → Steady (run_method P body m vs) (run_method P body' m vs)
      runs m vs = h.frames Erased (Unit {0}) (Unit {0}) D _ _ _ _ (andso (soft ErasedState shown_of D (SB m)) (answers P m))

      pub calls_static : (m : MethodId) (vs : List Value) → Steady (call_static P body m vs) (call_static P body' m vs)
      calls_static m vs = runs m vs

      pub calls_direct : (m : MethodId) (v : Value) (vs : List Value) → Steady (call_direct P body m v vs) (call_direct P body' m v vs)
      calls_direct m v vs = andso (h.addresses Erased (Unit {0}) (Unit {0}) D erased_keeping P.table P.known v) (λ a. andso (h.objects Erased (Unit {0}) (Unit {0}) D a) (λ o. runs m (Address a ∷ vs)))

      calls_found : {f f' : MethodId → List Value → ErasedRun Value} → ((m : MethodId) (vs : List Value) → Steady (f m vs) (f' m vs)) → (a : ℕ) (vs : List Value) (s : Option Selected) → Steady (call_found P body f a vs s) (call_found P body' f' a vs s)
      calls_found sf a vs None = wrongs
      calls_found sf a vs (Some (Written own)) = runs own (Address a ∷ vs)
      calls_found sf a vs (Some (Across b)) = andso (enters_all (params_of P.table b.called) (params_of P.table b.own) vs) (λ ws. andso (sf b.own ws) (answers_as (result_of P.table b.called) (result_of P.table b.own)))

      calls_named : (n a : ℕ) (o : Object Erased) (m : MethodId) (vs : List Value) → Steady (call_named P body n a o m vs) (call_named P body' n a o m vs)
      calls_named zero a o m vs = wrongs
      calls_named (suc n) a o m vs = calls_found (calls_named n a o) a vs (selected P (methods_class o.kept) m)

      calls_selected : (b : Bool) (a : ℕ) (o : Object Erased) (m : MethodId) (vs : List Value) → Steady (call_selected P body b a o m vs) (call_selected P body' b a o m vs)
      calls_selected false a o m vs = wrongs
      calls_selected true a o m vs = calls_named (class_count P.table + 2) a o m vs

      pub calls_virtual : (m : MethodId) (v : Value) (vs : List Value) → Steady (call_virtual P body m v vs) (call_virtual P body' m v vs)
      calls_virtual m v vs = andso (h.addresses Erased (Unit {0}) (Unit {0}) D erased_keeping P.table P.known v) (λ a. andso (h.objects Erased (Unit {0}) (Unit {0}) D a) (λ o. calls_selected (is_selected P (methods_class o.kept) m) a o m vs))

      module _ (ready ready' : Ready) (SR : (k : ClassId) → Steady (ready k) (ready' k)) where
        boxes : (box : BoxedIn) (v : Value) → Steady (boxed P body ready box v) (boxed P body' ready' box v)
        boxes box v = andso (SR box.class) (λ _. calls_static box.make (v ∷ []))

        pub one_step : (s : Step) (v : Value) → Steady (step P body ready s v) (step P body' ready' s v)
        one_step (Widen to) v = h.somes Erased (Unit {0}) (Unit {0}) D (converted to v)
        one_step (Narrow to) v = h.somes Erased (Unit {0}) (Unit {0}) D (converted to v)
        one_step (BoxUp p) v = boxes (box_of P.known.boxes p) v
        one_step (Unbox p) v = calls_direct (box_of P.known.boxes p).value v []
        one_step (Up t b) v = gives v
        one_step (Test check to) v = h.checks Erased (Unit {0}) (Unit {0}) D erased_keeping P.table P.known check to v

        pub all_steps : (ss : List Step) (v : Value) → Steady (steps P body ready ss v) (steps P body' ready' ss v)
        all_steps [] v = gives v
        all_steps (s ∷ ss) v = andso (one_step s v) (all_steps ss)
