-- Calls and steps are smooth in their units where the bodies that they run are.
use Rattle.std.proofs.Common.{ℕ, List, [], ◌∷◌}
use Rattle.std.specs.Prelude.{Option, Some, None}
use Rattle.jc_types.specs.declared.form.Ty.{Ty}
use Rattle.jc_types.specs.declared.ids.ClassId.{ClassId}
use Rattle.jc_types.specs.declared.ids.MethodId.{MethodId}
use Rattle.jc_types.specs.declared.erased.Erased.{Erased}
use Rattle.jc_types.specs.Accessors.{params_of, result_of}
use Rattle.jc_types.specs.Erasing.{erasure}
use Rattle.jc_running.specs.declared.value.Value.{Value}
use Rattle.jc_running.specs.declared.value.Value.TheVariants.{Address}
use Rattle.jc_running.specs.declared.seen.Check.TheVariants.{EntryGuard}
use Rattle.jc_running.specs.declared.value.Completion.{Completion}
use Rattle.jc_running.specs.declared.value.Completion.TheVariants.{Normal, Broke, Continued, Returned}
use Rattle.jc_running.specs.Outcomes.{give, wrong, bind}
use Rattle.jc_running.proofs.Smooth.{Smooth}
use Rattle.jc_heaps.specs.declared.state.Object.{Object}
use Rattle.jc_heaps.specs.States.{shown_of}
use Rattle.jc_heaps.specs.Classes.{is_of, same_erased, methods_class}
use Rattle.jc_heaps.specs.Numbers.{converted}
use Rattle.jc_heaps.proofs.Plain.{seq, soft}
use Rattle.jc_heaps.proofs.SmoothHeaps as h
use Rattle.jc_typed.specs.declared.program.BoxedIn.{BoxedIn}
use Rattle.jc_typed.specs.declared.program.TypedProgram.{TypedProgram}
use Rattle.jc_typed.specs.Trees.{Step, Widen, Narrow, BoxUp, Unbox, Up, Test}
use Rattle.jc_meaning.specs.declared.frame.Frame.{Frame}
use Rattle.jc_meaning.specs.declared.frame.Read.{Read}
use Rattle.jc_meaning.specs.Kept.{TypedState, TypedRun, typed_keeping}
use Rattle.jc_meaning.specs.Programs.{selected}
use Rattle.jc_meaning.specs.Calls.{Bodies, answer_of, run_method, call_static, call_direct, entered, entered_all, answered, call_selected, call_virtual}
use Rattle.jc_meaning.specs.Steps.{Ready, box_of, boxed, step, steps}

module _ (D : ℕ) where
  abbrev pub Steady : {A : Type 0} → TypedRun A → TypedRun A → Type 0
  Steady m m' = Smooth TypedState shown_of D 0 m m'

  pub andso : {A B : Type 0} {m m' : TypedRun A} {f f' : A → TypedRun B} → Steady m m' → ((a : A) → Steady (f a) (f' a)) → Steady (bind m f) (bind m' f')
  andso sm sf = seq TypedState shown_of D sm sf

  pub gives : {A : Type 0} (a : A) → Steady (give a) (give a)
  gives a = h.gives Ty Frame (List Read) D a

  pub wrongs : {A : Type 0} → Steady {A = A} wrong wrong
  wrongs = h.wrongs Ty Frame (List Read) D

  answers : (P : TypedProgram) (m : MethodId) (c : Completion) → Steady (answer_of P m c) (answer_of P m c)
  answers P m Normal = gives _
  answers P m (Broke t) = wrongs
  answers P m (Continued t) = wrongs
  answers P m (Returned v) = gives v

  module _ (P : TypedProgram) where
    pub enters : (called own : Erased) (v : Value) → Steady (entered P called own v) (entered P called own v)
    enters called own v = h.chooses Ty Frame (List Read) D (typed_keeping P.table) P.table P.known (same_erased called own) (gives v) (h.checks Ty Frame (List Read) D (typed_keeping P.table) P.table P.known EntryGuard own v)

    pub enters_all : (cs os : List Ty) (vs : List Value) → Steady (entered_all P cs os vs) (entered_all P cs os vs)
    enters_all [] [] vs = gives vs
    enters_all [] (o ∷ os) vs = gives vs
    enters_all (c ∷ cs) [] vs = gives vs
    enters_all (c ∷ cs) (o ∷ os) [] = gives []
    enters_all (c ∷ cs) (o ∷ os) (v ∷ vs) = andso (enters (erasure P.table [] c) (erasure P.table [] o) v) (λ w. andso (enters_all cs os vs) (λ ws. gives (w ∷ ws)))

    pub answers_as : (c o : Option Ty) (v : Value) → Steady (answered P c o v) (answered P c o v)
    answers_as None None v = gives v
    answers_as None (Some o) v = gives v
    answers_as (Some c) None v = gives v
    answers_as (Some c) (Some o) v = h.chooses Ty Frame (List Read) D (typed_keeping P.table) P.table P.known (is_of P.table (erasure P.table [] o) (erasure P.table [] c)) (gives v) (h.checks Ty Frame (List Read) D (typed_keeping P.table) P.table P.known EntryGuard (erasure P.table [] c) v)

    module _ (body body' : Bodies) (SB : (m : MethodId) → Smooth TypedState shown_of D 1 (body m) (body' m)) where
      pub runs : (m : MethodId) (o : Option (Object Ty)) (vs : List Value) (ts : List Ty) → Steady (run_method P body m o vs ts) (run_method P body' m o vs ts)
      runs m o vs ts = h.frames Ty Frame (List Read) D _ _ _ _ (andso (soft TypedState shown_of D (SB m)) (answers P m))

      pub calls_static : (m : MethodId) (vs : List Value) (ts : List Ty) → Steady (call_static P body m vs ts) (call_static P body' m vs ts)
      calls_static m vs ts = runs m None vs ts

      pub calls_direct : (m : MethodId) (v : Value) (vs : List Value) (ts : List Ty) → Steady (call_direct P body m v vs ts) (call_direct P body' m v vs ts)
      calls_direct m v vs ts = andso (h.addresses Ty Frame (List Read) D (typed_keeping P.table) P.table P.known v) (λ a. andso (h.objects Ty Frame (List Read) D a) (λ o. runs m (Some o) (Address a ∷ vs) ts))

      calls_selected : (m : MethodId) (own : Option MethodId) (a : ℕ) (o : Object Ty) (vs : List Value) (ts : List Ty) → Steady (call_selected P body m own a o vs ts) (call_selected P body' m own a o vs ts)
      calls_selected m None a o vs ts = wrongs
      calls_selected m (Some own) a o vs ts = andso (enters_all (params_of P.table m) (params_of P.table own) vs) (λ ws. andso (runs own (Some o) (Address a ∷ ws) ts) (answers_as (result_of P.table m) (result_of P.table own)))

      pub calls_virtual : (m : MethodId) (v : Value) (vs : List Value) (ts : List Ty) → Steady (call_virtual P body m v vs ts) (call_virtual P body' m v vs ts)
      calls_virtual m v vs ts = andso (h.addresses Ty Frame (List Read) D (typed_keeping P.table) P.table P.known v) (λ a. andso (h.objects Ty Frame (List Read) D a) (λ o. calls_selected m (selected P (methods_class (erasure P.table [] o.kept)) m) a o vs ts))

      module _ (ready ready' : Ready) (SR : (k : ClassId) → Steady (ready k) (ready' k)) where
        boxes : (box : BoxedIn) (v : Value) → Steady (boxed P body ready box v) (boxed P body' ready' box v)
        boxes box v = andso (SR box.class) (λ _. calls_static box.make (v ∷ []) [])

        pub one_step : (s : Step) (v : Value) → Steady (step P body ready s v) (step P body' ready' s v)
        one_step (Widen to) v = h.somes Ty Frame (List Read) D (converted to v)
        one_step (Narrow to) v = h.somes Ty Frame (List Read) D (converted to v)
        one_step (BoxUp p) v = boxes (box_of P.known.boxes p) v
        one_step (Unbox p) v = calls_direct (box_of P.known.boxes p).value v [] []
        one_step (Up t b) v = gives v
        one_step (Test check to) v = h.checks Ty Frame (List Read) D (typed_keeping P.table) P.table P.known check to v

        pub all_steps : (ss : List Step) (v : Value) → Steady (steps P body ready ss v) (steps P body' ready' ss v)
        all_steps [] v = gives v
        all_steps (s ∷ ss) v = andso (one_step s v) (all_steps ss)
