-- Calls of methods and initialisations of classes are alike where bodies are.
use Rattle.std.proofs.Common.{◌≡◌, ℕ, List, [], ◌∷◌, refl, ap, sym, ◌∙◌, subst, Option, Some, None, map, zero, suc, ◌++◌, length, drop}
use Rattle.std.specs.Prelude.{Bool, true, false, if◌then◌else◌, slice_get}
use Rattle.std.proofs.lemmas.List.{drop-map}
use Rattle.jc_types.specs.declared.form.Ty.{Ty}
use Rattle.jc_types.specs.declared.ids.ClassId.{ClassId}
use Rattle.jc_types.specs.declared.ids.MethodId.{MethodId}
use Rattle.jc_types.specs.Accessors.{is_interface}
use Rattle.jc_types.specs.Erasing.{erasure}
use Rattle.jc_running.specs.declared.value.Value.{Value}
use Rattle.jc_running.specs.declared.value.Readiness.{Readiness}
use Rattle.jc_running.specs.declared.value.Readiness.TheVariants.{Untouched, Begun, Ready, Failed}
use Rattle.jc_running.specs.declared.value.Completion.{Completion}
use Rattle.jc_running.specs.declared.value.Completion.TheVariants.{Normal, Broke, Continued, Returned}
use Rattle.jc_running.specs.Outcomes.{bind, both_ways}
use Rattle.jc_heaps.specs.declared.state.Object.{Object}
use Rattle.jc_heaps.specs.Layout.{default_value}
use Rattle.jc_heaps.specs.Classes.{superclass_of, is_subclass, methods_class}
use Rattle.jc_heaps.specs.States.{in_frame}
use Rattle.jc_heaps.proofs.Erases as x
use Rattle.jc_typed.specs.declared.program.TypedMethod.{TypedMethod}
use Rattle.jc_typed.specs.declared.program.TypedProgram.{TypedProgram}
use Rattle.jc_meaning.specs.declared.frame.Frame.{Frame}
use Rattle.jc_meaning.specs.declared.frame.Read.{Read}
use Rattle.jc_meaning.specs.Kept.{TypedRun}
use Rattle.jc_meaning.specs.Programs.{begun_with, locals_in, initialiser_of}
use Rattle.jc_meaning.specs.Calls as t
use Rattle.jc_meaning.specs.Classes as tc
use Rattle.jc_erased.specs.declared.program.ErasedMethod.{ErasedMethod}
use Rattle.jc_erased.specs.declared.program.ErasedProgram.{ErasedProgram}
use Rattle.jc_erased.specs.Programs.{ErasedRun, tree_in}
use Rattle.jc_erased.specs.Calls as e
use Rattle.jc_erased.specs.Classes as ec
use Rattle.jc_erase_spec.specs.Meeting.{AreErasedMethods}
use Rattle.jc_erase_spec.proofs.Heaps as h
use Rattle.jc_erase_spec.proofs.Keeps as k

module _ (P : TypedProgram) where
  -- the default values of a method's variables, by its number
  defaults_at : (ms : List TypedMethod) (es : List ErasedMethod) → AreErasedMethods P ms es → (i : ℕ) →
      map default_value (locals_in (tree_in (slice_get es i))) ≡ map default_value (locals_in (slice_get ms i))
  defaults_at [] [] a i = refl
  defaults_at (m ∷ ms) (e ∷ es) a zero = (a.0).defaults
  defaults_at (m ∷ ms) (e ∷ es) a (suc i) = defaults_at ms es a.1 i
  defaults_at [] (e ∷ es) a i = absurd a
  defaults_at (m ∷ ms) [] a i = absurd a

  begins : (ms : List TypedMethod) (es : List ErasedMethod) → AreErasedMethods P ms es → (i : ℕ) (given : List Value) →
      begun_with (locals_in (slice_get ms i)) given ≡ begun_with (locals_in (tree_in (slice_get es i))) given
  begins ms es a i given =
      ap (λ vs. given ++ vs)
      (sym (drop-map default_value (length given) (locals_in (slice_get ms i)))
      ∙ (ap (drop (length given)) (sym (defaults_at ms es a i))
      ∙ drop-map default_value (length given) (locals_in (tree_in (slice_get es i)))))

-- an erased program over the table and the known classes of the typed one
abbrev pub over : TypedProgram → ErasedProgram → ErasedProgram
over P E = record E { table = P.table; known = P.known }

module _ (P : TypedProgram) (F : ErasedProgram) (A : AreErasedMethods P P.methods F.methods) where
  abbrev E : ErasedProgram
  E = over P F

  answers : (m : MethodId) (c : Completion) → k.Alike P.table (t.answer_of P m c) (e.answer_of E m c)
  answers m Normal = k.gives P.table _
  answers m (Broke target) = k.wrongs P.table
  answers m (Continued target) = k.wrongs P.table
  answers m (Returned v) = k.gives P.table v

  module _ (body : t.Bodies) (body' : e.Bodies) (B : (m : MethodId) → k.Alike P.table (body m) (body' m)) where
    pub runs : (m : MethodId) (o : Option (Object Ty)) (vs : List Value) (ts : List Ty) → k.Alike P.table (t.run_method P body m o vs ts) (e.run_method E body' m vs)
    runs m o vs ts =
        subst (λ ls. k.Alike P.table (t.run_method P body m o vs ts) (in_frame ls tt (bind (body' m) (e.answer_of E m)))) (begins P P.methods F.methods A m.0 vs)
        (record {
          same = h.erases_frame Ty Frame (List Read) (erasure P.table []) (t.first_locals P m vs) (t.frame_of P m o ts) (bind (body m) (t.answer_of P m)) (bind (body' m) (e.answer_of E m))
              (k.andso P.table (B m) (answers m)).same;
        })

    pub calls_static : (m : MethodId) (vs : List Value) (ts : List Ty) → k.Alike P.table (t.call_static P body m vs ts) (e.call_static E body' m vs)
    calls_static m vs ts = runs m None vs ts

    -- initialisations
    marks : (c : ClassId) (r : Readiness) → k.Alike P.table (tc.set_readiness c r) (ec.set_readiness c r)
    marks c r = record { same = λ u s. refl }

    if_then : {X : Type 0} (b : Bool) {m n : TypedRun X} {m' n' : ErasedRun X} → k.Alike P.table m m' → k.Alike P.table n n' → k.Alike P.table (if b then m else n) (if b then m' else n')
    if_then true em en = em
    if_then false em en = en

    error_alike : (a : ℕ) → k.Alike P.table (tc.as_error P a) (ec.as_error E a)
    error_alike a =
        k.objects P.table a (λ o. if_then (is_subclass P.table (methods_class (erasure P.table [] o.kept)) P.known.thrown.error)
        (k.throws P.table a) (k.raises P.table P.known.thrown.in_initialiser))

    module _ (ready : ClassId → TypedRun (Unit {0})) (ready' : ClassId → ErasedRun (Unit {0})) (R : (c : ClassId) → k.Alike P.table (ready c) (ready' c)) where
      if_super : (o : Option ClassId) → k.Alike P.table (tc.if_superclass ready o) (ec.if_superclass ready' o)
      if_super None = k.gives P.table tt
      if_super (Some c) = R c

      super_first : (c : ClassId) → k.Alike P.table (tc.superclass_first P ready c) (ec.superclass_first E ready' c)
      super_first c = if_then (is_interface P.table c) (k.gives P.table tt) (if_super (superclass_of P.table c))

      own : (o : Option MethodId) → k.Alike P.table (tc.run_initialiser P body o) (ec.run_initialiser E body' o)
      own None = k.gives P.table tt
      own (Some m) = k.andso P.table (calls_static m [] []) (λ v. k.gives P.table tt)

      both : {X Y : Type 0} {m : TypedRun X} {m' : ErasedRun X} {f : X → TypedRun Y} {f' : X → ErasedRun Y} {g : ℕ → TypedRun Y} {g' : ℕ → ErasedRun Y} →
          k.Alike P.table m m' → ((a : X) → k.Alike P.table (f a) (f' a)) → ((a : ℕ) → k.Alike P.table (g a) (g' a)) → k.Alike P.table (both_ways m f g) (both_ways m' f' g')
      both {m = m} {m' = m'} {f = f} {f' = f'} {g = g} {g' = g'} em ef eg = record { same = x.erases_both Ty Frame (List Read) (erasure P.table []) m m' f f' g g' em.same (λ a. (ef a).same) (λ a. (eg a).same) }

      pub initialises : (c : ClassId) → k.Alike P.table (tc.initialise P body ready c) (ec.initialise E body' ready' c)
      initialises c =
          k.andso P.table (marks c Begun) (λ _.
          both (super_first c)
          (λ _. both (own (initialiser_of P.table c)) (λ _. marks c Ready) (λ a. k.andso P.table (marks c Failed) (λ _. error_alike a)))
          (λ a. k.andso P.table (marks c Failed) (λ _. k.throws P.table a)))

  uses : {m : TypedRun (Unit {0})} {m' : ErasedRun (Unit {0})} → k.Alike P.table m m' → (r : Readiness) → k.Alike P.table (tc.use_class P m r) (ec.use_class E m' r)
  uses em Untouched = em
  uses em Begun = k.gives P.table tt
  uses em Ready = k.gives P.table tt
  uses em Failed = k.raises P.table P.known.thrown.no_class

  pub readies : (f : ClassId → TypedRun (Unit {0})) (f' : ClassId → ErasedRun (Unit {0})) → ((c : ClassId) → k.Alike P.table (f c) (f' c)) → (c : ClassId) → k.Alike P.table (tc.ready_by P f c) (ec.ready_by E f' c)
  readies f f' ef c =
      k.andso P.table (record { same = h.erases_look Ty Frame (List Read) (erasure P.table []) (λ s. slice_get s.classes c.0) (λ s. slice_get s.classes c.0) (λ s. refl) }) (uses (ef c))
