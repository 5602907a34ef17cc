-- The erasure of a program runs like it.
use Rattle.std.proofs.Common.{◌≡◌, ℕ, zero, suc, List, [], ◌∷◌, refl, ap, sym, ◌∙◌, subst, Option, Some, None}
use Rattle.std.specs.Prelude.{slice_get}
use Rattle.std.specs.Option.{option_map}
use Rattle.std.proofs.lemmas.Option.{slice_get-map}
use Rattle.jc_types.specs.declared.form.Ty.{Ty}
use Rattle.jc_types.specs.declared.form.Ty.TheVariants.{Class}
use Rattle.jc_types.specs.declared.ids.ClassId.{ClassId}
use Rattle.jc_types.specs.declared.ids.MethodId.{MethodId}
use Rattle.jc_types.specs.declared.erased.Base.TheVariants as base
use Rattle.jc_types.specs.Arrays.{array_over}
use Rattle.jc_types.specs.Erasing.{erasure, plain, raised}
use Rattle.jc_running.specs.declared.value.Value.{Value}
use Rattle.jc_running.specs.declared.value.Value.TheVariants.{Address}
use Rattle.jc_running.specs.declared.seen.Ending.TheVariants.{Threw}
use Rattle.jc_running.specs.Outcomes.{Out, Val, Thrown, Exited, Going, Wrong, stop, node}
use Rattle.jc_heaps.specs.declared.state.Object.{Object}
use Rattle.jc_heaps.specs.Erases.{Erases, erase_object, erase_out}
use Rattle.jc_heaps.proofs.Erases as x
use Rattle.jc_typed.specs.declared.program.TypedProgram.{TypedProgram}
use Rattle.jc_meaning.specs.declared.frame.Frame.{Frame}
use Rattle.jc_meaning.specs.declared.frame.Read.{Read}
use Rattle.jc_meaning.specs.Kept.{TypedState}
use Rattle.jc_meaning.specs.Programs.{method_class}
use Rattle.jc_meaning.specs.Classes as tc
use Rattle.jc_meaning.specs.Meaning as t
use Rattle.jc_meaning.specs.Meaning.{meaning}
use Rattle.jc_erased.specs.declared.program.ErasedProgram.{ErasedProgram}
use Rattle.jc_erased.specs.Classes as ec
use Rattle.jc_erased.specs.Meaning as e
use Rattle.jc_erased.specs.Meaning.{meaning as erased_meaning}
use Rattle.jc_erase_spec.specs.Meeting.{AreErasedMethods, ErasuresRunAlike, IsErasureOf, RunsAlike}
use Rattle.jc_erase_spec.proofs.Keeps as k
use Rattle.jc_erase_spec.proofs.Calls as c
use Rattle.jc_erase_spec.proofs.Calls.{over}

-- the equation for each body
abbrev BodiesAlike : TypedProgram → ErasedProgram → Type 0
BodiesAlike P E = (d : ℕ) (m : MethodId) → Erases (erasure P.table []) ((meaning P d).body m) ((erased_meaning E d).body m)

module _ (P : TypedProgram) (F : ErasedProgram) (A : AreErasedMethods P P.methods F.methods) (B : BodiesAlike P (over P F)) where
  readies : (d : ℕ) (x : ClassId) → k.Alike P.table ((meaning P d).ready x) ((erased_meaning (over P F) d).ready x)
  unfolding meaning erased_meaning
  readies zero = c.readies P F A (λ x. stop) (λ x. stop) (λ x. record { same = λ u s. refl })
  readies (suc d) =
      c.readies P F A (λ x. node (tc.initialise P (meaning P d).body (meaning P d).ready x)) (λ x. node (ec.initialise (over P F) (erased_meaning (over P F) d).body (erased_meaning (over P F) d).ready x))
      (λ y. record {
        same = x.erases_node Ty Frame (List Read) (erasure P.table []) (tc.initialise P (meaning P d).body (meaning P d).ready y) (ec.initialise (over P F) (erased_meaning (over P F) d).body (erased_meaning (over P F) d).ready y)
            (c.initialises P F A (meaning P d).body (erased_meaning (over P F) d).body (λ m. record { same = B d m }) (meaning P d).ready (erased_meaning (over P F) d).ready (readies d) y).same;
      })

  statics_alike : (m : MethodId) (d : ℕ) → k.Alike P.table (t.run_static P m d) (e.run_static (over P F) m d)
  statics_alike m d = k.andso P.table (readies d (method_class P.table m)) (λ _. c.calls_static P F A (meaning P d).body (erased_meaning (over P F) d).body (λ m. record { same = B d m }) m [] [])

  strings : (texts : List (List ℕ)) → k.Alike P.table (t.argument_strings P texts) (e.argument_strings (over P F) texts)
  strings [] = k.gives P.table []
  strings (text ∷ texts) = k.andso P.table (k.makes_string P.table P.known text) (λ v. k.andso P.table (strings texts) (λ vs. k.gives P.table (v ∷ vs)))

  mains_alike : (m : MethodId) (args : List (List ℕ)) (d : ℕ) → k.Alike P.table (t.run_main P m args d) (e.run_main (over P F) m args d)
  mains_alike m args d =
      k.andso P.table (strings args) (λ vs.
      k.andso P.table (k.makes P.table (array_over 0 (Class P.known.string [])) (raised 1 (plain (base.Class P.known.string))) vs (k.plain_array P.table P.known.string)) (λ a.
      k.andso P.table (readies d (method_class P.table m)) (λ _. c.calls_static P F A (meaning P d).body (erased_meaning (over P F) d).body (λ m. record { same = B d m }) m (Address a ∷ []) [])))

  outcomes : (m : MethodId) (input : List ℕ) (n : ℕ) → erase_out (erasure P.table []) (t.outcome P m input n) ≡ e.outcome (over P F) m input n
  outcomes m input n = x.erases_node Ty Frame (List Read) (erasure P.table []) (t.run_static P m n) (e.run_static (over P F) m n) (statics_alike m n).same n (t.first_state P m input)

  main_outcomes : (m : MethodId) (args : List (List ℕ)) (input : List ℕ) (n : ℕ) → erase_out (erasure P.table []) (t.main_outcome P m args input n) ≡ e.main_outcome (over P F) m args input n
  main_outcomes m args input n = x.erases_node Ty Frame (List Read) (erasure P.table []) (t.run_main P m args n) (e.run_main (over P F) m args n) (mains_alike m args n).same n (t.first_state P m input)

  names : (o : Option (Object Ty)) → e.class_name (over P F) (option_map (erase_object (erasure P.table [])) o) ≡ t.class_name P o
  names None = refl
  names (Some o) = refl

  seens : (o : Out TypedState Value) → e.seen (over P F) (erase_out (erasure P.table []) o) ≡ t.seen P o
  seens (Val v u s) = refl
  seens (Thrown a u s) =
      ap (λ name. Some (record { output = s.shown.output; taken = s.shown.taken; ending = Threw name }))
      (ap (e.class_name (over P F)) (slice_get-map (erase_object (erasure P.table [])) s.heap a) ∙ names (slice_get s.heap a))
  seens (Exited code s) = refl
  seens (Going s) = refl
  seens Wrong = refl

  alike_over : RunsAlike P (over P F)
  alike_over = record {
    methods = outcomes;
    mains = main_outcomes;
    methods_seen = λ m input n. ap (e.seen (over P F)) (sym (outcomes m input n)) ∙ seens (t.outcome P m input n);
    mains_seen = λ m args input n. ap (e.seen (over P F)) (sym (main_outcomes m args input n)) ∙ seens (t.main_outcome P m args input n);
  }

-- a program that says the same of the table and of what is known is one over these
is_over : (P : TypedProgram) (E : ErasedProgram) → IsErasureOf P E → over P E ≡ E
is_over P E I = ap (λ T. record E { table = T; known = P.known }) (sym I.table) ∙ ap (λ known. record E { known = known }) (sym I.known)

pub runs_alike : ErasuresRunAlike
runs_alike P E I =
    subst (RunsAlike P) (is_over P E I)
    (alike_over P E I.methods (subst (BodiesAlike P) (sym (is_over P E I)) I.bodies))
