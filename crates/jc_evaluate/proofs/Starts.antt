-- How a run begins and ends: its first entries, and the units of its node.
use Rattle.std.proofs.Common.{◌≡◌, ℕ, ◌-◌, ◌<◌, List, [], ◌∷◌, ◌++◌, Result, refl, ap, subst, sym, ◌∙◌}
use Rattle.jc_types.specs.declared.ids.ClassId.{ClassId}
use Rattle.jc_types.specs.declared.ids.MethodId.{MethodId}
use Rattle.jc_types.specs.declared.form.Ty.{Ty}
use Rattle.jc_running.specs.declared.value.Value.{Value}
use Rattle.jc_running.specs.Outcomes.{Going, behind, leave, node}
use Rattle.jc_typed.specs.declared.program.TypedProgram.{TypedProgram}
use Rattle.jc_meaning.specs.Kept.{TypedState, TypedRun}
use Rattle.jc_meaning.specs.Meaning.{meaning}
use Rattle.jc_meaning.specs.Programs.{method_class}
use Rattle.jc_meaning.specs.Calls as c
use Rattle.jc_values.specs.declared.halt.Halt.{Halt}
use Rattle.jc_values.specs.declared.halt.Running.{Running}
use Rattle.jc_values.specs.Doing.{Does}
use Rattle.jc_pending.specs.Frames.{all_to_do, at_the_end}
use Rattle.jc_pending.specs.Leads.{given_on}
use Rattle.jc_pending.specs.declared.todo.Entry.{Entry}
use Rattle.jc_pending.specs.declared.todo.Given.TheVariants as g
use Rattle.jc_pending.specs.declared.todo.Level.{Level}
use Rattle.jc_pending.specs.declared.todo.Task.TheVariants as t
use Rattle.jc_pending.specs.declared.expressions.NothingTask.TheVariants as nt
use Rattle.jc_pending.specs.declared.calls.ClassTask.TheVariants as class
use Rattle.jc_pending.specs.declared.todo.Todo.TheVariants as todo
use Rattle.jc_pending.specs.declared.todo.Waiting.TheVariants as w
use Rattle.jc_pending.specs.declared.todo.ForNothing.TheVariants as n
use Rattle.jc_pending.specs.declared.calls.NothingToValue.TheVariants as nv
use Rattle.jc_evaluate.proofs.Ends.{spent_none, spent_one}

-- a class is made ready, and then a static method of it is called
pub call_begun : (P : TypedProgram) (r : Running) (level : Level) (m : MethodId) (args : List Value) (types : List Ty) (cls : ClassId) (none one two : List Entry)
    → types ≡ [] → cls ≡ method_class P.table m → none ≡ []
    → one ≡ none ++ record { level = level; todo = todo.Wait (w.Nothing (n.ToValue (nv.Call m args types))) } ∷ []
    → two ≡ one ++ record { level = level; todo = todo.Begin (t.Nothing (nt.Class (class.Ready cls))) } ∷ []
    → given_on (all_to_do P at_the_end two) g.Nothing r
    ≡ behind ((meaning P level.depth).ready (method_class P.table m)) (c.call_static P (meaning P level.depth).body m args []) r.units r.state
call_begun P r level m args types cls none one two et ec en eo ew = rw (ew, eo, en, ec, et) refl

-- without a unit a run is still going on as it begins
pub going_first : {A : Type 0} (m : TypedRun A) (n : ℕ) (s : TypedState) (r : Running) → n ≡ 0 → r.state ≡ s → node m n s ≡ Going r.state
going_first m n s r h e = spent_none (λ u t. leave (m u t)) n s h ∙ ap (λ (t : TypedState). Going t) (sym e)

-- else a unit is spent first, and one as the run is left
pub left_last : {A : Type 0} (m : TypedRun A) (n : ℕ) (s : TypedState) (r after : Running) (result : Result A Halt)
    → 0 < n → r.units ≡ n → r.state ≡ s → Does (leave (m (r.units - 1) r.state)) result after → Does (node m n s) result after
left_last m n s r after result positive eu es h =
    subst (λ o. Does o result after) (sym (spent_one (λ u t. leave (m u t)) n s positive))
    (subst (λ (t : TypedState). Does (leave (m (n - 1) t)) result after) es
    (subst (λ (u : ℕ). Does (leave (m (u - 1) r.state)) result after) eu h))
