-- What leads to an outcome, and what a stack of entries makes of it.
use Rattle.std.proofs.Common.{◌≡◌, ℕ, List, [], ◌∷◌, ◌++◌, Result, Ok, ap, refl, subst, sym, ◌∙◌}
use Rattle.jc_running.specs.declared.value.Value.{Value}
use Rattle.jc_running.specs.Outcomes.{Out, Val, Thrown, Wrong}
use Rattle.jc_typed.specs.declared.nodes.Node.{Node}
use Rattle.jc_typed.specs.declared.program.TypedProgram.{TypedProgram}
use Rattle.jc_meaning.specs.Kept.{TypedState}
use Rattle.jc_values.specs.declared.halt.Halt.{Halt}
use Rattle.jc_values.specs.declared.halt.Halt.TheVariants as halt
use Rattle.jc_values.specs.declared.halt.Running.{Running}
use Rattle.jc_pending.specs.Frames.{Rest, all_to_do, at_the_end, begun, entry_to_do, left_to_do}
use Rattle.jc_pending.specs.Leads.{Coherent, GivenLeads, HaltLeads, Leads}
use Rattle.jc_pending.specs.Level.{nodes_of}
use Rattle.jc_pending.specs.declared.todo.Entry.{Entry}
use Rattle.jc_pending.specs.declared.todo.Given.{Given}
use Rattle.jc_pending.specs.declared.todo.Level.{Level}
use Rattle.jc_pending.specs.declared.todo.Next.{Next}
use Rattle.jc_pending.specs.declared.todo.Task.{Task}
use Rattle.jc_pending.specs.declared.todo.Todo.{Todo}
use Rattle.jc_pending.specs.declared.todo.Todo.TheVariants as todo
use Rattle.jc_pending.specs.declared.todo.Waiting.{Waiting}
use Rattle.jc_pending.proofs.Coherence.{all_coherent, all_more, begin_passes, end_coherent, todo_exits, todo_goes, todo_wrongs, wait_passes}

-- what leads to an outcome leads to what equals it
pub leads_on : (P : TypedProgram) (ns : List Node) (d : ℕ) (k : Rest) (x : Result Next Halt) (r : Running) (o w : Out TypedState Value)
    → o ≡ w → Leads P ns d k x r o → Leads P ns d k x r w
leads_on P ns d k x r o w e h = subst (λ q. Leads P ns d k x r q) e h

-- something else than what is waited for ends the run as one of no checked program
pub unfit_ends : (P : TypedProgram) (ns : List Node) (d : ℕ) (k : Rest) (x : Todo) (o : Out TypedState Value)
    → Coherent k → o ≡ (left_to_do P ns d x k).value Wrong → k.value Wrong ≡ o
unfit_ends P ns d k x o coherent e = sym (e ∙ todo_wrongs P ns d k coherent x)

-- all that is left to do on a stack
pub stack_coherent : (P : TypedProgram) (es : List Entry) → Coherent (all_to_do P at_the_end es)
stack_coherent P es = all_coherent P at_the_end es end_coherent

-- an entry that was put on a stack comes first, and one that was taken from it came first
pub put_on : (P : TypedProgram) (es new : List Entry) (x : Entry) (now : Result Given Halt) (r : Running) (w : Out TypedState Value)
    → new ≡ es ++ x ∷ [] → GivenLeads (entry_to_do P x (all_to_do P at_the_end es)) now r w → GivenLeads (all_to_do P at_the_end new) now r w
put_on P es new x now r w e h = subst (λ k. GivenLeads k now r w) (sym (ap (all_to_do P at_the_end) e ∙ all_more P at_the_end es x)) h

pub taken_from : (P : TypedProgram) (old es : List Entry) (x : Entry) (now : Result Given Halt) (r : Running) (w : Out TypedState Value)
    → old ≡ es ++ x ∷ [] → GivenLeads (all_to_do P at_the_end old) now r w → GivenLeads (entry_to_do P x (all_to_do P at_the_end es)) now r w
taken_from P old es x now r w e h = subst (λ k. GivenLeads k now r w) (ap (all_to_do P at_the_end) e ∙ all_more P at_the_end es x) h

-- .. with what is left to do behind it
pub put_behind : (P : TypedProgram) (es new : List Entry) (level : Level) (x : Todo) (ns : List Node) (d : ℕ) (task : Task) (r : Running) (w : Out TypedState Value)
    → new ≡ es ++ record { level = level; todo = x } ∷ []
    → begun P ns d task (left_to_do P (nodes_of P level.method) level.depth x (all_to_do P at_the_end es)) (Val tt r.units r.state) ≡ w
    → begun P ns d task (all_to_do P at_the_end new) (Val tt r.units r.state) ≡ w
put_behind P es new level x ns d task r w e h =
    subst (λ k. begun P ns d task k (Val tt r.units r.state) ≡ w)
    (sym (ap (all_to_do P at_the_end) e ∙ all_more P at_the_end es (record { level = level; todo = x }))) h

-- where nothing is left to do, the run is at its end
pub none_left : (P : TypedProgram) (es : List Entry) (now : Result Given Halt) (r : Running) (w : Out TypedState Value)
    → es ≡ [] → GivenLeads (all_to_do P at_the_end es) now r w → GivenLeads at_the_end now r w
none_left P es now r w e h = subst (λ (x : List Entry). GivenLeads (all_to_do P at_the_end x) now r w) e h

-- what goes on over nodes goes on over the nodes of the method, which they are
pub over_nodes : (P : TypedProgram) (ns : List Node) (level : Level) (x : Todo) (k : Rest) (now : Result Given Halt) (r : Running) (next : Result Next Halt) (after : Running) (w : Out TypedState Value)
    → Coherent k → ns ≡ nodes_of P level.method
    → ((k : Rest) → Coherent k → (w : Out TypedState Value) → GivenLeads (left_to_do P ns level.depth x k) now r w → Leads P ns level.depth k next after w)
    → GivenLeads (left_to_do P (nodes_of P level.method) level.depth x k) now r w → Leads P (nodes_of P level.method) level.depth k next after w
over_nodes P ns level x k now r next after w coherent e h given =
    subst (λ (ms : List Node). Leads P ms level.depth k next after w) e
    (h k coherent w (subst (λ (ms : List Node). GivenLeads (left_to_do P ms level.depth x k) now r w) (sym e) given))

-- a step, and what was given, by what a match found
pub step_is : (P : TypedProgram) (ns : List Node) (d : ℕ) (k : Rest) (x y : Result Next Halt) (r : Running) (w : Out TypedState Value)
    → x ≡ y → Leads P ns d k x r w → Leads P ns d k y r w
step_is P ns d k x y r w e h = subst (λ (z : Result Next Halt). Leads P ns d k z r w) e h

pub step_in : (P : TypedProgram) (ns : List Node) (d : ℕ) (k : Rest) (x : Result Next Halt) (n m : Next) (r : Running) (w : Out TypedState Value)
    → x ≡ Ok n → n ≡ m → Leads P ns d k x r w → Leads P ns d k (Ok m) r w
step_in P ns d k x n m r w e f h = subst (λ (z : Next). Leads P ns d k (Ok z) r w) f (step_is P ns d k x (Ok n) r w e h)

pub given_is : (k : Rest) (x y : Result Given Halt) (r : Running) (w : Out TypedState Value) → x ≡ y → GivenLeads k x r w → GivenLeads k y r w
given_is k x y r w e h = subst (λ (z : Result Given Halt). GivenLeads k z r w) e h

pub halt_is : (k : Rest) (g h : Halt) (r : Running) (w : Out TypedState Value) → g ≡ h → HaltLeads k g r w → HaltLeads k h r w
halt_is k g h r w e led = subst (λ (z : Halt). HaltLeads k z r w) e led

pub todo_is : (P : TypedProgram) (ns : List Node) (d : ℕ) (k : Rest) (x y : Todo) (o : Out TypedState Value) (next : Result Next Halt) (r : Running)
    → y ≡ x → Leads P ns d k next r ((left_to_do P ns d x k).value o) → Leads P ns d k next r ((left_to_do P ns d y k).value o)
todo_is P ns d k x y o next r e h = subst (λ (z : Todo). Leads P ns d k next r ((left_to_do P ns d z k).value o)) (sym e) h

-- a thrown object passes a computation that has not begun, and a point that waits
pub begin_thrown : (P : TypedProgram) (ns : List Node) (d : ℕ) (k : Rest) (y : Todo) (x : Task) (address u : ℕ) (s : TypedState)
    → Coherent k → y ≡ todo.Begin x → k.value (Thrown address u s) ≡ (left_to_do P ns d y k).value (Thrown address u s)
begin_thrown P ns d k y x address u s coherent e =
    subst (λ (z : Todo). k.value (Thrown address u s) ≡ (left_to_do P ns d z k).value (Thrown address u s)) (sym e)
    (sym ((begin_passes P ns d k coherent x).thrown address u s))

pub wait_thrown : (P : TypedProgram) (ns : List Node) (d : ℕ) (k : Rest) (y : Todo) (x : Waiting) (address u : ℕ) (s : TypedState)
    → Coherent k → y ≡ todo.Wait x → k.value (Thrown address u s) ≡ (left_to_do P ns d y k).value (Thrown address u s)
wait_thrown P ns d k y x address u s coherent e =
    subst (λ (z : Todo). k.value (Thrown address u s) ≡ (left_to_do P ns d z k).value (Thrown address u s)) (sym e)
    (sym ((wait_passes P ns d k coherent x).thrown address u s))

-- what ended a run passes all that is left to do
pub halt_passes : (P : TypedProgram) (ns : List Node) (d : ℕ) (k : Rest) → Coherent k → (x : Todo) (h : Halt) (r : Running) (w : Out TypedState Value)
    → ((a : ℕ) → h ≡ halt.Thrown a → ⊥) → HaltLeads (left_to_do P ns d x k) h r w → HaltLeads k h r w
halt_passes P ns d k coherent x (halt.Thrown a) r w differs led = absurd (differs a refl)
halt_passes P ns d k coherent x (halt.Exited code) r w differs led = sym (todo_exits P ns d k coherent x code r.state) ∙ led
halt_passes P ns d k coherent x halt.Going r w differs led = sym (todo_goes P ns d k coherent x r.state) ∙ led
halt_passes P ns d k coherent x halt.Wrong r w differs led = sym (todo_wrongs P ns d k coherent x) ∙ led
halt_passes P ns d k coherent x halt.WantOfMemory r w differs led = tt
