-- A computation that ended without giving what it was to give leads on in the same way, whatever this was.
use Rattle.std.proofs.Common.{◌≡◌, ℕ, List, refl, sym}
use Rattle.jc_running.specs.declared.value.Value.{Value}
use Rattle.jc_running.specs.declared.value.Completion.{Completion}
use Rattle.jc_running.specs.declared.value.Turn.{Turn}
use Rattle.jc_running.specs.Outcomes.{Out, Thrown, Exited, Going, Wrong, on_both, throw}
use Rattle.jc_meaning.specs.declared.target.Target.{Target}
use Rattle.jc_meaning.specs.Kept.{TypedState, TypedRun}
use Rattle.jc_values.specs.declared.halt.Halt.{Halt}
use Rattle.jc_values.specs.declared.halt.Halt.TheVariants as halt
use Rattle.jc_values.specs.declared.halt.Running.{Running}
use Rattle.jc_values.specs.Doing.{Halted}
use Rattle.jc_pending.specs.Frames.{Ends, Rest}
use Rattle.jc_pending.specs.Leads.{Agrees, Coherent, HaltLeads}

halts : {A B : Type 0} (k : Rest) (f : Ends B) (agrees : Agrees k f) (o : Out TypedState A) (g : A → TypedRun B) (h : Halt) (r : Running)
    → Halted o h r → HaltLeads k h r (f (on_both o g throw))
halts k f agrees o g (halt.Thrown address) r e = rw (e, agrees.thrown address r.units r.state) refl
halts k f agrees o g (halt.Exited code) r e = rw (e, agrees.exited code r.state) refl
halts k f agrees o g halt.Going r e = rw (e, agrees.going r.state) refl
halts k f agrees o g halt.Wrong r e = rw (e, agrees.wrong) refl
halts k f agrees o g halt.WantOfMemory r e = tt

halted : {A : Type 0} (k : Rest) (f : Ends A) (agrees : Agrees k f) (o : Out TypedState A) (h : Halt) (r : Running)
    → Halted o h r → HaltLeads k h r (f o)
halted k f agrees o (halt.Thrown address) r e = rw (e, agrees.thrown address r.units r.state) refl
halted k f agrees o (halt.Exited code) r e = rw (e, agrees.exited code r.state) refl
halted k f agrees o halt.Going r e = rw (e, agrees.going r.state) refl
halted k f agrees o halt.Wrong r e = rw (e, agrees.wrong) refl
halted k f agrees o halt.WantOfMemory r e = tt

-- a rest agrees with itself
itself : (k : Rest) → Agrees k k.value
itself k = record { thrown = λ address u s. refl; exited = λ code s. refl; going = λ s. refl; wrong = refl }

pub value_halts : {A : Type 0} (k : Rest) (o : Out TypedState A) (g : A → TypedRun Value) (h : Halt) (r : Running)
    → Halted o h r → HaltLeads k h r (k.value (on_both o g throw))
value_halts k o g h r e = halts k k.value (itself k) o g h r e

pub value_halted : (k : Rest) (o : Out TypedState Value) (h : Halt) (r : Running) → Halted o h r → HaltLeads k h r (k.value o)
value_halted k o h r e = halted k k.value (itself k) o h r e

pub values_halts : {A : Type 0} (k : Rest) (o : Out TypedState A) (g : A → TypedRun (List Value)) (h : Halt) (r : Running)
    → Coherent k → Halted o h r → HaltLeads k h r (k.values (on_both o g throw))
values_halts k o g h r coherent e = halts k k.values coherent.values o g h r e

pub values_halted : (k : Rest) (o : Out TypedState (List Value)) (h : Halt) (r : Running) → Coherent k → Halted o h r → HaltLeads k h r (k.values o)
values_halted k o h r coherent e = halted k k.values coherent.values o h r e

pub values_wrong : (k : Rest) → Coherent k → k.value Wrong ≡ k.values Wrong
values_wrong k coherent = sym coherent.values.wrong

pub values_going : (k : Rest) (s : TypedState) → Coherent k → k.value (Going s) ≡ k.values (Going s)
values_going k s coherent = sym (coherent.values.going s)

pub values_thrown : (k : Rest) (address u : ℕ) (s : TypedState) → Coherent k → k.value (Thrown address u s) ≡ k.values (Thrown address u s)
values_thrown k address u s coherent = sym (coherent.values.thrown address u s)

pub nothing_halts : {A : Type 0} (k : Rest) (o : Out TypedState A) (g : A → TypedRun (Unit {0})) (h : Halt) (r : Running)
    → Coherent k → Halted o h r → HaltLeads k h r (k.nothing (on_both o g throw))
nothing_halts k o g h r coherent e = halts k k.nothing coherent.nothing o g h r e

pub nothing_halted : (k : Rest) (o : Out TypedState (Unit {0})) (h : Halt) (r : Running) → Coherent k → Halted o h r → HaltLeads k h r (k.nothing o)
nothing_halted k o h r coherent e = halted k k.nothing coherent.nothing o h r e

pub nothing_wrong : (k : Rest) → Coherent k → k.value Wrong ≡ k.nothing Wrong
nothing_wrong k coherent = sym coherent.nothing.wrong

pub nothing_going : (k : Rest) (s : TypedState) → Coherent k → k.value (Going s) ≡ k.nothing (Going s)
nothing_going k s coherent = sym (coherent.nothing.going s)

pub nothing_thrown : (k : Rest) (address u : ℕ) (s : TypedState) → Coherent k → k.value (Thrown address u s) ≡ k.nothing (Thrown address u s)
nothing_thrown k address u s coherent = sym (coherent.nothing.thrown address u s)

pub target_halts : {A : Type 0} (k : Rest) (o : Out TypedState A) (g : A → TypedRun Target) (h : Halt) (r : Running)
    → Coherent k → Halted o h r → HaltLeads k h r (k.target (on_both o g throw))
target_halts k o g h r coherent e = halts k k.target coherent.target o g h r e

pub target_halted : (k : Rest) (o : Out TypedState Target) (h : Halt) (r : Running) → Coherent k → Halted o h r → HaltLeads k h r (k.target o)
target_halted k o h r coherent e = halted k k.target coherent.target o h r e

pub target_wrong : (k : Rest) → Coherent k → k.value Wrong ≡ k.target Wrong
target_wrong k coherent = sym coherent.target.wrong

pub target_going : (k : Rest) (s : TypedState) → Coherent k → k.value (Going s) ≡ k.target (Going s)
target_going k s coherent = sym (coherent.target.going s)

pub target_thrown : (k : Rest) (address u : ℕ) (s : TypedState) → Coherent k → k.value (Thrown address u s) ≡ k.target (Thrown address u s)
target_thrown k address u s coherent = sym (coherent.target.thrown address u s)

pub completion_halts : {A : Type 0} (k : Rest) (o : Out TypedState A) (g : A → TypedRun Completion) (h : Halt) (r : Running)
    → Coherent k → Halted o h r → HaltLeads k h r (k.completion (on_both o g throw))
completion_halts k o g h r coherent e = halts k k.completion coherent.completion o g h r e

pub completion_halted : (k : Rest) (o : Out TypedState Completion) (h : Halt) (r : Running) → Coherent k → Halted o h r → HaltLeads k h r (k.completion o)
completion_halted k o h r coherent e = halted k k.completion coherent.completion o h r e

pub completion_wrong : (k : Rest) → Coherent k → k.value Wrong ≡ k.completion Wrong
completion_wrong k coherent = sym coherent.completion.wrong

pub completion_going : (k : Rest) (s : TypedState) → Coherent k → k.value (Going s) ≡ k.completion (Going s)
completion_going k s coherent = sym (coherent.completion.going s)

pub completion_thrown : (k : Rest) (address u : ℕ) (s : TypedState) → Coherent k → k.value (Thrown address u s) ≡ k.completion (Thrown address u s)
completion_thrown k address u s coherent = sym (coherent.completion.thrown address u s)

pub turn_halts : {A : Type 0} (k : Rest) (o : Out TypedState A) (g : A → TypedRun (Turn (Unit {0}))) (h : Halt) (r : Running)
    → Coherent k → Halted o h r → HaltLeads k h r (k.turn (on_both o g throw))
turn_halts k o g h r coherent e = halts k k.turn coherent.turn o g h r e

pub turn_halted : (k : Rest) (o : Out TypedState (Turn (Unit {0}))) (h : Halt) (r : Running) → Coherent k → Halted o h r → HaltLeads k h r (k.turn o)
turn_halted k o h r coherent e = halted k k.turn coherent.turn o h r e

pub turn_wrong : (k : Rest) → Coherent k → k.value Wrong ≡ k.turn Wrong
turn_wrong k coherent = sym coherent.turn.wrong

pub turn_going : (k : Rest) (s : TypedState) → Coherent k → k.value (Going s) ≡ k.turn (Going s)
turn_going k s coherent = sym (coherent.turn.going s)

pub turn_thrown : (k : Rest) (address u : ℕ) (s : TypedState) → Coherent k → k.value (Thrown address u s) ≡ k.turn (Thrown address u s)
turn_thrown k address u s coherent = sym (coherent.turn.thrown address u s)

pub numbered_halts : {A : Type 0} (k : Rest) (o : Out TypedState A) (g : A → TypedRun (Turn ℕ)) (h : Halt) (r : Running)
    → Coherent k → Halted o h r → HaltLeads k h r (k.numbered (on_both o g throw))
numbered_halts k o g h r coherent e = halts k k.numbered coherent.numbered o g h r e

pub numbered_halted : (k : Rest) (o : Out TypedState (Turn ℕ)) (h : Halt) (r : Running) → Coherent k → Halted o h r → HaltLeads k h r (k.numbered o)
numbered_halted k o h r coherent e = halted k k.numbered coherent.numbered o h r e

pub numbered_wrong : (k : Rest) → Coherent k → k.value Wrong ≡ k.numbered Wrong
numbered_wrong k coherent = sym coherent.numbered.wrong

pub numbered_going : (k : Rest) (s : TypedState) → Coherent k → k.value (Going s) ≡ k.numbered (Going s)
numbered_going k s coherent = sym (coherent.numbered.going s)

pub numbered_thrown : (k : Rest) (address u : ℕ) (s : TypedState) → Coherent k → k.value (Thrown address u s) ≡ k.numbered (Thrown address u s)
numbered_thrown k address u s coherent = sym (coherent.numbered.thrown address u s)

pub ruleset of_value = (value_halts, value_halted)

pub ruleset of_values = (values_halts, values_halted, values_wrong, values_going, values_thrown)

pub ruleset of_nothing = (nothing_halts, nothing_halted, nothing_wrong, nothing_going, nothing_thrown)

pub ruleset of_target = (target_halts, target_halted, target_wrong, target_going, target_thrown)

pub ruleset of_completion = (completion_halts, completion_halted, completion_wrong, completion_going, completion_thrown)

pub ruleset of_turn = (turn_halts, turn_halted, turn_wrong, turn_going, turn_thrown)

pub ruleset of_numbered = (numbered_halts, numbered_halted, numbered_wrong, numbered_going, numbered_thrown)
