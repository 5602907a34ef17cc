-- What it means that a step leads to an outcome of the whole run: with what it gave, or with what is to begin, the rest makes this
-- outcome. Want of memory tells nothing.
use Rattle.std.specs.Prelude.{◌≡◌, ℕ, ℤ, ◌-◌, List, Result, Ok, Err}
use Rattle.jc_running.specs.declared.value.Value.{Value}
use Rattle.jc_running.specs.Outcomes.{Out, Val, Thrown, Exited, Going, Wrong}
use Rattle.jc_typed.specs.declared.nodes.Node.{Node}
use Rattle.jc_typed.specs.declared.program.TypedProgram.{TypedProgram}
use Rattle.jc_meaning.specs.Kept.{TypedState}
use Rattle.jc_values.specs.declared.halt.Halt.{Halt}
use Rattle.jc_values.specs.declared.halt.Halt.TheVariants as halt
use Rattle.jc_values.specs.declared.halt.Running.{Running}
use Rattle.jc_pending.specs.Level as l
use Rattle.jc_pending.specs.Frames.{Ends, Rest, begun, left_to_do}
use Rattle.jc_pending.specs.declared.todo.Given.{Given}
use Rattle.jc_pending.specs.declared.todo.Given.TheVariants as g
use Rattle.jc_pending.specs.declared.todo.Next.{Next}
use Rattle.jc_pending.specs.declared.todo.Next.TheVariants as x

-- a rest doesn't ask what a computation would have given that ended without giving it
pub record Agrees {A : Type 0} (k : Rest) (f : Ends A) : Type 0 where
  pub thrown : (address u : ℕ) (s : TypedState) → f (Thrown address u s) ≡ k.value (Thrown address u s)
  pub exited : (code : ℤ) (s : TypedState) → f (Exited code s) ≡ k.value (Exited code s)
  pub going : (s : TypedState) → f (Going s) ≡ k.value (Going s)
  pub wrong : f Wrong ≡ k.value Wrong

-- .. whatever it is that the rest waits for
pub record Coherent (k : Rest) : Type 0 where
  pub values : Agrees k k.values
  pub nothing : Agrees k k.nothing
  pub target : Agrees k k.target
  pub completion : Agrees k k.completion
  pub turn : Agrees k k.turn
  pub numbered : Agrees k k.numbered

-- a computation that ended without giving anything leads to this outcome; want of memory leads to each
abbrev pub HaltLeads : Rest → Halt → Running → Out TypedState Value → Type 0
HaltLeads k (halt.Thrown address) r w = k.value (Thrown address r.units r.state) ≡ w
HaltLeads k (halt.Exited code) r w = k.value (Exited code r.state) ≡ w
HaltLeads k halt.Going r w = k.value (Going r.state) ≡ w
HaltLeads k halt.Wrong r w = k.value Wrong ≡ w
HaltLeads k halt.WantOfMemory r w = Unit {0}

-- what the rest makes of what is given
abbrev pub given_on : Rest → Given → Running → Out TypedState Value
given_on k (g.Value v) r = k.value (Val v r.units r.state)
given_on k (g.Values vs) r = k.values (Val vs r.units r.state)
given_on k g.Nothing r = k.nothing (Val tt r.units r.state)
given_on k (g.Target t) r = k.target (Val t r.units r.state)
given_on k (g.Completion c) r = k.completion (Val c r.units r.state)
given_on k (g.Turn t) r = k.turn (Val t r.units r.state)
given_on k (g.Numbered t) r = k.numbered (Val t r.units r.state)

-- what is given, or the end without it, leads to this outcome
abbrev pub GivenLeads : Rest → Result Given Halt → Running → Out TypedState Value → Type 0
GivenLeads k (Ok given) r w = given_on k given r ≡ w
GivenLeads k (Err h) r w = HaltLeads k h r w

module _ (P : TypedProgram) (ns : List Node) (d : ℕ) where
  -- what the rest makes of a next step
  abbrev pub next_on : Rest → Next → Running → Out TypedState Value
  next_on k (x.Give given) r = given_on k given r
  next_on k (x.Begin task) r = begun P ns d task k (Val tt r.units r.state)
  next_on k (x.At level task) r = begun P (l.nodes_of P level.method) level.depth task k (Val tt r.units r.state)
  next_on k (x.Then todo task) r = begun P ns d task (left_to_do P ns d todo k) (Val tt r.units r.state)
  next_on k (x.Deeper todo task) r = begun P ns (d - 1) task (left_to_do P ns d todo k) (Val tt r.units r.state)

  -- a next step, or the end without one, leads to this outcome
  abbrev pub Leads : Rest → Result Next Halt → Running → Out TypedState Value → Type 0
  Leads k (Ok next) r w = next_on k next r ≡ w
  Leads k (Err h) r w = HaltLeads k h r w
