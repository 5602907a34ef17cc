-- What it means that a function does what a computation of the meaning does.
use Rattle.std.specs.Prelude.{◌≡◌, Result, Ok, Err}
use Rattle.jc_running.specs.Outcomes.{Out, Val, Thrown, Exited, Going, Wrong}
use Rattle.jc_meaning.specs.Kept.{TypedState}
use Rattle.jc_values.specs.declared.halt.Halt.{Halt}
use Rattle.jc_values.specs.declared.halt.Halt.TheVariants as halt
use Rattle.jc_values.specs.declared.halt.Running.{Running}

-- a computation ended so, with these units and this state; want of memory tells nothing of it
abbrev pub Halted : {A : Type 0} → Out TypedState A → Halt → Running → Type 0
Halted o (halt.Thrown address) r = o ≡ Thrown address r.units r.state
Halted o (halt.Exited code) r = o ≡ Exited code r.state
Halted o halt.Going r = o ≡ Going r.state
Halted o halt.Wrong r = o ≡ Wrong
Halted o halt.WantOfMemory r = Unit {0}

-- .. or with this value
abbrev pub Does : {A : Type 0} → Out TypedState A → Result A Halt → Running → Type 0
Does o (Ok a) r = o ≡ Val a r.units r.state
Does o (Err h) r = Halted o h r

-- what holds of the outcome that a result stands for
abbrev pub OutOf : {A : Type 0} → Result A Halt → Running → (Out TypedState A → Type 0) → Type 0
OutOf (Ok a) r P = P (Val a r.units r.state)
OutOf (Err (halt.Thrown address)) r P = P (Thrown address r.units r.state)
OutOf (Err (halt.Exited code)) r P = P (Exited code r.state)
OutOf (Err halt.Going) r P = P (Going r.state)
OutOf (Err halt.Wrong) r P = P Wrong
OutOf (Err halt.WantOfMemory) r P = Unit {0}
