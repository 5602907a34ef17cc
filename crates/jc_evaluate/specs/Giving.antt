-- What a point takes: something of the sort that it waits for, or else the run is none of a checked program.
use Rattle.std.specs.Prelude.{Option, Some, None}
use Rattle.jc_running.specs.Outcomes.{Out, Val, Wrong}
use Rattle.jc_meaning.specs.Kept.{TypedState}
use Rattle.jc_values.specs.declared.halt.Running.{Running}

-- the value that is there, with the units and the state of the run; where none is there the run is wrong
abbrev pub taken : {A : Type 0} → Option A → Running → Out TypedState A
taken (Some a) r = Val a r.units r.state
taken None r = Wrong
