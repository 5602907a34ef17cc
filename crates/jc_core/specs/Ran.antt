-- What is known of a run of so many steps: what it puts out, how many bytes it takes, and the state after it.
use Rattle.std.specs.Prelude.{ℕ, ◌+◌, List, ◌++◌}
use Rattle.jc_jvm.specs.Runs.{Run}
use Rattle.jc_jvm.specs.Thrown.{State}

-- what a run put out, how many bytes it took from the input, and the state after it
pub record Told : Type 0 where
  pub output : List ℕ
  pub taken : ℕ
  pub after : State

-- a run without its count of failed checks
abbrev pub told : Run → Told
told run = record { output = run.output; taken = run.taken; after = run.after }

-- behind a run that put this out and took so many bytes
abbrev pub ahead : List ℕ → ℕ → Told → Told
ahead output taken later = record { output = output ++ later.output; taken = taken + later.taken; after = later.after }
