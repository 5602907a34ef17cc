-- What it means that what a run shows only grows at its end.
use Rattle.std.specs.Prelude.{◌≡◌, ℕ, ◌≤◌, List, ◌++◌, Option, Some, None}
use Rattle.jc_running.specs.declared.seen.Check.{Check}
use Rattle.jc_running.specs.declared.seen.Shown.{Shown}
use Rattle.jc_running.specs.declared.value.Value.{Value}
use Rattle.jc_running.specs.Outcomes.{Out, Val, Thrown, Exited, Going, Wrong}
use Rattle.jc_meaning.specs.Kept.{TypedState}

-- the bytes that went out, and the checks that failed, are the first ones of the others', and no fewer bytes were taken
pub record FirstPart (p q : Shown) : Type 0 where
  pub further_output : List ℕ
  pub output : q.output ≡ p.output ++ further_output
  pub taken : p.taken ≤ q.taken
  pub further_failures : List Check
  pub failed : q.failed ≡ p.failed ++ further_failures

-- what an outcome shows; nothing where the program is none that was checked
abbrev pub shown_by : Out TypedState Value → Option Shown
shown_by (Val v u s) = Some s.shown
shown_by (Thrown a u s) = Some s.shown
shown_by (Exited code s) = Some s.shown
shown_by (Going s) = Some s.shown
shown_by Wrong = None

-- what is shown later begins with what was shown; what is wrong stays so, and what isn't yet can be wrong later
abbrev pub GoesOn : Option Shown → Option Shown → Type 0
GoesOn None q = q ≡ None
GoesOn (Some p) None = Unit {0}
GoesOn (Some p) (Some q) = FirstPart p q
