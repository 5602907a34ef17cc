-- What words say of each of 64 variables.
use Rattle.std.specs.Prelude.{ℕ, ◌==◌, ◌%◌, ◌+◌, Bool, true, List, [], ◌∷◌, if◌then◌else◌}
use Rattle.std.specs.Int.{bit_at}
use Rattle.jc_rules.specs.declared.rule.Refusal.{Refusal}
use Rattle.jc_assign_spec.specs.declared.marks.Mark.{Mark}
use Rattle.jc_assign_spec.specs.declared.marks.Exit.{Exit}
use Rattle.jc_assign_spec.specs.declared.marks.Variable.{Variable as Tracked}
use Rattle.jc_assign_spec.specs.declared.marks.Variable.TheVariants as v
use Rattle.jc_assign_spec.specs.declared.marks.Jump.{Jump}
use Rattle.jc_assign_spec.specs.Marks.{Known, same_jump}
use Rattle.jc_assign_spec.specs.Statements.{turns_begin}
use Rattle.jc_assign_parts.specs.declared.lanes.Worlds.{Worlds}
use Rattle.jc_assign_parts.specs.declared.lanes.Marks.{Marks}
use Rattle.jc_assign_parts.specs.declared.lanes.Leaving.{Leaving}
use Rattle.jc_assign_parts.specs.declared.lanes.Found.{Found}
use Rattle.jc_assign_parts.specs.declared.lanes.State.{State}
use Rattle.jc_assign_parts.specs.declared.lanes.Group.{Group}
use Rattle.jc_assign_parts.specs.declared.lanes.Group.TheVariants as group

-- one of the variables, under one of the assumptions about the innermost loop around
pub record Lane : Type 0 where
  pub world : Bool
  pub at : ℕ

abbrev pub mark_of : Bool → Bool → Mark
mark_of s u = record { set = s; unset = u }

-- the bit of a variable
unfoldable pub bits : ℕ → ℕ → Bool
bits w i = bit_at w (i % 64) == 1

unfoldable pub by_world : Worlds → Lane → Bool
by_world w l = if l.world then bits w.yes l.at else bits w.no l.at

-- what a word says of all of them, and what is known of all of them
pub record Word : Type 0 where
  pub each : ℕ → Bool

pub record Marking : Type 0 where
  pub each : Lane → Mark

pub record Knowing : Type 0 where
  pub each : Lane → Known

abbrev pub word_of : (ℕ → Bool) → Word
word_of f = record { each = f }

abbrev pub marking : (Lane → Mark) → Marking
marking f = record { each = f }

abbrev pub knowing : (Lane → Known) → Knowing
knowing f = record { each = f }

-- a step that is taken at each of them
abbrev pub stepped : (Lane → Known → Known) → Knowing → Knowing
stepped f s = knowing (λ l. f l (s.each l))

abbrev pub mark : Marks → Lane → Mark
mark m l = mark_of (bits m.set l.at) (by_world m.unset l)

abbrev pub leaving : Leaving → Lane → Exit
leaving x l = record { jump = x.jump; mark = mark x.marks l }

abbrev pub ways : List Leaving → Lane → List Exit
ways [] l = []
ways (x ∷ xs) l = leaving x l ∷ ways xs l

abbrev pub broken : List Found → Lane → List Refusal
broken [] l = []
broken (x ∷ xs) l = if by_world x.lanes l then x.refusal ∷ broken xs l else broken xs l

abbrev pub lane : State → Lane → Known
lane s l = record { now = mark s.marks l; wrote = bits s.wrote l.at; fixed = bits s.fixed l.at; exits = ways s.exits l; broken = broken s.broken l }

unfoldable pub word : ℕ → Word
word w = word_of (λ i. bits w i)

unfoldable pub marks : Marks → Marking
marks m = marking (λ l. mark m l)

unfoldable pub known : State → Knowing
known s = knowing (λ l. lane s l)

-- the variable of a bit
abbrev pub var_at : Group → ℕ → Tracked
var_at (group.Locals first) i = v.Local (first + i % 64)
var_at (group.Field f) i = v.Own f
var_at group.Foreign i = v.Foreign

-- where jumps left, for all of them
pub record Leavings : Type 0 where
  pub each : Lane → List Exit

abbrev pub leavings : (Lane → List Exit) → Leavings
leavings f = record { each = f }

unfoldable pub exits : List Leaving → Leavings
exits xs = leavings (λ l. ways xs l)

-- the jumps that go another way
abbrev pub others_of : Jump → List Leaving → List Leaving
others_of j [] = []
others_of j (x ∷ xs) = if same_jump j x.jump then others_of j xs else x ∷ others_of j xs

-- a variable under the assumption that holds of it under another one
abbrev pub again : Worlds → Lane → Lane
again w l = record { world = by_world w l; at = l.at }

-- the assumption about a loop that holds of a variable, by the state before the loop and by what is known at the end of a turn if it
-- is unassigned at its begin
abbrev pub begins_again : State → Marks → Lane → Lane
begins_again outer back l = record { world = turns_begin ((known outer).each l).now ((marks back).each (record { world = true; at = l.at })); at = l.at }
