-- Runs of the machine, with a bound on steps.
use Rattle.std.specs.Prelude.{◌≡◌, ℕ, zero, suc, List, [], ◌∷◌, ◌++◌}
use Rattle.jc_class_out.specs.declared.model.ClassModel.{ClassModel}
use Rattle.jc_machine.specs.declared.machine.Ran.{Ran}
use Rattle.jc_machine.specs.declared.machine.Ran.TheVariants.{StepsReached, Ended as RanEnded, Threw as RanThrew, Exited as RanExited, KeysFault as RanKeysFault, Stuck as RanStuck}
use Rattle.jc_machine.specs.declared.machine.Stepped.{Stepped}
use Rattle.jc_machine.specs.declared.machine.Stepped.TheVariants.{Went, Byte, Ended, Threw, Exited, KeysFault, Stuck}
use Rattle.jc_machine.specs.declared.act.Turn.{Turn}
use Rattle.jc_machine.specs.declared.act.Turn.TheVariants.{Goes, Puts, Ends}
use Rattle.jc_machine.specs.Table.{State, Move, step_of}

-- what a run puts out, how it ends, and the state after it
pub record Seen : Type 0 where
  pub output : List ℕ
  pub ending : Ran
  pub after : State

-- these bytes first
abbrev pub first : List ℕ → Seen → Seen
first bytes seen = record seen { output = bytes ++ seen.output }

-- what a step's answer is to a run: it goes on, it puts a byte out, or it ends
abbrev pub turn_of : Stepped → Turn
turn_of Went = Goes
turn_of (Byte byte) = Puts byte
turn_of Ended = Ends RanEnded
turn_of (Threw class) = Ends (RanThrew class)
turn_of (Exited code) = Ends (RanExited code)
turn_of KeysFault = Ends RanKeysFault
turn_of Stuck = Ends RanStuck

-- a run that has come to this state by such a step, where the rest of it is known
abbrev pub run_turn : Turn → State → (State → Seen) → Seen
run_turn Goes s rest = rest s
run_turn (Puts byte) s rest = first (byte ∷ []) (rest s)
run_turn (Ends ran) s rest = record { output = []; ending = ran; after = s }

-- by the move of the first step
abbrev pub run_after : Move → (State → Seen) → Seen
run_after move rest = run_turn (turn_of move.0) move.1 rest

-- at most n steps
unfoldable pub run_of : List ClassModel → ℕ → State → Seen
run_of classes zero s = record { output = []; ending = StepsReached; after = s }
run_of classes (suc n) s = run_after (step_of classes s) (run_of classes n)

-- a run ends so, in this state
pub record RunsAs (seen : Seen) (ran : Ran) (after : State) : Type 0 where
  pub ending : ran ≡ seen.ending
  pub state : after ≡ seen.after
