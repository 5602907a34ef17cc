-- Runs of the machine, with a bound on steps.
use Rattle.std.specs.Prelude.{ℕ, zero, suc, ◌+◌, List, [], ◌∷◌, if◌then◌else◌}
use Rattle.std.specs.declared.option.Option.{Option}
use Rattle.std.specs.declared.option.Option.TheVariants.{Some, None}
use Rattle.jc_class_out.specs.declared.model.ClassModel.{ClassModel}
use Rattle.jc_class_out.specs.declared.model.Ins.{Ins}
use Rattle.jc_class_out.specs.declared.model.Operand.{Operand}
use Rattle.jc_class_out.specs.declared.model.Operand.TheVariants as op
use Rattle.jc_opcodes.specs.Opcodes.{opcode_of}
use Rattle.jc_opcodes.specs.declared.opcode.Opcode.{Opcode}
use Rattle.jc_opcodes.specs.declared.opcode.Opcode.TheVariants as is
use Rattle.jc_jvm.specs.Calls.{Step, Moves, Asks, Shown, Quiet, Puts}
use Rattle.jc_jvm.specs.Classes.{placed_at}
use Rattle.jc_jvm.specs.Table.{step_of}
use Rattle.jc_jvm.specs.Thrown.{State, Going, Over}
use Rattle.jc_jvm.specs.Types.{shape_named, fits}
use Rattle.jc_jvm.specs.declared.cells.Cell.{Cell}
use Rattle.jc_jvm.specs.declared.value.Shape.{Shape}
use Rattle.jc_jvm.specs.declared.value.Value.{Value}
use Rattle.jc_jvm.specs.declared.value.Value.TheVariants.{Address}
use Rattle.jc_jvm.specs.declared.world.Ending.{Ending}

-- ---- failed checks: a checkcast whose reference isn't of its type

-- 1 where the topmost value is a reference to what isn't of the type, and else 0; null is of each type, and a type that isn't there is not asked
abbrev pub misfits : List ClassModel → List Cell → List Value → Option Shape → ℕ
misfits classes heap (Address at ∷ rest) (Some shape) = if fits classes heap shape (Address at) then 0 else 1
misfits classes heap _ _ = 0

abbrev pub failed_by : List ClassModel → List Cell → List Value → Option Opcode → Operand → ℕ
failed_by classes heap values (Some is.Checkcast) (op.Class name) = misfits classes heap values (shape_named classes name)
failed_by classes heap values _ _ = 0

abbrev pub failed_at : List ClassModel → List Cell → List Value → Option (Ins × ℕ) → ℕ
failed_at classes heap values (Some placed) = failed_by classes heap values (opcode_of (placed.0).code) (placed.0).operand
failed_at classes heap values None = 0

-- 1 where the step from this state is a checkcast that fails, and else 0
abbrev pub failed_checks : List ClassModel → State → ℕ
failed_checks classes (Going world now waiting) = failed_at classes world.heap now.stack.values (placed_at classes now.class now.method now.at)
failed_checks classes (Over ending) = 0

-- ---- runs

-- what a run puts out, how many bytes of the input it takes, how many checks fail in it, and the state after it
pub record Run : Type 0 where
  pub output : List ℕ
  pub taken : ℕ
  pub failed : ℕ
  pub after : State

-- a run that stays where it is
abbrev pub rests : State → Run
rests s = record { output = []; taken = 0; failed = 0; after = s }

-- a byte put out, a byte taken, or failed checks before a run
abbrev pub showing : Shown → Run → Run
showing Quiet run = run
showing (Puts byte) run = record run { output = byte ∷ run.output }

abbrev pub taking : Run → Run
taking run = record run { taken = run.taken + 1 }

abbrev pub failing : ℕ → Run → Run
failing n run = record run { failed = n + run.failed }

-- a run that begins with such a step, on this input, where the runs after it are known
abbrev pub run_by : Step → List ℕ → (State → List ℕ → Run) → Run
run_by (Moves shown after) input rest = showing shown (rest after input)
run_by (Asks answered) [] rest = rest (answered None) []
run_by (Asks answered) (byte ∷ input) rest = taking (rest (answered (Some byte)) input)

-- so many steps from a state, on this input
unfoldable pub run_of : List ClassModel → ℕ → State → List ℕ → Run
run_of classes zero s input = rests s
run_of classes (suc n) s input = failing (failed_checks classes s) (run_by (step_of classes s) input (run_of classes n))

-- how a state is over; none where it goes on
abbrev pub ending_of : State → Option Ending
ending_of (Going world now waiting) = None
ending_of (Over ending) = Some ending

-- what is seen of a run (its ending is none while it goes on)
pub record Seen : Type 0 where
  pub output : List ℕ
  pub taken : ℕ
  pub ending : Option Ending

-- what is seen of it leaves out failed checks and the state
abbrev pub seen_of : Run → Seen
seen_of run = record { output = run.output; taken = run.taken; ending = ending_of run.after }
