-- The state of a machine, and what its steps are by the definition (JVMS 2 and 5).
use Rattle.std.specs.Prelude.{◌≡◌, ℕ, List}
use Rattle.std.specs.declared.option.Option.{Option}
use Rattle.jc_class_out.specs.declared.model.ClassModel.{ClassModel}
use Rattle.jc_jvm.specs.Calls.{Step, Moves, Asks, Quiet, Puts, settled, byte_read}
use Rattle.jc_jvm.specs.Frames.{pushes}
use Rattle.jc_jvm.specs.Thrown.{State, Going, Over}
use Rattle.jc_jvm.specs.declared.world.Ending.TheVariants.{Stuck}
use Rattle.jc_waiting.specs.Onwards.{state_of}
use Rattle.jc_core.specs.declared.machine.Core.{Core}
use Rattle.jc_core.specs.declared.machine.Stepped.{Stepped}
use Rattle.jc_core.specs.declared.machine.Stepped.TheVariants as stepped

-- the classes of the program that runs
abbrev pub classes_of : Core → List ClassModel
classes_of core = core.program

-- the state that the machine's fields stand for
abbrev pub state_in : Core → State
state_in core = state_of core.on core.world core.frame core.waiting

-- A frame that asked for a byte goes on at this place with the byte, or with -1 at the input's end.
abbrev pub answered : List ClassModel → ℕ → State → Option ℕ → State
answered classes next (Going world now waiting) = λ byte. settled classes world waiting (pushes next now now.stack.values (byte_read byte))
answered classes next (Over ending) = λ byte. Over Stuck

-- the step of which this was told, to this state; where a byte was asked for, the state is the one that asks
abbrev pub step_told : List ClassModel → Stepped → State → Step
step_told classes stepped.Went after = Moves Quiet after
step_told classes (stepped.Byte byte) after = Moves (Puts byte) after
step_told classes (stepped.Asks next) after = Asks (answered classes next after)

-- where a byte was asked for, the state is as it was
abbrev pub KeptWhenAsking : Stepped → State → State → Type 0
KeptWhenAsking (stepped.Asks next) before after = after ≡ before
KeptWhenAsking _ before after = Unit {0}
