-- The instruction table (JVMS 6.5): what each row does, and one step of the machine.
use Rattle.std.specs.Prelude.{ℕ, ◌==◌, ◌%◌, Bool, true, false, List, [], ◌∷◌, slice_get, if◌then◌else◌}
use Rattle.std.specs.Int.{w32, int_wrapping_add, cast_unsigned}
use Rattle.std.specs.declared.option.Option.{Option}
use Rattle.std.specs.declared.option.Option.TheVariants.{Some, None}
use Rattle.jc_class_out.specs.declared.model.ClassModel.{ClassModel}
use Rattle.jc_machine.specs.declared.act.Act.{Act}
use Rattle.jc_machine.specs.declared.act.Act.TheVariants.{Went as ActWent, Byte as ActByte, Ends as ActEnds}
use Rattle.jc_machine.specs.declared.frame.Active.{Active}
use Rattle.jc_machine.specs.declared.machine.Ending.{Ending}
use Rattle.jc_machine.specs.declared.machine.Ending.TheVariants.{Ended as EndingEnded, Threw as EndingThrew, Exited as EndingExited, Stuck as EndingStuck}
use Rattle.jc_machine.specs.declared.machine.Machine.{Machine}
use Rattle.jc_machine.specs.declared.machine.Stepped.{Stepped}
use Rattle.jc_machine.specs.declared.machine.Stepped.TheVariants.{Went, Byte, Ended, Threw, Exited, Stuck}
use Rattle.jc_machine.specs.declared.rows.Placed.{Placed}
use Rattle.jc_machine.specs.declared.rows.Row.{Row}
use Rattle.jc_machine.specs.declared.rows.Row.TheVariants.{Push, LoadReference, AddInt, GetOut, WriteByte, Construct, Return}
use Rattle.jc_machine.specs.declared.value.Value.{Value}
use Rattle.jc_machine.specs.declared.value.Value.TheVariants.{Whole, Address, NullValue}
use Rattle.jc_machine.specs.Names.{placed_at}
use Rattle.jc_machine.specs.Stacked.{Stacked, pushed}

-- ---- states

-- a machine that goes on has a frame and the frames that wait for it; one that is over has its ending
pub data State : Type 0 where
  Going : (now : Active) (callers : List Active) → State
  Over : (ending : Ending) → State

-- what a step answers, and the state after it
abbrev pub Move : Type 0
Move = Stepped × State

-- the table allows nothing
abbrev pub stuck : Move
stuck = (Stuck, Over EndingStuck)

-- ---- rows

-- the frame goes on with this stack
abbrev pub go_on : Active → List Active → Option Stacked → Move
go_on now callers None = stuck
go_on now callers (Some stack) = (Went, Going (record now { stack = stack }) callers)

-- aload: a reference from a local variable
abbrev pub loaded : Option (Option Value) → Stacked → Option Stacked
loaded (Some (Some (Address at))) stack = pushed stack (Address at)
loaded (Some (Some NullValue)) stack = pushed stack NullValue
loaded _ stack = None

-- iadd: the sum of the two topmost numbers, which wraps
abbrev pub added : Stacked → List Value → Option Stacked
added stack (Whole b ∷ Whole a ∷ rest) = pushed (record stack { values = rest }) (Whole (int_wrapping_add w32 a b))
added stack _ = None

-- getstatic of java/lang/System.out gives a fixed address
abbrev pub out_address : ℕ
out_address = 1

-- invokevirtual of java/io/PrintStream.write gives the low byte of the topmost number to the stream beneath it
abbrev pub written : Active → List Active → List Value → Move
written now callers (Whole n ∷ Address at ∷ rest) =
    if at == out_address then (Byte (cast_unsigned w32 n % 256), Going (record now { stack = record now.stack { values = rest } }) callers) else stuck
written now callers _ = stuck

-- invokespecial of java/lang/Object.<init> does nothing with the object
abbrev pub constructed : Stacked → List Value → Option Stacked
constructed stack (Address at ∷ rest) = Some (record stack { values = rest })
constructed stack _ = None

-- return: the frame beneath goes on, or all is over
abbrev pub returned : List Active → Move
returned [] = (Ended, Over EndingEnded)
returned (caller ∷ callers) = (Went, Going caller callers)

-- what a row does in a frame, whose place is already the one behind the row's instruction
abbrev pub act : Row → Active → List Active → Move
act (Push n) now callers = go_on now callers (pushed now.stack (Whole n))
act (LoadReference local) now callers = go_on now callers (loaded (slice_get now.locals local) now.stack)
act AddInt now callers = go_on now callers (added now.stack now.stack.values)
act GetOut now callers = go_on now callers (pushed now.stack (Address out_address))
act WriteByte now callers = written now callers now.stack.values
act Construct now callers = go_on now callers (constructed now.stack now.stack.values)
act Return now callers = returned callers

-- ---- steps

-- the frame goes on behind its instruction
abbrev pub act_if : Option Placed → Active → List Active → Move
act_if None now callers = stuck
act_if (Some placed) now callers = act placed.row (record now { at = placed.next }) callers

-- a machine that is over answers the same again
abbrev pub told : Ending → Stepped
told EndingEnded = Ended
told (EndingThrew class) = Threw class
told (EndingExited code) = Exited code
told EndingStuck = Stuck

-- one step
abbrev pub step_of : List ClassModel → State → Move
step_of classes (Over ending) = (told ending, Over ending)
step_of classes (Going now callers) = act_if (placed_at classes now.class now.method now.at) now callers

-- an answer for which a step takes memory: the name of the class is made for it
abbrev pub is_threw : Stepped → Bool
is_threw (Threw class) = true
is_threw _ = false

-- ---- the machine

-- a machine with an ending is over, whatever its frames are
abbrev pub state_by : Option Ending → Active → List Active → State
state_by (Some ending) now callers = Over ending
state_by None now callers = Going now callers

-- the state of a machine
abbrev pub state_of : Machine → State
state_of m = state_by m.over m.now m.callers

-- the classes that it runs
abbrev pub classes_of : Machine → List ClassModel
classes_of m = m.program

-- the move of what a row did, where it leaves this frame and these callers
abbrev pub move_of : Act → Active → List Active → Move
move_of ActWent now callers = (Went, Going now callers)
move_of (ActByte byte) now callers = (Byte byte, Going now callers)
move_of (ActEnds ending) now callers = (told ending, Over ending)
