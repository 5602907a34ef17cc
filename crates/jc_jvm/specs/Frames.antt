-- What instructions do to a frame: its stack and its locals (JVMS 2.6).
use Rattle.std.specs.Prelude.{ℕ, ◌+◌, ◌-◌, Bool, true, false, ◌&&◌, nat_lt, nat_le, List, [], ◌∷◌, ◌++◌, length, replicate, slice_get, slice_set, option_and_then, if◌then◌else◌}
use Rattle.std.specs.Option.{option_map}
use Rattle.std.specs.declared.option.Option.{Option}
use Rattle.std.specs.declared.option.Option.TheVariants.{Some, None}
use Rattle.jc_class_out.specs.declared.model.ClassModel.{ClassModel}
use Rattle.jc_class_out.specs.declared.model.CodeModel.{CodeModel}
use Rattle.jc_jvm.specs.Classes.{code_at}
use Rattle.jc_jvm.specs.Stacked.{Stacked, pushed}
use Rattle.jc_jvm.specs.Types.{is_of_sort}
use Rattle.jc_jvm.specs.declared.frame.Frame.{Frame}
use Rattle.jc_jvm.specs.declared.operands.Sort.{Sort}
use Rattle.jc_jvm.specs.declared.value.Value.{Value}
use Rattle.jc_jvm.specs.declared.value.Value.TheVariants.{Long}
use Rattle.jc_jvm.specs.declared.world.Fault.{Fault}

-- What an instruction does to its frame: the frame goes on, its stack empty an exception of the machine comes up at its place, or the
-- table allows nothing.
pub data Act : Type 0 where
  Goes : (now : Frame) → Act
  Throws : (fault : Fault) (now : Frame) → Act
  Fails : Act

-- ---- the stack

-- the frame with these values on its stack, from the top on
abbrev pub with_values : List Value → Frame → Frame
with_values values now = record now { stack = record now.stack { values = values } }

-- the exception comes up in this frame
abbrev pub throws : Fault → Frame → Act
throws fault now = Throws fault (with_values [] now)

-- the frame goes on at this place with that stack; without one there was no room
abbrev pub go_on : ℕ → Frame → Option Stacked → Act
go_on next now None = Fails
go_on next now (Some stack) = Goes (record now { at = next; stack = stack })

-- The frame goes on at this place with a value on these others, where there is room.
abbrev pub pushes : ℕ → Frame → List Value → Value → Act
pushes next now values v = go_on next now (pushed (record now.stack { values = values }) v)

-- The frame goes on at this place with these values.
abbrev pub leaves : ℕ → Frame → List Value → Act
leaves next now values = Goes (record now { at = next; stack = record now.stack { values = values } })

-- ---- locals

-- the local is there and holds a long
abbrev pub is_long : Option (Option Value) → Bool
is_long (Some (Some (Long n))) = true
is_long _ = false

-- with nothing in the local before, where that is a long, whose second unit is lost
abbrev pub without_long_before : ℕ → List (Option Value) → List (Option Value)
without_long_before local locals = if nat_lt 0 local && is_long (slice_get locals (local - 1)) then slice_set locals (local - 1) None else locals

-- a long also takes the local behind its own
abbrev pub units_behind : ℕ → Value → List (Option Value) → List (Option Value)
units_behind local (Long n) locals = slice_set locals (local + 1) None
units_behind local _ locals = locals

-- the local of the value's last unit
abbrev pub last_unit : ℕ → Value → ℕ
last_unit local (Long n) = local + 1
last_unit local _ = local

-- with a value in a local, where there are such locals
abbrev pub with_local : ℕ → Value → List (Option Value) → Option (List (Option Value))
with_local local v locals =
    if nat_lt (last_unit local v) (length locals) then Some (units_behind local v (slice_set (without_long_before local locals) local (Some v))) else None

-- what the local holds, if it is there and of the sort
abbrev pub local_of_sort : Sort → Option (Option Value) → Option Value
local_of_sort sort (Some (Some v)) = if is_of_sort sort v then Some v else None
local_of_sort sort _ = None

-- ---- new frames

-- arguments as locals: a long takes two
abbrev pub laid_out : List Value → List (Option Value)
laid_out [] = []
laid_out (Long n ∷ vs) = Some (Long n) ∷ None ∷ laid_out vs
laid_out (v ∷ vs) = Some v ∷ laid_out vs

-- the arguments first, and then so many locals that hold nothing; None where the arguments have no room
abbrev pub locals_of : ℕ → List Value → Option (List (Option Value))
locals_of count arguments =
    if nat_le (length (laid_out arguments)) count then Some (laid_out arguments ++ replicate (count - length (laid_out arguments)) None) else None

abbrev pub frame_by : ℕ → ℕ → CodeModel → List (Option Value) → Frame
frame_by class method code locals = record { class = class; method = method; at = 0; locals = locals; stack = record { values = []; limit = code.stack } }

-- the frame of a method with these arguments, before its first instruction, where the method has code and room for them
abbrev pub frame_of : List ClassModel → ℕ × ℕ → List Value → Option Frame
frame_of classes place arguments =
    option_and_then (λ (code : CodeModel). option_map (frame_by place.0 place.1 code) (locals_of code.locals arguments)) (code_at classes place.0 place.1)
