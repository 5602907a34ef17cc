-- Where the instructions of a method's code stand. A place is the number of bytes before it.
use Rattle.std.specs.Prelude.{ℕ, ◌+◌, ◌-◌, ◌*◌, ◌%◌, ◌==◌, nat_le, List, [], ◌∷◌, length, option_and_then, if◌then◌else◌}
use Rattle.std.specs.Option.{option_map}
use Rattle.std.specs.declared.option.Option.{Option}
use Rattle.std.specs.declared.option.Option.TheVariants.{Some, None}
use Rattle.jc_class_out.specs.declared.model.Ins.{Ins}
use Rattle.jc_class_out.specs.declared.model.Operand.{Operand}
use Rattle.jc_class_out.specs.declared.model.Operand.TheVariants.{Nothing, Number, Local, Step, Load, Member, Class, Dims, Jump, Switch}
use Rattle.jc_machine.specs.declared.rows.Placed.{Placed}
use Rattle.jc_machine.specs.Rows.{row_of}

-- ---- sizes (JVMS 6.5)

-- how many bytes stand behind an opcode; those of sipush, ldc and invokeinterface differ from the others of their kind
abbrev pub operand_size : ℕ → ℕ → Operand → ℕ
operand_size at code Nothing = 0
operand_size at code (Number n) = if code == 0x11 then 2 else 1
operand_size at code (Local local) = 1
operand_size at code (Step local by) = 2
operand_size at code (Load loaded) = if code == 0x12 then 1 else 2
operand_size at code (Member class name descriptor) = if code == 0xb9 then 4 else 2
operand_size at code (Class class) = 2
operand_size at code (Dims class dims) = 3
operand_size at code (Jump to) = 2
operand_size at code (Switch otherwise cases) = 3 - at % 4 + 8 + 8 * length cases

-- the bytes of an instruction at this place; behind `wide` each number of the operand has twice its bytes
abbrev pub size_of : ℕ → Ins → ℕ
size_of at ins = if ins.wide then 2 + 2 * operand_size at ins.code ins.operand else 1 + operand_size at ins.code ins.operand

-- ---- places

-- the instructions from the one at this place on, where the first of them all stands at `start`
abbrev pub rest_from : ℕ → List Ins → ℕ → List Ins
rest_from start [] at = []
rest_from start (i ∷ is) at = if start == at then i ∷ is else rest_from (start + size_of start i) is at

-- the place behind an instruction; code has at most 65535 bytes (JVMS 4.7.3), and what ends later isn't there
abbrev pub end_of : ℕ → Ins → Option ℕ
end_of at ins = if nat_le (at + size_of at ins) 65535 then Some (at + size_of at ins) else None

-- the row of an instruction at this place, and the place behind it
abbrev pub place_of : ℕ → Ins → Option Placed
place_of at ins = option_and_then (λ next. option_map (λ row. record { row = row; next = next }) (row_of ins)) (end_of at ins)

-- the place of the first instruction, if there is one
abbrev pub first_place : ℕ → List Ins → Option Placed
first_place at [] = None
first_place at (i ∷ is) = place_of at i

-- the row at this place of the instructions of a method
abbrev pub placed_in : List Ins → ℕ → Option Placed
placed_in ins at = first_place at (rest_from 0 ins at)
