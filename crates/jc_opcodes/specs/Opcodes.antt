-- The instruction of a number (JVMS 6.5).
use Rattle.std.specs.Prelude.{ℕ, slice_get}
use Rattle.std.specs.Option.{option_flatten}
use Rattle.std.specs.declared.option.Option.{Option}
use Rattle.jc_opcodes.specs.declared.opcode.Opcode.{Opcode}
use Rattle.jc_opcodes.specs.declared.opcode.TheConstants.{OPCODES}

-- by the table of the numbers
unfoldable pub opcode_of : ℕ → Option Opcode
opcode_of number = option_flatten (slice_get OPCODES number)
