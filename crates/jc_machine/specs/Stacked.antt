-- The operand stack of a frame (JVMS 2.6.2).
use Rattle.std.specs.Prelude.{ℕ, ◌+◌, nat_le, List, [], ◌∷◌, if◌then◌else◌}
use Rattle.std.specs.declared.option.Option.{Option}
use Rattle.std.specs.declared.option.Option.TheVariants.{Some, None}
use Rattle.jc_machine.specs.declared.value.Value.{Value}
use Rattle.jc_machine.specs.declared.value.Value.TheVariants.{Whole, Long, Address, NullValue}

-- the values from the top, and how many units they may have
pub record Stacked : Type 0 where
  pub values : List Value
  pub limit : ℕ

-- a long has two units, every other value one
abbrev pub units_of : Value → ℕ
units_of (Whole n) = 1
units_of (Long n) = 2
units_of (Address at) = 1
units_of NullValue = 1

-- the units of all these values
abbrev pub units_in : List Value → ℕ
units_in [] = 0
units_in (v ∷ vs) = units_of v + units_in vs

-- with one value more on top, where there is room
abbrev pub pushed : Stacked → Value → Option Stacked
pushed stack value =
    if nat_le (units_of value + units_in stack.values) stack.limit then Some (record stack { values = value ∷ stack.values }) else None
