-- Written types behind others, and the value of a field.
use Rattle.std.specs.Prelude.{ℕ, Bool, true, false, List, ◌++◌, Option}
use Rattle.jc_tree.specs.declared.expression.Init.{Init}
use Rattle.jc_types.specs.declared.declarations.FieldValue.{FieldValue}
use Rattle.jc_types.specs.declared.declarations.FieldValue.TheVariants.{Unknown}
use Rattle.jc_types.specs.declared.declarations.Written.{Written}
use Rattle.jc_types.specs.declared.declarations.WrittenTypes.{WrittenTypes}
use Rattle.jc_declares.specs.declared.heads.Heads.{Heads}
use Rattle.jc_declares.specs.Constants.{constant_of}
use Rattle.jc_declares.specs.Looking.{Knowledge}
use Rattle.jc_declares.specs.Making.{types, constant_value}
use Rattle.jc_declares.specs.Writing.{Reading}

-- types and their places, with those of these behind them
unfoldable pub with_types : WrittenTypes → List Written → WrittenTypes
with_types l ws = record { types = l.types ++ (types ws).types; places = l.places ++ (types ws).places }

-- what is known of the value of a variable that is final, or isn't
abbrev pub value_of : Heads → Knowledge → ℕ → Reading → ℕ → Option Init → Bool → FieldValue
value_of H K file r scope init true = constant_value scope (constant_of H K file r init)
value_of H K file r scope init false = Unknown
