-- Values that were taken from a stack.
use Rattle.std.specs.Prelude.{List, [], ◌∷◌, ◌++◌}
use Rattle.jc_jvm.specs.declared.value.Value.{Value}
use Rattle.jc_plain.specs.declared.takings.Taken.{Taken}
use Rattle.jc_plain.specs.declared.takings.Taken.TheVariants.{NoValue, OneValue, TwoValues}

-- from the top
abbrev pub values_of : Taken → List Value
values_of NoValue = []
values_of (OneValue a) = a ∷ []
values_of (TwoValues a b) = a ∷ b ∷ []

-- on these values
abbrev pub values_on : Taken → List Value → List Value
values_on taken values = values_of taken ++ values
