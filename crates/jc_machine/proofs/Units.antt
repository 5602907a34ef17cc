-- Units of values.
use Rattle.std.proofs.Common.{◌≡◌, ◌≤◌, ◌+◌, List, [], ◌∷◌, ◌++◌, length, reverse, arith}
use Rattle.std.proofs.lemmas.List.{reverse-append, length-reverse}
use Rattle.jc_machine.specs.declared.value.Value.{Value}
use Rattle.jc_machine.specs.declared.value.Value.TheVariants.{Whole, Long, Address, NullValue}
use Rattle.jc_machine.specs.Stacked.{units_of, units_in}

pub has_a_unit : (v : Value) → 1 ≤ units_of v
has_a_unit (Whole n) = omega arith
has_a_unit (Long n) = omega arith
has_a_unit (Address at) = omega arith
has_a_unit NullValue = omega arith

-- there are at most as many values as units
length_le : (vs : List Value) → length vs ≤ units_in vs
length_le [] = omega arith
length_le (v ∷ vs) = omega (arith, has_a_unit v, length_le vs)

pub length_le_units : (vs : List Value) → length vs ≤ units_in (reverse vs)
length_le_units vs = omega (arith, length_le (reverse vs), length-reverse vs)

-- one value more
pub reverse_more : (vs : List Value) (v : Value) → reverse (vs ++ v ∷ []) ≡ v ∷ reverse vs
reverse_more vs v = reverse-append vs (v ∷ [])
