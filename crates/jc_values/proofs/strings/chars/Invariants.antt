use Rattle.std.proofs.Common.{◌≡◌, take, map}
use Rattle.jc_heaps.specs.Making.{char_value}
use Rattle.jc_values.proofs.strings.chars.Given as goal

abbrev pub invariant-loop-i : goal.invariant-loop-i
invariant-loop-i l = l.out ≡ map char_value (take l.i l.units)
