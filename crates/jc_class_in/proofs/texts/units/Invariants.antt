use Rattle.std.proofs.Common.{◌≡◌, ◌-◌, length}
use Rattle.jc_class_out.specs.Texts.{units_on}
use Rattle.jc_class_in.proofs.Spelled.{units_front}
use Rattle.jc_class_in.proofs.texts.units.Given as goal

abbrev pub invariant-loop : goal.invariant-loop
invariant-loop l = units_front l.units (units_on (length l.bytes - l.counter) l.rest) ≡ units_on (length l.bytes) l.bytes
