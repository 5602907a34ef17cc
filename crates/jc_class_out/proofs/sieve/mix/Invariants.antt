use Rattle.std.proofs.Common.{◌≡◌, drop}
use Rattle.jc_class_out.specs.Sifting.{mix}
use Rattle.jc_class_out.proofs.sieve.mix.Given as goal

abbrev pub invariant-loop-unit : goal.invariant-loop-unit
invariant-loop-unit l = mix l.mixed (drop l.unit-index l.units) ≡ mix l.start l.units
