use Rattle.std.proofs.Common.{◌≡◌, ◌≤◌, length, ◌-◌}
use Rattle.jc_class_out.specs.Descriptors.{parameters_on}
use Rattle.jc_class_out.proofs.descriptors.parameters.Given as goal

abbrev pub invariant-loop : goal.invariant-loop
invariant-loop l = record { same : parameters_on (length l.units - l.counter) l.used l.rest ≡ parameters_on (length l.units) 0 l.units; few : l.used ≤ 255 }
