use Rattle.std.proofs.Common.{◌≡◌, take}
use Rattle.jc_machine.specs.Places.{places_of_methods}
use Rattle.jc_machine.proofs.program.method_places.Given as goal

abbrev pub invariant-loop-method : goal.invariant-loop-method
invariant-loop-method l = l.found ≡ places_of_methods (take l.method-index l.methods)
