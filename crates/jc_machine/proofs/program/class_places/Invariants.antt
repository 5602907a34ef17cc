use Rattle.std.proofs.Common.{◌≡◌, take}
use Rattle.jc_machine.specs.Places.{places_of_classes}
use Rattle.jc_machine.proofs.program.class_places.Given as goal

abbrev pub invariant-loop-class : goal.invariant-loop-class
invariant-loop-class l = l.found ≡ places_of_classes (take l.class-index l.classes)
