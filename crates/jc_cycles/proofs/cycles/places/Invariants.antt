use Rattle.std.proofs.Common.{◌≡◌, ◌++◌, drop}
use Rattle.jc_cycles.specs.Cycles.{places}
use Rattle.jc_cycles.proofs.cycles.places.Given as goal

abbrev pub invariant-loop-class : goal.invariant-loop-class
invariant-loop-class l = l.list ++ places l.count (drop l.class-index l.classes) ≡ places l.count l.classes
