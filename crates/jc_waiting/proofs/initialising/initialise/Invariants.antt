use Rattle.std.proofs.Common.{◌≡◌, ◌-◌, length}
use Rattle.jc_jvm.specs.Initialising.{initialised_on}
use Rattle.jc_waiting.specs.Memory.{initialised_makes, resumed_makes}
use Rattle.jc_waiting.proofs.initialising.initialise.Given as goal

-- what is left to begin gives the same state
abbrev pub invariant-loop-begun : goal.invariant-loop-begun
invariant-loop-begun l = record {
  state : initialised_on l.classes (length l.classes - l.begun) l.here l.world l.waiting ≡ initialised_on l.classes (length l.classes) l.class l.initial.world l.initial.waiting;
  memory : initialised_makes l.classes (length l.classes - l.begun) l.here l.world (resumed_makes l.classes l.waiting) ≡ initialised_makes l.classes (length l.classes) l.class l.initial.world (resumed_makes l.classes l.initial.waiting);
}
