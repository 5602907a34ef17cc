use Rattle.std.proofs.Common.{◌≡◌, length}
use Rattle.std.specs.Prelude.{IsTrue}
use Rattle.jc_jvm.specs.Initialising.{resumed}
use Rattle.jc_waiting.specs.Memory.{resumed_makes}
use Rattle.jc_waiting.proofs.initialising.resume.Given as goal

-- what still waits gives the same state
abbrev pub invariant-loop-nearest : goal.invariant-loop-nearest
invariant-loop-nearest l = record {
  state : resumed l.classes l.world l.waiting ≡ resumed l.classes l.initial.world l.initial.waiting;
  memory : IsTrue (resumed_makes l.classes l.waiting) → IsTrue (resumed_makes l.classes l.initial.waiting);
}

abbrev pub decreases-loop-nearest : goal.decreases-loop-nearest
decreases-loop-nearest l = length l.waiting
