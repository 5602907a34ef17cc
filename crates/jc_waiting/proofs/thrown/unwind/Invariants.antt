use Rattle.std.proofs.Common.{◌≡◌, length}
use Rattle.std.specs.Prelude.{IsTrue}
use Rattle.jc_jvm.specs.Thrown.{unwound}
use Rattle.jc_waiting.specs.Memory.{unwound_makes}
use Rattle.jc_waiting.proofs.thrown.unwind.Given as goal

-- what is left on the way gives the same state
abbrev pub invariant-loop-nearest : goal.invariant-loop-nearest
invariant-loop-nearest l = record {
  state : unwound l.classes l.waiting l.world l.thrown l.address ≡ unwound l.classes l.initial.waiting l.initial.world l.initial.thrown l.initial.address;
  memory : IsTrue (unwound_makes l.classes l.waiting l.thrown) → IsTrue (unwound_makes l.classes l.initial.waiting l.initial.thrown);
}

abbrev pub decreases-loop-nearest : goal.decreases-loop-nearest
decreases-loop-nearest l = length l.waiting
