use Rattle.std.proofs.Common.{◌≡◌, take}
use Rattle.jc_sites.proofs.members.copy_round.Given as goal

abbrev pub invariant-loop-class : goal.invariant-loop-class
invariant-loop-class l = l.copy ≡ take l.class-index l.round
