use Rattle.std.proofs.Common.{◌≡◌, length}
use Rattle.jc_overriding.specs.Signatures.{all_one_of}
use Rattle.jc_members.proofs.signatures.all_one_of.Given as goal

abbrev pub invariant-loop-ss : goal.invariant-loop-ss
invariant-loop-ss l = all_one_of l.ss l.others ≡ all_one_of l.types l.others

abbrev pub decreases-loop-ss : goal.decreases-loop-ss
decreases-loop-ss l = length l.ss
