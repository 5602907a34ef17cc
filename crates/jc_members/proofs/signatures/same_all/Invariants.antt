use Rattle.std.proofs.Common.{◌≡◌, length}
use Rattle.jc_overriding.specs.Signatures.{same_all}
use Rattle.jc_members.proofs.signatures.same_all.Given as goal

abbrev pub invariant-loop-ss : goal.invariant-loop-ss
invariant-loop-ss l = same_all l.ss l.ts ≡ same_all l.fn.left l.fn.right

abbrev pub decreases-loop-ss : goal.decreases-loop-ss
decreases-loop-ss l = length l.ss
