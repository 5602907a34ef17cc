use Rattle.std.proofs.Common.{◌≡◌, length, map}
use Rattle.jc_overriding.specs.Signatures.{adapted, same_lists}
use Rattle.jc_members.proofs.signatures.all_same_bounds.Given as goal

abbrev pub invariant-loop-ss : goal.invariant-loop-ss
invariant-loop-ss l = same_lists l.ss (map (map (adapted l.a l.b)) l.ts) ≡ same_lists l.a.bounds (map (map (adapted l.a l.b)) l.b.bounds)

abbrev pub decreases-loop-ss : goal.decreases-loop-ss
decreases-loop-ss l = length l.ss
