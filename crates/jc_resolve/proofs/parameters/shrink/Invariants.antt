use Rattle.std.proofs.Common.{◌≡◌, ◌≤◌, length, take}
use Rattle.jc_resolve.proofs.parameters.shrink.Given as goal

abbrev pub invariant-loop-bounds : goal.invariant-loop-bounds
invariant-loop-bounds l = (l.to ≤ length l.bounds) × (take l.to l.bounds ≡ take l.to l.initial.bounds)

abbrev pub decreases-loop-bounds : goal.decreases-loop-bounds
decreases-loop-bounds l = length l.bounds
