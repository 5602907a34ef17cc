use Rattle.std.proofs.Common.{◌≡◌, ◌≤◌, length, take}
use Rattle.jc_sub.proofs.answering.shrink.Given as goal

abbrev pub invariant-loop-fresh : goal.invariant-loop-fresh
invariant-loop-fresh l = (l.to ≤ length l.fresh) × (take l.to l.fresh ≡ take l.to l.initial.fresh)

abbrev pub decreases-loop-fresh : goal.decreases-loop-fresh
decreases-loop-fresh l = length l.fresh
