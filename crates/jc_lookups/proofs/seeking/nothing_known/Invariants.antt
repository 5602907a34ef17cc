use Rattle.std.proofs.Common.{◌≡◌, replicate}
use Rattle.jc_lookups.proofs.seeking.nothing_known.Given as goal

abbrev pub invariant-loop-made : goal.invariant-loop-made
invariant-loop-made l = l.known.items ≡ replicate l.made 0
