use Rattle.std.proofs.Common.{◌≡◌, ◌++◌, length, map}
use Rattle.jc_members.specs.Below.{replaces}
use Rattle.jc_clashes.specs.Spreading.{below_in}
use Rattle.jc_clashes.proofs.shapes.below_in.Given as goal

abbrev pub invariant-loop-rest : goal.invariant-loop-rest
invariant-loop-rest l = l.below ++ map (replaces l.table l.m) l.rest ≡ below_in l.table l.all l.m

abbrev pub decreases-loop-rest : goal.decreases-loop-rest
decreases-loop-rest l = length l.rest
