use Rattle.std.proofs.Common.{◌≡◌, ◌++◌, length}
use Rattle.jc_clashes.specs.Spreading.{belows_of}
use Rattle.jc_clashes.proofs.shapes.belows_of.Given as goal

abbrev pub invariant-loop-rest : goal.invariant-loop-rest
invariant-loop-rest l = l.out ++ belows_of l.table l.all l.rest ≡ belows_of l.table l.all l.all

abbrev pub decreases-loop-rest : goal.decreases-loop-rest
decreases-loop-rest l = length l.rest
