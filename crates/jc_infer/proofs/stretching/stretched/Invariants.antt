use Rattle.std.proofs.Common.{◌≡◌, ◌++◌, length}
use Rattle.jc_infer.specs.Formals.{stretched}
use Rattle.jc_infer.proofs.stretching.stretched.Given as goal

abbrev pub invariant-loop-rest : goal.invariant-loop-rest
invariant-loop-rest l = l.list ++ stretched l.rest l.left ≡ stretched l.params l.count

abbrev pub decreases-loop-rest : goal.decreases-loop-rest
decreases-loop-rest l = length l.rest
