use Rattle.std.proofs.Common.{◌≡◌, ◌++◌, length}
use Rattle.jc_meaning.specs.Kept.{bindings}
use Rattle.jc_kept.proofs.binding.bindings.Given as goal

abbrev pub invariant-loop-rest : goal.invariant-loop-rest
invariant-loop-rest l = l.out ++ bindings l.rest l.others ≡ bindings l.fn.vars l.fn.types

abbrev pub decreases-loop-rest : goal.decreases-loop-rest
decreases-loop-rest l = length l.rest
