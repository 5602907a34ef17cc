use Rattle.std.proofs.Common.{◌≡◌, length}
use Rattle.jc_overriding.specs.Signatures.{first_bound}
use Rattle.jc_members.proofs.adapting.first_bound.Given as goal

abbrev pub invariant-loop-left : goal.invariant-loop-left
invariant-loop-left l = first_bound l.t l.v l.left l.rest ≡ first_bound l.t l.v l.fn.vars l.fn.bounds

abbrev pub decreases-loop-left : goal.decreases-loop-left
decreases-loop-left l = length l.left
