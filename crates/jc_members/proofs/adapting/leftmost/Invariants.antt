use Rattle.std.proofs.Common.{◌≡◌}
use Rattle.jc_overriding.specs.Signatures.{leftmost}
use Rattle.jc_overriding.specs.Viewing.{with_dims}
use Rattle.jc_members.proofs.adapting.leftmost.Given as goal

abbrev pub invariant-loop-left : goal.invariant-loop-left
invariant-loop-left l = with_dims l.dims (leftmost l.b l.left l.at) ≡ leftmost l.b l.fn.steps l.fn.t

abbrev pub decreases-loop-left : goal.decreases-loop-left
decreases-loop-left l = l.left
