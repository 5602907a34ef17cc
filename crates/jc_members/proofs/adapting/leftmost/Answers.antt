use Rattle.std.proofs.Common.{ap, ◌∙◌, ◌-◌, arith}
use Rattle.jc_overriding.specs.Signatures.{leftmost}
use Rattle.jc_overriding.specs.Viewing.{with_dims}
use Rattle.jc_members.proofs.Dims.{left_array}
use Rattle.jc_members.proofs.adapting.leftmost.Goals as goal

pub loop-left-preserved : goal.loop-left-preserved
loop-left-preserved c =
    ap (λ u. with_dims c.in_ok-dims-in-Array.dims (leftmost c.args.b.now (c.loop-left.left - 1) u)) c.get-at.ensures
    ∙ left_array c.args.b.now c.loop-left.left c.loop-left.dims c.in_ok-dims-in-Array.dims c.in-Array.further c.loop-left.at.now c.in-Array.of (omega arith) c.in-Array.is c.in_ok-dims-in-Array.ensures
    ∙ c.loop-left.invariant
