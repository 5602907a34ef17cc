use Rattle.std.proofs.Common.{arith}
use Rattle.jc_resolve_sites.specs.Above.{above, above_in_arg}
use Rattle.jc_resolve_sites.proofs.Greatest.{one_more}
use Rattle.jc_resolve_sites.proofs.above.+above.Goals as goal

pub above_args-loop-i-preserved : goal.above_args-loop-i-preserved
above_args-loop-i-preserved t c =
    let e = one_more above_in_arg c.args.list.now c.loop-i.i c.index-list-i.result c.loop-i.most (omega arith) c.index-list-i.is c.loop-i.invariant in
    cc (e, c.in_ok-next.ensures, c.greater-most.ensures)

pub above_types-loop-i-preserved : goal.above_types-loop-i-preserved
above_types-loop-i-preserved t c =
    let e = one_more above c.args.list.now c.loop-i.i c.index-list-i.result c.loop-i.most (omega arith) c.index-list-i.is c.loop-i.invariant in
    cc (e, c.in_ok-next.ensures, c.greater-most.ensures)
