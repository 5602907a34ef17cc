use Rattle.std.proofs.Common.{arith}
use Rattle.jc_constraints.specs.Constraints.{implied_by_arg}
use Rattle.jc_constraints.proofs.Implications.{beside_more}
use Rattle.jc_constraints.proofs.implying.+implied.Goals as goal

pub implied_beside-loop-i-preserved : goal.implied_beside-loop-i-preserved
implied_beside-loop-i-preserved t c =
    let e = beside_more (implied_by_arg c.args.table.now c.args.env.now c.args.unknown.now) c.args.standing c.args.formals.now c.args.actuals.now c.loop-i.i c.index-formals-i.result c.index-actuals-i.result (omega arith) (omega arith) in
    cc (e, c.index-formals-i.is, c.index-actuals-i.is, c.loop-i.invariant, c.in_ok-more.ensures, c.in_ok-append.ensures.ok)
