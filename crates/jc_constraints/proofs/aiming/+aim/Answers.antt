use Rattle.std.proofs.Common.{arith}
use Rattle.jc_constraints.specs.Targets.{with_aim}
use Rattle.jc_constraints.proofs.Aimings.{aims_more}
use Rattle.jc_constraints.proofs.aiming.+aim.Goals as goal

pub aimed_beside-loop-i-preserved : goal.aimed_beside-loop-i-preserved
aimed_beside-loop-i-preserved t c =
    let e = aims_more (with_aim c.args.table.now c.args.env.now c.args.unknown.now) c.args.targets.now c.args.formals.now c.loop-i.i c.index-targets-i.result c.index-formals-i.result (omega arith) (omega arith) in
    cc (e, c.index-targets-i.is, c.index-formals-i.is, c.loop-i.invariant, c.in_ok-more.ensures, c.in_ok-append.ensures.ok)
