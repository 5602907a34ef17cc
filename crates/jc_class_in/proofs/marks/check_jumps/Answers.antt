use Rattle.std.proofs.Common.{◌≡◌, ◌-◌, ◌<◌, ◌^◌, length, arith, rules}
use Rattle.jc_class_out.specs.Instructions.{ins_size}
use Rattle.jc_class_out.specs.Code.{all_land}
use Rattle.jc_class_in.proofs.Marked.{size_first, land_more}
use Rattle.jc_class_in.proofs.marks.check_jumps.Goals as goal

pub overflow_add-at : goal.overflow_add-at
overflow_add-at c =
    let first = size_first c.args.list.now c.loop-ins.ins-index c.loop-ins.at c.ins-item.result c.loop-ins-test.true c.ins-item.is in
    let size : c.ins_bytes-size.result ≡ ins_size c.loop-ins.at c.ins-item.result = c.ins_bytes-size.ensures.value in
    let small : length c.args.marks.now < 2 ^ 64 = search rules in
    omega (arith, first, size, c.loop-ins.invariant.room)

pub loop-ins-preserved : goal.loop-ins-preserved
loop-ins-preserved c =
    let left : c.saturating_sub-left.result ≡ c.loop-ins.left - c.ins_bytes-size.result = search rules in
    let step = land_more c.args.marks.now c.args.list.now c.loop-ins.ins-index c.ins-item.result c.loop-ins.left c.saturating_sub-left.result c.loop-ins.at c.ins_bytes-size.result (all_land c.args.marks.now c.args.left 0 c.args.list.now) (length c.args.marks.now)
    c.loop-ins-test.true c.ins-item.is c.ins_bytes-size.ensures.value left c.in_ok-check_jump.ensures c.loop-ins.invariant.same c.loop-ins.invariant.room in
    record { same = step.0; room = step.1 }
