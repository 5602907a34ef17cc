use Rattle.std.proofs.Common.{None}
use Rattle.jc_class_out.specs.Pool.{slots_at}
use Rattle.jc_class_in.proofs.Slots.{slots_more}
use Rattle.jc_class_in.proofs.entries.slots.Goals as goal

pub loop-preserved : goal.loop-preserved
loop-preserved c =
    slots_more c.loop.slots.items c.push.new.self.items c.args.count c.loop.counter c.loop.pending c.loop.rest.now c.in_ok-next.next c.in_ok-next.then_pending c.in_ok-next.after.now (slots_at c.args.count None c.args.bytes.now)
    c.in_ok-push.ensures.items c.loop-test.true c.in_ok-next.ensures c.loop.invariant
