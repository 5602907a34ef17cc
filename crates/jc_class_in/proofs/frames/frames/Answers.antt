use Rattle.std.proofs.Common.{◌≡◌, None, rules}
use Rattle.jc_class_out.specs.Frames.{frames_at}
use Rattle.jc_class_in.proofs.Framed.{frames_more}
use Rattle.jc_class_in.proofs.frames.frames.Goals as goal

pub loop-preserved : goal.loop-preserved
loop-preserved c =
    let slice : c.slice.result.now ≡ c.loop.list = search rules in
    frames_more c.args.pool.now c.args.marks.now c.args.entry.now c.loop.list c.push.new.self c.args.count c.loop.counter c.loop.rest.now c.in_ok-next.next c.in_ok-next.after.now (frames_at c.args.pool.now c.args.marks.now c.args.count None c.args.entry.now c.args.bytes.now)
    c.in_ok-push.ensures.ok c.loop-test.true (rw slice at c.in_ok-next.ensures) c.loop.invariant
