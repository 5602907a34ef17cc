use Rattle.jc_class_out.specs.Reading.{many}
use Rattle.jc_class_in.proofs.Rows.{many_more}
use Rattle.jc_class_in.proofs.many.row.Goals as goal

pub loop-preserved : goal.loop-preserved
loop-preserved g c =
    many_more (g.P.Part.reads c.args.part.now) c.loop.list c.push.new.self c.args.count c.loop.counter c.loop.rest.now c.in_ok-next.next c.in_ok-next.after.now (many (g.P.Part.reads c.args.part.now) c.args.count c.args.bytes.now)
    c.in_ok-push.ensures.ok c.loop-test.true c.in_ok-next.ensures c.loop.invariant
