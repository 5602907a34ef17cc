use Rattle.std.proofs.Common.{None}
use Rattle.jc_class_out.specs.Instructions.{cases_at}
use Rattle.jc_class_in.proofs.Cases.{cases_more}
use Rattle.jc_class_in.proofs.switches.cases.Goals as goal

pub loop-preserved : goal.loop-preserved
loop-preserved c =
    cases_more c.args.at c.loop.list c.push.new.self c.args.count c.loop.counter c.loop.before c.key_of-key.result c.loop.rest.now c.in_ok-next.next c.in_ok-next.after.now (cases_at c.args.count c.args.at None c.args.bytes.now)
    c.in_ok-push.ensures.ok c.key_of-key.ensures c.loop-test.true c.in_ok-next.ensures c.loop.invariant
