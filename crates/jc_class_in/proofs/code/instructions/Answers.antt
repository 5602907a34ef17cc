use Rattle.std.proofs.Common.{◌≡◌, ◌<◌, ◌-◌, length, arith, rules}
use Rattle.jc_class_out.specs.Code.{code_on}
use Rattle.jc_class_in.proofs.Coded.{code_more}
use Rattle.jc_class_in.proofs.code.instructions.Goals as goal

pub loop-preserved : goal.loop-preserved
loop-preserved c =
    let used : c.saturating_sub-used.result ≡ length c.args.bytes.now - length c.loop.rest.now = search rules in
    let more : c.saturating_sub-used.result < c.args.len = omega arith in
    code_more c.args.pool.now (length c.args.bytes.now) c.args.len c.saturating_sub-used.result c.loop.list c.push.new.self c.loop.counter c.loop.rest.now c.in_ok-next.next c.in_ok-next.after.now (code_on c.args.pool.now (length c.args.bytes.now) c.args.len c.args.len c.args.bytes.now)
    c.in_ok-push.ensures.ok c.loop-test.true used more c.in_ok-next.ensures c.loop.invariant
