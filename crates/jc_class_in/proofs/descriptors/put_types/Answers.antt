use Rattle.std.proofs.Common.{◌≡◌, ◌++◌, ◌-◌, Ok, ap, length, take, rules}
use Rattle.jc_class_out.specs.Descriptors.{item_of_type, items_on}
use Rattle.jc_class_in.proofs.Typed.{items_more, items_over, items_out}
use Rattle.jc_class_in.proofs.descriptors.put_types.Goals as goal

pub returns-in-None : goal.returns-in-None
returns-in-None c = ap Ok (items_over c.loop.list c.args.most c.loop.counter c.loop.rest.now (c.args.list ++ items_on c.args.most c.args.units.now) c.loop-test.true c.in-None.ensures c.loop.invariant)

pub loop-preserved : goal.loop-preserved
loop-preserved c =
    let first : c.split_at.result.0.now ≡ take (length c.loop.rest.now - length c.in-Some.after.now) c.loop.rest.now = search rules in
    let next : c.in_ok-next-in-Some.next ≡ item_of_type c.split_at.result.0.now = search rules in
    items_more c.loop.list c.push.new.self c.args.most c.loop.counter c.loop.rest.now c.split_at.result.0.now c.in-Some.after.now c.in_ok-next-in-Some.next (c.args.list ++ items_on c.args.most c.args.units.now)
    c.in_ok-push-in-Some.ensures.ok c.loop-test.true c.in-Some.ensures first next c.loop.invariant

pub returns : goal.returns
returns c = ap Ok (items_out c.loop.list c.args.most c.loop.counter c.loop.rest.now (c.args.list ++ items_on c.args.most c.args.units.now) c.loop-test.false c.loop.invariant)
