use Rattle.std.proofs.Common.{◌≡◌, Ok, ap, length, rules}
use Rattle.jc_class_out.specs.Code.{marks_of}
use Rattle.jc_class_in.proofs.Marked.{marks_more, marks_done}
use Rattle.jc_class_in.proofs.marks.marks.Goals as goal

pub loop-ins-preserved : goal.loop-ins-preserved
loop-ins-preserved c =
    let at : c.len.result ≡ length c.loop-ins.marks.items = search rules in
    marks_more c.args.list.now c.loop-ins.ins-index c.ins-item.result c.loop-ins.marks.items c.push.new.self.items c.put_unmarked.new.marks.items (marks_of c.args.list.now) c.len.result c.ins_bytes-size.result
    c.loop-ins-test.true c.ins-item.is at c.ins_bytes-size.ensures.value c.ins_bytes-size.ensures.some c.in_ok-push.ensures.items c.in_ok-put_unmarked.ensures c.loop-ins.invariant

pub returns : goal.returns
returns c = ap Ok (marks_done c.args.list.now c.loop-ins.ins-index c.loop-ins.marks.items (marks_of c.args.list.now) c.loop-ins-test.false c.loop-ins.invariant)
