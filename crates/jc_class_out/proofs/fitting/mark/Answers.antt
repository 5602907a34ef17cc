use Rattle.std.proofs.Common.{arith, ◌≡◌, ◌≤◌, ◌∙◌, ap, sym, ℕ, length, take}
use Rattle.jc_class_out.specs.Instructions.{ins_size}
use Rattle.jc_class_out.specs.Code.{marks_of, size_from}
use Rattle.jc_class_out.proofs.Marks.{mark_more, size_more, all_marked, all_measured, fit_more}
use Rattle.jc_class_out.proofs.fitting.mark.Goals as goal

pub loop-ins-preserved : goal.loop-ins-preserved
loop-ins-preserved c =
    let v : c.bytes_of-size.result ≡ ins_size c.loop-ins.at c.ins-item.result = c.bytes_of-size.ensures.value in
    record {
      fit = rw v (fit_more c.args.list.now c.loop-ins.ins-index c.ins-item.result c.loop-ins.at c.loop-ins-test.true c.ins-item.is c.loop-ins.invariant.fit);
      size = size_more c.args.list.now c.loop-ins.ins-index c.ins-item.result c.loop-ins.at c.bytes_of-size.result (size_from 0 c.args.list.now) c.loop-ins-test.true c.ins-item.is v c.loop-ins.invariant.size;
      marked = mark_more c.args.list.now c.loop-ins.ins-index c.ins-item.result c.loop-ins.at c.bytes_of-size.result c.loop-ins.marks c.mark_one.new.marks (marks_of c.args.list.now) c.loop-ins-test.true c.ins-item.is v c.mark_one.ensures c.loop-ins.invariant.marked;
    }

pub returns : goal.returns
returns c =
    let le : length c.args.list.now ≤ c.loop-ins.ins-index = omega arith in
    let end = all_measured c.args.list.now c.loop-ins.ins-index c.loop-ins.at (size_from 0 c.args.list.now) le c.loop-ins.invariant.size in
    let size : c.args.size ≡ c.loop-ins.at = c.requires.size.is ∙ sym end in
    ap (λ (n : ℕ). take n c.loop-ins.marks) size ∙ all_marked c.args.list.now c.loop-ins.ins-index c.loop-ins.at c.loop-ins.marks (marks_of c.args.list.now) le c.loop-ins.invariant.marked
