use Rattle.std.proofs.Common.{◌≡◌, ◌+◌, length, drop}
use Rattle.jc_class_out.specs.Code.{all_land, size_from}
use Rattle.jc_class_in.proofs.marks.check_jumps.Given as goal

abbrev pub invariant-loop-ins : goal.invariant-loop-ins
invariant-loop-ins l = record {
  same : all_land l.marks l.left l.at (drop l.ins-index l.list) ≡ all_land l.marks l.fn.left 0 l.list;
  room : l.at + size_from l.at (drop l.ins-index l.list) ≡ length l.marks;
}
