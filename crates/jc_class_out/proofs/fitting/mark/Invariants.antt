use Rattle.std.proofs.Common.{◌≡◌, ◌+◌, ◌++◌, take, drop, true}
use Rattle.jc_class_out.specs.Code.{marks_from, marks_of, size_from}
use Rattle.jc_class_out.specs.Fitting.{all_fit}
use Rattle.jc_class_out.proofs.fitting.mark.Given as goal

abbrev pub invariant-loop-ins : goal.invariant-loop-ins
invariant-loop-ins l = record {
  fit : all_fit l.at (drop l.ins-index l.list) ≡ true;
  size : l.at + size_from l.at (drop l.ins-index l.list) ≡ size_from 0 l.list;
  marked : take l.at l.marks ++ marks_from l.at (drop l.ins-index l.list) ≡ marks_of l.list;
}
