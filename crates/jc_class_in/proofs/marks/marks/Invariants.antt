use Rattle.std.proofs.Common.{◌≡◌, ◌++◌, length, drop}
use Rattle.jc_class_out.specs.Code.{marks_from, marks_of}
use Rattle.jc_class_in.proofs.marks.marks.Given as goal

abbrev pub invariant-loop-ins : goal.invariant-loop-ins
invariant-loop-ins l = l.marks.items ++ marks_from (length l.marks.items) (drop l.ins-index l.list) ≡ marks_of l.list
