use Rattle.std.proofs.Common.{◌≡◌, ◌++◌, false, replicate}
use Rattle.jc_class_in.proofs.marks.put_unmarked.Given as goal

abbrev pub invariant-loop : goal.invariant-loop
invariant-loop l = l.marks.items ≡ l.initial.marks.items ++ replicate l.counter false
