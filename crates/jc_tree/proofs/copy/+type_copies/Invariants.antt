use Rattle.std.proofs.Common.{◌≡◌, take}
use Rattle.jc_tree.proofs.copy.+type_copies.Given as goal

abbrev pub invariant-copy_args-loop-i : goal.invariant-copy_args-loop-i
invariant-copy_args-loop-i l = l.copies ≡ take l.i l.args

abbrev pub invariant-copy_parts-loop-i : goal.invariant-copy_parts-loop-i
invariant-copy_parts-loop-i l = l.copies ≡ take l.i l.parts
