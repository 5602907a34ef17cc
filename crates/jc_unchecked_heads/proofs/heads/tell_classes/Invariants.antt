use Rattle.std.proofs.Common.{◌≡◌, drop}
use Rattle.jc_unchecked_spec.specs.Heads.{class_warned}
use Rattle.jc_unchecked_list.specs.Telling.{each_told}
use Rattle.jc_unchecked_heads.proofs.heads.tell_classes.Given as goal

abbrev pub invariant-loop-number : goal.invariant-loop-number
invariant-loop-number l = each_told (class_warned l.table) l.number (drop l.number l.classes) l.out ≡ each_told (class_warned l.table) 0 l.classes l.fn.out
