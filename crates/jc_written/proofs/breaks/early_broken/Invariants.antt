use Rattle.std.proofs.Common.{◌≡◌, drop}
use Rattle.jc_types.specs.Breaks.{least}
use Rattle.jc_declares.specs.Breaks.{in_file}
use Rattle.jc_written.specs.Trees.{early_in}
use Rattle.jc_written.proofs.breaks.early_broken.Given as goal

abbrev pub invariant-loop-next : goal.invariant-loop-next
invariant-loop-next l = least l.found (in_file l.file (early_in l.part (drop l.next-index l.next-items))) ≡ least l.initial.found (in_file l.file (early_in l.initial.part l.next-items))
