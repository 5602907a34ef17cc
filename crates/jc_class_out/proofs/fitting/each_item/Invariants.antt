use Rattle.std.proofs.Common.{◌≡◌, drop}
use Rattle.std.specs.List.{list_all}
use Rattle.jc_class_out.specs.Fitting.{item_fits}
use Rattle.jc_class_out.proofs.fitting.each_item.Given as goal

abbrev pub invariant-loop-one : goal.invariant-loop-one
invariant-loop-one l = list_all (item_fits l.marks) (drop l.one-index l.items) ≡ list_all (item_fits l.marks) l.items
