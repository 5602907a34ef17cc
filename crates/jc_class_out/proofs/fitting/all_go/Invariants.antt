use Rattle.std.proofs.Common.{◌≡◌, drop}
use Rattle.std.specs.List.{list_all}
use Rattle.jc_class_out.specs.Fitting.{ins_lands}
use Rattle.jc_class_out.proofs.fitting.all_go.Given as goal

abbrev pub invariant-loop-ins : goal.invariant-loop-ins
invariant-loop-ins l = list_all (ins_lands l.marks) (drop l.ins-index l.list) ≡ list_all (ins_lands l.marks) l.list
