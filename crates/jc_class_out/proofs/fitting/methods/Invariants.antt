use Rattle.std.proofs.Common.{◌≡◌, drop}
use Rattle.std.specs.List.{list_all}
use Rattle.jc_class_out.specs.Fitting.{method_fits}
use Rattle.jc_class_out.proofs.fitting.methods.Given as goal

abbrev pub invariant-loop-one : goal.invariant-loop-one
invariant-loop-one l = list_all (method_fits l.class) (drop l.one-index l.list) ≡ list_all (method_fits l.class) l.list
