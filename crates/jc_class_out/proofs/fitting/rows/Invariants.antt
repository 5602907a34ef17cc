use Rattle.std.proofs.Common.{◌≡◌, drop}
use Rattle.std.specs.List.{list_all}
use Rattle.jc_class_out.specs.Fitting.{inner_fits}
use Rattle.jc_class_out.proofs.fitting.rows.Given as goal

abbrev pub invariant-loop-one : goal.invariant-loop-one
invariant-loop-one l = list_all inner_fits (drop l.one-index l.list) ≡ list_all inner_fits l.list
