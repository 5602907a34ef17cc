use Rattle.std.proofs.Common.{◌≡◌, drop}
use Rattle.std.specs.List.{list_all}
use Rattle.jc_class_out.specs.Fitting.{handler_fits}
use Rattle.jc_class_out.proofs.fitting.handlers.Given as goal

abbrev pub invariant-loop-row : goal.invariant-loop-row
invariant-loop-row l = list_all (handler_fits l.marks) (drop l.row-index l.rows) ≡ list_all (handler_fits l.marks) l.rows
