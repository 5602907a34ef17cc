use Rattle.std.proofs.Common.{◌≡◌, ◌+◌, ◌<◌, drop}
use Rattle.jc_class_out.specs.Code.{size_from}
use Rattle.jc_class_out.specs.Fitting.{all_fit}
use Rattle.jc_class_out.proofs.fitting.measured.Given as goal

abbrev pub invariant-loop-ins : goal.invariant-loop-ins
invariant-loop-ins l = record { fit : all_fit l.at (drop l.ins-index l.list) ≡ all_fit 0 l.list; size : l.at + size_from l.at (drop l.ins-index l.list) ≡ size_from 0 l.list; small : l.at < 65536 }
