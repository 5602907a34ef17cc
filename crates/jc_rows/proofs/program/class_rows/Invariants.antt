use Rattle.std.proofs.Common.{◌≡◌, map}
use Rattle.std.specs.List.{range_with_len}
use Rattle.jc_rows.specs.Laid.{method_rows}
use Rattle.jc_rows.proofs.program.class_rows.Given as goal

abbrev pub invariant-loop-method : goal.invariant-loop-method
invariant-loop-method l = l.found ≡ map (method_rows l.classes l.class) (range_with_len 0 l.method)
