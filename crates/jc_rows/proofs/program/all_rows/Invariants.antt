use Rattle.std.proofs.Common.{◌≡◌, map}
use Rattle.std.specs.List.{range_with_len}
use Rattle.jc_rows.specs.Laid.{class_rows}
use Rattle.jc_rows.proofs.program.all_rows.Given as goal

abbrev pub invariant-loop-class : goal.invariant-loop-class
invariant-loop-class l = l.found ≡ map (class_rows l.classes) (range_with_len 0 l.class)
