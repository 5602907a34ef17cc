use Rattle.std.proofs.Common.{◌≡◌, drop, ◌++◌}
use Rattle.std.specs.List.{AllByRecursion}
use Rattle.std.specs.Prelude.{flat_map}
use Rattle.jc_small.specs.Small.{IsSum}
use Rattle.jc_small.specs.ClassOf.{write_code}
use Rattle.jc_small.proofs.emitting.emit_main.Given as goal

abbrev pub invariant-loop-sum : goal.invariant-loop-sum
invariant-loop-sum l = record { code : l.code ++ flat_map write_code (drop l.sum-index l.program) ≡ flat_map write_code l.program; sums : AllByRecursion IsSum (drop l.sum-index l.program) }
