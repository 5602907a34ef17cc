use Rattle.std.proofs.Common.{◌≡◌, map, take}
use Rattle.jc_heaps.specs.Layout.{default_value}
use Rattle.jc_meaning.specs.Programs.{local_types}
use Rattle.jc_acts.proofs.frames.defaults.Given as goal

abbrev pub invariant-loop-local : goal.invariant-loop-local
invariant-loop-local l = l.out ≡ map default_value (local_types (take l.local-index l.locals))
