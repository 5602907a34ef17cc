use Rattle.std.proofs.Common.{◌≡◌, take, map}
use Rattle.jc_heaps.specs.Layout.{default_of}
use Rattle.jc_layout.proofs.fields.defaults.Given as goal

abbrev pub invariant-loop-i : goal.invariant-loop-i
invariant-loop-i l = l.out ≡ map (default_of l.table) (take l.i l.fields)
