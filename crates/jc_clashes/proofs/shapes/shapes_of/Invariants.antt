use Rattle.std.proofs.Common.{◌≡◌, ◌++◌, drop}
use Rattle.jc_clashes.specs.Shapes.{shapes_of}
use Rattle.jc_clashes.proofs.shapes.shapes_of.Given as goal

abbrev pub invariant-loop-at : goal.invariant-loop-at
invariant-loop-at l = l.out ++ shapes_of l.table l.all (drop l.at l.all) ≡ shapes_of l.table l.all l.all
