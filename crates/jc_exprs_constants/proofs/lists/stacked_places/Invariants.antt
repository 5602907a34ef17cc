use Rattle.std.proofs.Common.{◌≡◌, ◌<◌, ◌++◌, [], length}
use Rattle.jc_typed.specs.Parts.{places_of}
use Rattle.jc_exprs_constants.specs.Knowing.{unstacked}
use Rattle.jc_exprs_constants.proofs.lists.stacked_places.Given as goal

abbrev pub invariant-loop-before : goal.invariant-loop-before
invariant-loop-before l = (places_of l.nodes l.at ++ unstacked l.out [] ≡ places_of l.nodes l.fn.list ++ unstacked l.fn.out []) × (l.at < length l.nodes)

abbrev pub decreases-loop-before : goal.decreases-loop-before
decreases-loop-before l = l.at
