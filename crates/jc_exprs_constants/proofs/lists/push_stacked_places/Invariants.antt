use Rattle.std.proofs.Common.{◌≡◌, ◌<◌, ◌++◌, [], length}
use Rattle.jc_typed.specs.Parts.{Grows, places_of}
use Rattle.jc_exprs_constants.specs.Knowing.{unstacked}
use Rattle.jc_exprs_constants.proofs.lists.push_stacked_places.Given as goal

abbrev pub invariant-loop-last : goal.invariant-loop-last
invariant-loop-last l =
    (places_of l.nodes l.list ++ unstacked l.left [] ≡ places_of l.fn.nodes l.fn.before ++ unstacked l.fn.stack [])
    × (l.list < length l.nodes)
    × Grows l.fn.nodes l.nodes

abbrev pub decreases-loop-last : goal.decreases-loop-last
decreases-loop-last l = length l.left
