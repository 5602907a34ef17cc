use Rattle.std.proofs.Common.{◌≡◌, ◌<◌, ◌++◌, length, reverse}
use Rattle.jc_typed.specs.Parts.{Grows, places_of}
use Rattle.jc_exprs_operators.proofs.listing.push_places_turned.Given as goal

abbrev pub invariant-loop-rest : goal.invariant-loop-rest
invariant-loop-rest l =
    (places_of l.nodes l.list ++ reverse (places_of l.nodes l.left) ≡ places_of l.fn.nodes l.fn.before ++ reverse (places_of l.fn.nodes l.fn.places))
    × (l.list < length l.nodes)
    × (l.left < length l.nodes)
    × Grows l.fn.nodes l.nodes

abbrev pub decreases-loop-rest : goal.decreases-loop-rest
decreases-loop-rest l = l.left
