use Rattle.std.proofs.Common.{◌≡◌, ◌<◌, ◌++◌, length, reverse}
use Rattle.jc_typed.specs.Parts.{Grows, names_of}
use Rattle.jc_exprs_operators.proofs.listing.push_names_turned.Given as goal

abbrev pub invariant-loop-rest : goal.invariant-loop-rest
invariant-loop-rest l =
    (names_of l.nodes l.list ++ reverse (names_of l.nodes l.left) ≡ names_of l.fn.nodes l.fn.before ++ reverse (names_of l.fn.nodes l.fn.names))
    × (l.list < length l.nodes)
    × (l.left < length l.nodes)
    × Grows l.fn.nodes l.nodes

abbrev pub decreases-loop-rest : goal.decreases-loop-rest
decreases-loop-rest l = l.left
