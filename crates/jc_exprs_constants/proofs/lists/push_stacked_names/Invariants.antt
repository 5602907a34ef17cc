use Rattle.std.proofs.Common.{◌≡◌, ◌<◌, ◌++◌, [], length}
use Rattle.jc_typed.specs.Parts.{Grows, names_of}
use Rattle.jc_exprs_constants.specs.Knowing.{unstacked_names}
use Rattle.jc_exprs_constants.proofs.lists.push_stacked_names.Given as goal

abbrev pub invariant-loop-named : goal.invariant-loop-named
invariant-loop-named l =
    (names_of l.nodes l.list ++ unstacked_names l.left [] ≡ names_of l.fn.nodes l.fn.before ++ unstacked_names l.fn.stack [])
    × (l.list < length l.nodes)
    × Grows l.fn.nodes l.nodes

abbrev pub decreases-loop-named : goal.decreases-loop-named
decreases-loop-named l = length l.left
