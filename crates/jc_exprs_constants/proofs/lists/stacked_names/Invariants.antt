use Rattle.std.proofs.Common.{◌≡◌, ◌<◌, ◌++◌, [], length}
use Rattle.jc_typed.specs.Parts.{names_of}
use Rattle.jc_exprs_constants.specs.Knowing.{unstacked_names}
use Rattle.jc_exprs_constants.proofs.lists.stacked_names.Given as goal

abbrev pub invariant-loop-before : goal.invariant-loop-before
invariant-loop-before l = (names_of l.nodes l.at ++ unstacked_names l.out [] ≡ names_of l.nodes l.fn.list ++ unstacked_names l.fn.out []) × (l.at < length l.nodes)

abbrev pub decreases-loop-before : goal.decreases-loop-before
decreases-loop-before l = l.at
