use Rattle.std.proofs.Common.{◌≡◌, ◌++◌, reverse}
use Rattle.jc_typed.specs.Parts.{captures_of}
use Rattle.jc_places.proofs.lists.capture_list.Given as goal

abbrev pub invariant-loop-before : goal.invariant-loop-before
invariant-loop-before l = captures_of l.nodes l.list ++ reverse l.out ≡ captures_of l.nodes l.fn.at

abbrev pub decreases-loop-before : goal.decreases-loop-before
decreases-loop-before l = l.list
