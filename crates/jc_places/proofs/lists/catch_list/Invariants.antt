use Rattle.std.proofs.Common.{◌≡◌, [], map, reverse}
use Rattle.jc_typed.specs.Parts.{catches_of}
use Rattle.jc_places.specs.Sorts.{catch_of, catches_before}
use Rattle.jc_places.proofs.lists.catch_list.Given as goal

abbrev pub invariant-loop-before : goal.invariant-loop-before
invariant-loop-before l = catches_before (catches_of l.nodes l.list) (map (catch_of l.nodes) (reverse l.out)) ≡ catches_before (catches_of l.nodes l.fn.at) []

abbrev pub decreases-loop-before : goal.decreases-loop-before
decreases-loop-before l = l.list
