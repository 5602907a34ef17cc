use Rattle.std.proofs.Common.{◌≡◌, ◌++◌, map, reverse}
use Rattle.jc_typed.specs.Parts.{types_of, type_of}
use Rattle.jc_places.proofs.lists.type_list.Given as goal

abbrev pub invariant-loop-before : goal.invariant-loop-before
invariant-loop-before l = types_of l.nodes l.list ++ map (type_of l.nodes) (reverse l.out) ≡ types_of l.nodes l.fn.at

abbrev pub decreases-loop-before : goal.decreases-loop-before
decreases-loop-before l = l.list
