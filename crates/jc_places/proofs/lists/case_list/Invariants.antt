use Rattle.std.proofs.Common.{◌≡◌, ◌++◌, map, reverse}
use Rattle.jc_typed.specs.Parts.{case_over, cases_of, parts}
use Rattle.jc_places.proofs.lists.case_list.Given as goal

abbrev pub invariant-loop-before : goal.invariant-loop-before
invariant-loop-before l = cases_of l.nodes l.list ++ map (case_over (parts l.nodes)) (reverse l.out) ≡ cases_of l.nodes l.fn.at

abbrev pub decreases-loop-before : goal.decreases-loop-before
decreases-loop-before l = l.list
