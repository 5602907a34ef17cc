use Rattle.std.proofs.Common.{◌≡◌, ◌+◌, ◌*◌, length}
use Rattle.jc_judge.specs.Views.{first_of}
use Rattle.jc_constraints.specs.Constraints.{up_element_within}
use Rattle.jc_constraints.proofs.arrays.+up_element.Given as goal

abbrev pub decreases-up_element_within : goal.decreases-up_element_within
decreases-up_element_within l = 2 * l.steps

abbrev pub decreases-first_up_element : goal.decreases-first_up_element
decreases-first_up_element l = 2 * l.steps + 1

abbrev pub invariant-first_up_element-loop-rest : goal.invariant-first_up_element-loop-rest
invariant-first_up_element-loop-rest l = first_of (up_element_within l.table l.env l.steps) l.types ≡ first_of (up_element_within l.table l.env l.steps) l.rest

abbrev pub decreases-first_up_element-loop-rest : goal.decreases-first_up_element-loop-rest
decreases-first_up_element-loop-rest l = length l.rest
