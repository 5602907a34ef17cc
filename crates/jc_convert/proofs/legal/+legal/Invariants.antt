use Rattle.std.proofs.Common.{◌≡◌, ◌*◌, ◌+◌, length}
use Rattle.jc_convert.specs.Casting.{legal_within, legal_from_all, all_legal}
use Rattle.jc_convert.proofs.legal.+legal.Given as goal

abbrev pub decreases-legal_within : goal.decreases-legal_within
decreases-legal_within l = 8 * l.steps + 0

abbrev pub decreases-elements_legal : goal.decreases-elements_legal
decreases-elements_legal l = 8 * l.steps + 1

abbrev pub decreases-arrays_legal : goal.decreases-arrays_legal
decreases-arrays_legal l = 8 * l.steps + 2

abbrev pub decreases-array_legal : goal.decreases-array_legal
decreases-array_legal l = 8 * l.steps + 3

abbrev pub decreases-settled_legal : goal.decreases-settled_legal
decreases-settled_legal l = 8 * l.steps + 4

abbrev pub decreases-bounds_legal : goal.decreases-bounds_legal
decreases-bounds_legal l = 8 * l.steps + 5

abbrev pub decreases-legal_to_bounds : goal.decreases-legal_to_bounds
decreases-legal_to_bounds l = 8 * l.steps + 5

abbrev pub decreases-legal_from_all : goal.decreases-legal_from_all
decreases-legal_from_all l = 8 * l.steps + 5

abbrev pub decreases-all_legal : goal.decreases-all_legal
decreases-all_legal l = 8 * l.steps + 5

abbrev pub decreases-target_legal : goal.decreases-target_legal
decreases-target_legal l = 8 * l.steps + 6

abbrev pub decreases-source_legal : goal.decreases-source_legal
decreases-source_legal l = 8 * l.steps + 7

abbrev pub invariant-legal_from_all-loop-rest : goal.invariant-legal_from_all-loop-rest
invariant-legal_from_all-loop-rest l = legal_from_all (legal_within l.table l.env.bounds l.steps) l.rest l.t ≡ legal_from_all (legal_within l.table l.env.bounds l.steps) l.types l.t

abbrev pub decreases-legal_from_all-loop-rest : goal.decreases-legal_from_all-loop-rest
decreases-legal_from_all-loop-rest l = length l.rest

abbrev pub invariant-all_legal-loop-rest : goal.invariant-all_legal-loop-rest
invariant-all_legal-loop-rest l = all_legal (legal_within l.table l.env.bounds l.steps) l.s l.rest ≡ all_legal (legal_within l.table l.env.bounds l.steps) l.s l.types

abbrev pub decreases-all_legal-loop-rest : goal.decreases-all_legal-loop-rest
decreases-all_legal-loop-rest l = length l.rest
