use Rattle.std.proofs.Common.{◌≡◌, ◌<◌, ◌≤◌, ◌+◌, length}
use Rattle.jc_typed.specs.Parts.{steps_of}
use Rattle.jc_typed.specs.Bulk.{capped, steps_weight}
use Rattle.jc_typed.proofs.weights.steps_weight.Given as goal

abbrev pub invariant-steps_left : goal.invariant-steps_left
invariant-steps_left l = record {
  whole : capped (l.total + steps_weight (steps_of l.nodes l.list)) ≡ capped (steps_weight (steps_of l.nodes l.fn.at));
  small : l.total ≤ 18446744073709551615;
  within : l.list < length l.nodes;
  not_above : l.list ≤ l.fn.at;
}

abbrev pub decreases-steps_left : goal.decreases-steps_left
decreases-steps_left l = l.list
