use Rattle.std.proofs.Common.{◌≡◌, ◌<◌, ◌≤◌, ◌+◌, length}
use Rattle.jc_typed.specs.Parts.{operands_of}
use Rattle.jc_typed.specs.Bulk.{capped, operand_count}
use Rattle.jc_typed.proofs.weights.operand_count.Given as goal

abbrev pub invariant-operands_left : goal.invariant-operands_left
invariant-operands_left l = record {
  whole : capped (l.total + operand_count (operands_of l.nodes l.list)) ≡ capped (operand_count (operands_of l.nodes l.fn.at));
  small : l.total ≤ 18446744073709551615;
  within : l.list < length l.nodes;
  not_above : l.list ≤ l.fn.at;
}

abbrev pub decreases-operands_left : goal.decreases-operands_left
decreases-operands_left l = l.list
