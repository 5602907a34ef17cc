use Rattle.std.proofs.Common.{◌≡◌, ◌<◌, ◌≤◌, length}
use Rattle.jc_typed.specs.Parts.{operands_of}
use Rattle.jc_assign_names.specs.Lists.{AllBelow, operands_onto}
use Rattle.jc_assign_names.proofs.listed.operands_listed.Given as goal

abbrev pub invariant-operands_left : goal.invariant-operands_left
invariant-operands_left l = record {
  whole : operands_of l.nodes l.fn.at ≡ operands_onto l.nodes (operands_of l.nodes l.list) l.out;
  below : AllBelow l.fn.at l.out;
  within : l.list < length l.nodes;
  not_above : l.list ≤ l.fn.at;
}

abbrev pub decreases-operands_left : goal.decreases-operands_left
decreases-operands_left l = l.list
