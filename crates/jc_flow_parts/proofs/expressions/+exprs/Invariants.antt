use Rattle.std.proofs.Common.{◌≡◌, ◌<◌, ◌≤◌, ◌+◌, ◌*◌, length}
use Rattle.jc_typed.specs.Parts.{links_of, operands_of}
use Rattle.jc_flow_spec.specs.Expressions.{links_flow, operands_flow}
use Rattle.jc_flow_parts.proofs.expressions.+exprs.Given as goal

abbrev pub decreases-expr_flow : goal.decreases-expr_flow
decreases-expr_flow l = 4 * l.at + 2

abbrev pub decreases-operand_flow : goal.decreases-operand_flow
decreases-operand_flow l = 4 * l.at + 3

abbrev pub decreases-operands_flow : goal.decreases-operands_flow
decreases-operands_flow l = 4 * l.at + 3

abbrev pub decreases-links_flow : goal.decreases-links_flow
decreases-links_flow l = 4 * l.at + 3

abbrev pub decreases-pair_flow : goal.decreases-pair_flow
decreases-pair_flow l = 4 * l.at

abbrev pub decreases-variable_flow : goal.decreases-variable_flow
decreases-variable_flow l = 4 * l.at + 3

abbrev pub decreases-form_flow : goal.decreases-form_flow
decreases-form_flow l = 4 * l.at + 1

abbrev pub invariant-operands_flow-operands_left : goal.invariant-operands_flow-operands_left
invariant-operands_flow-operands_left l = record {
  whole : operands_flow (operands_of l.nodes l.list) l.s ≡ operands_flow (operands_of l.nodes l.fn.at) l.fn.s;
  within : l.list < length l.nodes;
  not_above : l.list ≤ l.fn.at;
}

abbrev pub decreases-operands_flow-operands_left : goal.decreases-operands_flow-operands_left
decreases-operands_flow-operands_left l = l.list

abbrev pub invariant-links_flow-links_left : goal.invariant-links_flow-links_left
invariant-links_flow-links_left l = record {
  whole : links_flow (links_of l.nodes l.list) l.s ≡ links_flow (links_of l.nodes l.fn.at) l.fn.s;
  within : l.list < length l.nodes;
  not_above : l.list ≤ l.fn.at;
}

abbrev pub decreases-links_flow-links_left : goal.decreases-links_flow-links_left
decreases-links_flow-links_left l = l.list
