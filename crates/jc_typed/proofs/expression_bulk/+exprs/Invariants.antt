use Rattle.std.proofs.Common.{◌≡◌, ◌<◌, ◌≤◌, ◌+◌, ◌*◌, length}
use Rattle.jc_typed.specs.Parts.{links_of, operands_of}
use Rattle.jc_typed.specs.Bulk.{capped, links_bulk, operands_bulk}
use Rattle.jc_typed.proofs.expression_bulk.+exprs.Given as goal

abbrev pub decreases-expr_bulk : goal.decreases-expr_bulk
decreases-expr_bulk l = 2 * l.at + 1

abbrev pub decreases-operand_bulk : goal.decreases-operand_bulk
decreases-operand_bulk l = 2 * l.at + 1

abbrev pub decreases-operands_bulk : goal.decreases-operands_bulk
decreases-operands_bulk l = 2 * l.at + 1

abbrev pub decreases-links_bulk : goal.decreases-links_bulk
decreases-links_bulk l = 2 * l.at + 1

abbrev pub decreases-variable_bulk : goal.decreases-variable_bulk
decreases-variable_bulk l = 2 * l.at + 1

abbrev pub decreases-form_bulk : goal.decreases-form_bulk
decreases-form_bulk l = 2 * l.at

abbrev pub invariant-operands_bulk-operands_left : goal.invariant-operands_bulk-operands_left
invariant-operands_bulk-operands_left l = record {
  whole : capped (l.total + operands_bulk (operands_of l.nodes l.list)) ≡ capped (operands_bulk (operands_of l.nodes l.fn.at));
  small : l.total ≤ 18446744073709551615;
  within : l.list < length l.nodes;
  not_above : l.list ≤ l.fn.at;
}

abbrev pub decreases-operands_bulk-operands_left : goal.decreases-operands_bulk-operands_left
decreases-operands_bulk-operands_left l = l.list

abbrev pub invariant-links_bulk-links_left : goal.invariant-links_bulk-links_left
invariant-links_bulk-links_left l = record {
  whole : capped (l.total + links_bulk (links_of l.nodes l.list)) ≡ capped (links_bulk (links_of l.nodes l.fn.at));
  small : l.total ≤ 18446744073709551615;
  within : l.list < length l.nodes;
  not_above : l.list ≤ l.fn.at;
}

abbrev pub decreases-links_bulk-links_left : goal.decreases-links_bulk-links_left
decreases-links_bulk-links_left l = l.list
