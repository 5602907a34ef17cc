use Rattle.std.proofs.Common.{◌≡◌, ◌<◌, ◌≤◌, ◌+◌, ◌*◌, length}
use Rattle.jc_typed.specs.Parts.{links_of, operands_of}
use Rattle.jc_unchecked_spec.specs.Bodies.{of_links, of_operands}
use Rattle.jc_unchecked_list.specs.Telling.{told}
use Rattle.jc_unchecked_bodies.proofs.expressions.+exprs.Given as goal

abbrev pub decreases-tell_expr : goal.decreases-tell_expr
decreases-tell_expr l = 4 * l.at + 2

abbrev pub decreases-tell_operand : goal.decreases-tell_operand
decreases-tell_operand l = 4 * l.at + 3

abbrev pub decreases-tell_operands : goal.decreases-tell_operands
decreases-tell_operands l = 4 * l.at + 3

abbrev pub decreases-tell_links : goal.decreases-tell_links
decreases-tell_links l = 4 * l.at + 3

abbrev pub decreases-tell_pair : goal.decreases-tell_pair
decreases-tell_pair l = 4 * l.at

abbrev pub decreases-tell_variable : goal.decreases-tell_variable
decreases-tell_variable l = 4 * l.at + 3

abbrev pub decreases-tell_parts : goal.decreases-tell_parts
decreases-tell_parts l = 4 * l.at + 1

abbrev pub invariant-tell_operands-operands_left : goal.invariant-tell_operands-operands_left
invariant-tell_operands-operands_left l = record {
  whole : told (of_operands l.walk.table.now l.walk.env.now.bounds (operands_of l.walk.nodes.now l.list)) l.out ≡ told (of_operands l.walk.table.now l.walk.env.now.bounds (operands_of l.walk.nodes.now l.fn.at)) l.fn.out;
  within : l.list < length l.walk.nodes.now;
  not_above : l.list ≤ l.fn.at;
}

abbrev pub decreases-tell_operands-operands_left : goal.decreases-tell_operands-operands_left
decreases-tell_operands-operands_left l = l.list

abbrev pub invariant-tell_links-links_left : goal.invariant-tell_links-links_left
invariant-tell_links-links_left l = record {
  whole : told (of_links l.walk.table.now l.walk.env.now.bounds (links_of l.walk.nodes.now l.list)) l.out ≡ told (of_links l.walk.table.now l.walk.env.now.bounds (links_of l.walk.nodes.now l.fn.at)) l.fn.out;
  within : l.list < length l.walk.nodes.now;
  not_above : l.list ≤ l.fn.at;
}

abbrev pub decreases-tell_links-links_left : goal.decreases-tell_links-links_left
decreases-tell_links-links_left l = l.list
