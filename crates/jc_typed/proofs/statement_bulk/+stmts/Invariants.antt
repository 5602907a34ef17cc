use Rattle.std.proofs.Common.{◌≡◌, ◌<◌, ◌≤◌, ◌+◌, ◌*◌, length}
use Rattle.jc_typed.specs.Parts.{arms_of, catches_of, stmts_of}
use Rattle.jc_typed.specs.Bulk.{capped, arms_bulk, catches_bulk, stmts_bulk}
use Rattle.jc_typed.proofs.statement_bulk.+stmts.Given as goal

abbrev pub decreases-stmt_bulk : goal.decreases-stmt_bulk
decreases-stmt_bulk l = 2 * l.at + 1

abbrev pub decreases-stmts_bulk : goal.decreases-stmts_bulk
decreases-stmts_bulk l = 2 * l.at + 1

abbrev pub decreases-arms_bulk : goal.decreases-arms_bulk
decreases-arms_bulk l = 2 * l.at + 1

abbrev pub decreases-catches_bulk : goal.decreases-catches_bulk
decreases-catches_bulk l = 2 * l.at + 1

abbrev pub decreases-finally_bulk : goal.decreases-finally_bulk
decreases-finally_bulk l = 2 * l.at + 1

abbrev pub decreases-stmt_form_bulk : goal.decreases-stmt_form_bulk
decreases-stmt_form_bulk l = 2 * l.at

abbrev pub invariant-stmts_bulk-stmts_left : goal.invariant-stmts_bulk-stmts_left
invariant-stmts_bulk-stmts_left l = record {
  whole : capped (l.total + stmts_bulk (stmts_of l.nodes l.list)) ≡ capped (stmts_bulk (stmts_of l.nodes l.fn.at));
  small : l.total ≤ 18446744073709551615;
  within : l.list < length l.nodes;
  not_above : l.list ≤ l.fn.at;
}

abbrev pub decreases-stmts_bulk-stmts_left : goal.decreases-stmts_bulk-stmts_left
decreases-stmts_bulk-stmts_left l = l.list

abbrev pub invariant-arms_bulk-arms_left : goal.invariant-arms_bulk-arms_left
invariant-arms_bulk-arms_left l = record {
  whole : capped (l.total + arms_bulk (arms_of l.nodes l.list)) ≡ capped (arms_bulk (arms_of l.nodes l.fn.at));
  small : l.total ≤ 18446744073709551615;
  within : l.list < length l.nodes;
  not_above : l.list ≤ l.fn.at;
}

abbrev pub decreases-arms_bulk-arms_left : goal.decreases-arms_bulk-arms_left
decreases-arms_bulk-arms_left l = l.list

abbrev pub invariant-catches_bulk-catches_left : goal.invariant-catches_bulk-catches_left
invariant-catches_bulk-catches_left l = record {
  whole : capped (l.total + catches_bulk (catches_of l.nodes l.list)) ≡ capped (catches_bulk (catches_of l.nodes l.fn.at));
  small : l.total ≤ 18446744073709551615;
  within : l.list < length l.nodes;
  not_above : l.list ≤ l.fn.at;
}

abbrev pub decreases-catches_bulk-catches_left : goal.decreases-catches_bulk-catches_left
decreases-catches_bulk-catches_left l = l.list
