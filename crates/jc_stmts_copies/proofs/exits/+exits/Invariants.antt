use Rattle.std.proofs.Common.{◌≡◌, ◌<◌, ◌≤◌, ◌+◌, ◌*◌, length}
use Rattle.jc_typed.specs.Bulk.{capped}
use Rattle.jc_typed.specs.Copies.{exits_of_arms, exits_of_catches, exits_of_stmts}
use Rattle.jc_typed.specs.Parts.{arms_of, catches_of, stmts_of}
use Rattle.jc_stmts_copies.proofs.exits.+exits.Given as goal

abbrev pub decreases-exits_of_stmt : goal.decreases-exits_of_stmt
decreases-exits_of_stmt l = 3 * l.at + 1

abbrev pub decreases-exits_of_stmts : goal.decreases-exits_of_stmts
decreases-exits_of_stmts l = 3 * l.at + 1

abbrev pub decreases-exits_of_arms : goal.decreases-exits_of_arms
decreases-exits_of_arms l = 3 * l.at + 1

abbrev pub decreases-exits_of_catches : goal.decreases-exits_of_catches
decreases-exits_of_catches l = 3 * l.at + 1

abbrev pub decreases-exits_inside : goal.decreases-exits_inside
decreases-exits_inside l = 3 * l.body + 2

abbrev pub decreases-exits_of_switch : goal.decreases-exits_of_switch
decreases-exits_of_switch l = 3 * l.stmts + 2

abbrev pub decreases-exits_of_last : goal.decreases-exits_of_last
decreases-exits_of_last l = 3 * l.last + 2

abbrev pub decreases-exits_of : goal.decreases-exits_of
decreases-exits_of l = 3 * l.at

abbrev pub invariant-exits_of_stmts-stmts_left : goal.invariant-exits_of_stmts-stmts_left
invariant-exits_of_stmts-stmts_left l = record {
  whole : capped (l.total + exits_of_stmts l.inside (stmts_of l.nodes l.list)) ≡ capped (exits_of_stmts l.inside (stmts_of l.nodes l.fn.at));
  small : l.total ≤ 18446744073709551615;
  within : l.list < length l.nodes;
  not_above : l.list ≤ l.fn.at;
}

abbrev pub decreases-exits_of_stmts-stmts_left : goal.decreases-exits_of_stmts-stmts_left
decreases-exits_of_stmts-stmts_left l = l.list

abbrev pub invariant-exits_of_arms-arms_left : goal.invariant-exits_of_arms-arms_left
invariant-exits_of_arms-arms_left l = record {
  whole : capped (l.total + exits_of_arms l.inside (arms_of l.nodes l.list)) ≡ capped (exits_of_arms l.inside (arms_of l.nodes l.fn.at));
  small : l.total ≤ 18446744073709551615;
  within : l.list < length l.nodes;
  not_above : l.list ≤ l.fn.at;
}

abbrev pub decreases-exits_of_arms-arms_left : goal.decreases-exits_of_arms-arms_left
decreases-exits_of_arms-arms_left l = l.list

abbrev pub invariant-exits_of_catches-catches_left : goal.invariant-exits_of_catches-catches_left
invariant-exits_of_catches-catches_left l = record {
  whole : capped (l.total + exits_of_catches l.inside (catches_of l.nodes l.list)) ≡ capped (exits_of_catches l.inside (catches_of l.nodes l.fn.at));
  small : l.total ≤ 18446744073709551615;
  within : l.list < length l.nodes;
  not_above : l.list ≤ l.fn.at;
}

abbrev pub decreases-exits_of_catches-catches_left : goal.decreases-exits_of_catches-catches_left
decreases-exits_of_catches-catches_left l = l.list
