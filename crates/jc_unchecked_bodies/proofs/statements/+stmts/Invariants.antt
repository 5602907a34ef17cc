use Rattle.std.proofs.Common.{◌≡◌, ◌<◌, ◌≤◌, ◌+◌, ◌*◌, length}
use Rattle.jc_typed.specs.Parts.{arms_of, catches_of, stmts_of}
use Rattle.jc_unchecked_spec.specs.Bodies.{of_arms, of_catches, of_stmts}
use Rattle.jc_unchecked_list.specs.Telling.{told}
use Rattle.jc_unchecked_bodies.proofs.statements.+stmts.Given as goal

abbrev pub decreases-tell_stmt : goal.decreases-tell_stmt
decreases-tell_stmt l = 2 * l.at + 1

abbrev pub decreases-tell_stmts : goal.decreases-tell_stmts
decreases-tell_stmts l = 2 * l.at + 1

abbrev pub decreases-tell_arms : goal.decreases-tell_arms
decreases-tell_arms l = 2 * l.at + 1

abbrev pub decreases-tell_catches : goal.decreases-tell_catches
decreases-tell_catches l = 2 * l.at + 1

abbrev pub decreases-tell_stmt_form : goal.decreases-tell_stmt_form
decreases-tell_stmt_form l = 2 * l.at

abbrev pub invariant-tell_stmts-stmts_left : goal.invariant-tell_stmts-stmts_left
invariant-tell_stmts-stmts_left l = record {
  whole : told (of_stmts l.walk.table.now l.walk.env.now.bounds (stmts_of l.walk.nodes.now l.list)) l.out ≡ told (of_stmts l.walk.table.now l.walk.env.now.bounds (stmts_of l.walk.nodes.now l.fn.at)) l.fn.out;
  within : l.list < length l.walk.nodes.now;
  not_above : l.list ≤ l.fn.at;
}

abbrev pub decreases-tell_stmts-stmts_left : goal.decreases-tell_stmts-stmts_left
decreases-tell_stmts-stmts_left l = l.list

abbrev pub invariant-tell_arms-arms_left : goal.invariant-tell_arms-arms_left
invariant-tell_arms-arms_left l = record {
  whole : told (of_arms l.walk.table.now l.walk.env.now.bounds (arms_of l.walk.nodes.now l.list)) l.out ≡ told (of_arms l.walk.table.now l.walk.env.now.bounds (arms_of l.walk.nodes.now l.fn.at)) l.fn.out;
  within : l.list < length l.walk.nodes.now;
  not_above : l.list ≤ l.fn.at;
}

abbrev pub decreases-tell_arms-arms_left : goal.decreases-tell_arms-arms_left
decreases-tell_arms-arms_left l = l.list

abbrev pub invariant-tell_catches-catches_left : goal.invariant-tell_catches-catches_left
invariant-tell_catches-catches_left l = record {
  whole : told (of_catches l.walk.table.now l.walk.env.now.bounds (catches_of l.walk.nodes.now l.list)) l.out ≡ told (of_catches l.walk.table.now l.walk.env.now.bounds (catches_of l.walk.nodes.now l.fn.at)) l.fn.out;
  within : l.list < length l.walk.nodes.now;
  not_above : l.list ≤ l.fn.at;
}

abbrev pub decreases-tell_catches-catches_left : goal.decreases-tell_catches-catches_left
decreases-tell_catches-catches_left l = l.list
