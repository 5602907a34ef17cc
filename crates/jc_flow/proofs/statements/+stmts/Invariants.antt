use Rattle.std.proofs.Common.{◌≡◌, ◌<◌, ◌≤◌, ◌+◌, ◌*◌, drop, length}
use Rattle.jc_typed.specs.Parts.{arms_of, cases_of, catches_of}
use Rattle.jc_flow_spec.specs.Statements.{arms_flow, catches_flow, labelled_flow, stmts_flow}
use Rattle.jc_flow_parts.specs.Lists.{stmts_by}
use Rattle.jc_flow.proofs.statements.+stmts.Given as goal

abbrev pub decreases-stmt_flow : goal.decreases-stmt_flow
decreases-stmt_flow l = 6 * l.at + 5

abbrev pub decreases-stmts_flow : goal.decreases-stmts_flow
decreases-stmts_flow l = 6 * l.at + 5

abbrev pub decreases-labelled_flow : goal.decreases-labelled_flow
decreases-labelled_flow l = 6 * l.at + 5

abbrev pub decreases-placed_flow : goal.decreases-placed_flow
decreases-placed_flow l = 6 * l.at + 4

abbrev pub decreases-labelled_places_flow : goal.decreases-labelled_places_flow
decreases-labelled_places_flow l = 6 * l.at + 4

abbrev pub decreases-arms_flow : goal.decreases-arms_flow
decreases-arms_flow l = 6 * l.at + 5

abbrev pub decreases-catches_flow : goal.decreases-catches_flow
decreases-catches_flow l = 6 * l.at + 5

abbrev pub decreases-stmt_form_flow : goal.decreases-stmt_form_flow
decreases-stmt_form_flow l = 6 * l.at + 4

abbrev pub decreases-clause_flow : goal.decreases-clause_flow
decreases-clause_flow l = 6 * l.at + 4

abbrev pub decreases-finally_flow : goal.decreases-finally_flow
decreases-finally_flow l = 6 * l.at + 5

abbrev pub decreases-clauses_flow : goal.decreases-clauses_flow
decreases-clauses_flow l = 6 * l.at + 6

abbrev pub decreases-arm_flow : goal.decreases-arm_flow
decreases-arm_flow l = 6 * l.at + 3

abbrev pub decreases-if_flow : goal.decreases-if_flow
decreases-if_flow l = 6 * l.at + 3

abbrev pub decreases-label_flow : goal.decreases-label_flow
decreases-label_flow l = 6 * l.at + 3

abbrev pub decreases-while_flow : goal.decreases-while_flow
decreases-while_flow l = 6 * l.at + 3

abbrev pub decreases-do_flow : goal.decreases-do_flow
decreases-do_flow l = 6 * l.at + 3

abbrev pub decreases-for_flow : goal.decreases-for_flow
decreases-for_flow l = 6 * l.at + 3

abbrev pub decreases-each_flow : goal.decreases-each_flow
decreases-each_flow l = 6 * l.at + 3

abbrev pub decreases-switch_flow : goal.decreases-switch_flow
decreases-switch_flow l = 6 * l.at + 3

abbrev pub decreases-try_flow : goal.decreases-try_flow
decreases-try_flow l = 6 * l.at + 3

abbrev pub decreases-catch_block : goal.decreases-catch_block
decreases-catch_block l = 6 * l.at + 3

abbrev pub invariant-placed_flow-stmts_left : goal.invariant-placed_flow-stmts_left
invariant-placed_flow-stmts_left l = record {
  walked : l.s ≡ stmts_flow l.walk.scene.table.now l.walk.scene.env.now.bounds l.walk.assigned.now (stmts_by l.walk.scene.nodes.now (drop l.left l.places)) l.fn.s;
  within : l.left ≤ length l.places;
}

abbrev pub decreases-placed_flow-stmts_left : goal.decreases-placed_flow-stmts_left
decreases-placed_flow-stmts_left l = l.left

abbrev pub invariant-labelled_places_flow-stmts_left : goal.invariant-labelled_places_flow-stmts_left
invariant-labelled_places_flow-stmts_left l = record {
  walked : l.s ≡ labelled_flow l.walk.scene.table.now l.walk.scene.env.now.bounds l.walk.assigned.now l.labelling.entry (cases_of l.walk.scene.nodes.now l.labelling.cases) (stmts_by l.walk.scene.nodes.now (drop l.left l.places)) l.fn.s;
  within : l.left ≤ length l.places;
}

abbrev pub decreases-labelled_places_flow-stmts_left : goal.decreases-labelled_places_flow-stmts_left
decreases-labelled_places_flow-stmts_left l = l.left

abbrev pub invariant-arms_flow-arms_left : goal.invariant-arms_flow-arms_left
invariant-arms_flow-arms_left l = record {
  whole : arms_flow l.walk.scene.table.now l.walk.scene.env.now.bounds l.walk.assigned.now l.entry (arms_of l.walk.scene.nodes.now l.list) l.s ≡ arms_flow l.walk.scene.table.now l.walk.scene.env.now.bounds l.walk.assigned.now l.entry (arms_of l.walk.scene.nodes.now l.fn.at) l.fn.s;
  within : l.list < length l.walk.scene.nodes.now;
  not_above : l.list ≤ l.fn.at;
}

abbrev pub decreases-arms_flow-arms_left : goal.decreases-arms_flow-arms_left
decreases-arms_flow-arms_left l = l.list

abbrev pub invariant-catches_flow-clauses_left : goal.invariant-catches_flow-clauses_left
invariant-catches_flow-clauses_left l = record {
  whole : catches_flow l.walk.scene.table.now l.walk.scene.env.now.bounds l.walk.assigned.now l.tried.entry l.tried.thrown.now (catches_of l.walk.scene.nodes.now l.list) l.s ≡ catches_flow l.walk.scene.table.now l.walk.scene.env.now.bounds l.walk.assigned.now l.tried.entry l.tried.thrown.now (catches_of l.walk.scene.nodes.now l.fn.at) l.fn.s;
  within : l.list < length l.walk.scene.nodes.now;
  not_above : l.list ≤ l.fn.at;
}

abbrev pub decreases-catches_flow-clauses_left : goal.decreases-catches_flow-clauses_left
decreases-catches_flow-clauses_left l = l.list
