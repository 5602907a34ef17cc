use Rattle.std.proofs.Common.{◌∙◌, arith}
use Rattle.jc_typed.specs.Parts.{cases_of}
use Rattle.jc_flow.proofs.Turns.{labelled_all, labelled_none, labelled_turn, stmts_all, stmts_none, stmts_turn}
use Rattle.jc_flow.proofs.statements.+stmts.Goals as goal

pub placed_flow-stmts_left-init : goal.placed_flow-stmts_left-init
placed_flow-stmts_left-init t c = record {
  walked = stmts_all c.args.walk.now.scene.table.now c.args.walk.now.scene.env.now.bounds c.args.walk.now.assigned.now c.args.walk.now.scene.nodes.now c.args.places.now c.args.at c.args.s.now;
  within = omega arith;
}

pub placed_flow-stmts_left-preserved : goal.placed_flow-stmts_left-preserved
placed_flow-stmts_left-preserved t c = record {
  walked = stmts_turn c.args.walk.now.scene.table.now c.args.walk.now.scene.env.now.bounds c.args.walk.now.assigned.now c.args.walk.now.scene.nodes.now c.args.places.now c.args.at c.stmts_left.left c.next_stmt-next.result c.stmts_left.s c.stmt_flow.new.s c.args.s.now c.next_stmt-next.ensures c.stmts_left.invariant.walked c.in_ok-stmt_flow.ensures;
  within = omega arith;
}

pub placed_flow-returns : goal.placed_flow-returns
placed_flow-returns t c = stmts_none c.args.walk.now.scene.table.now c.args.walk.now.scene.env.now.bounds c.args.walk.now.assigned.now c.args.walk.now.scene.nodes.now c.args.places.now c.args.at c.stmts_left.left c.stmts_left.s c.args.s.now (omega arith) c.stmts_left.invariant.walked

pub labelled_places_flow-stmts_left-init : goal.labelled_places_flow-stmts_left-init
labelled_places_flow-stmts_left-init t c = record {
  walked = labelled_all c.args.walk.now.scene.table.now c.args.walk.now.scene.env.now.bounds c.args.walk.now.assigned.now c.args.walk.now.scene.nodes.now c.args.places.now c.args.at c.args.labelling.now.entry (cases_of c.args.walk.now.scene.nodes.now c.args.labelling.now.cases) c.args.s.now;
  within = omega arith;
}

pub labelled_places_flow-stmts_left-preserved : goal.labelled_places_flow-stmts_left-preserved
labelled_places_flow-stmts_left-preserved t c = record {
  walked = labelled_turn c.args.walk.now.scene.table.now c.args.walk.now.scene.env.now.bounds c.args.walk.now.assigned.now c.args.walk.now.scene.nodes.now c.args.places.now c.args.at c.args.labelling.now.entry (cases_of c.args.walk.now.scene.nodes.now c.args.labelling.now.cases) c.stmts_left.left c.next_stmt-next.result c.has-is_labelled.result c.stmts_left.s c.enter_label.new.s c.stmt_flow.new.s c.args.s.now c.next_stmt-next.ensures c.stmts_left.invariant.walked (c.has-is_labelled.ensures ∙ c.requires.labels _) c.enter_label.ensures c.in_ok-stmt_flow.ensures;
  within = omega arith;
}

pub labelled_places_flow-returns : goal.labelled_places_flow-returns
labelled_places_flow-returns t c = labelled_none c.args.walk.now.scene.table.now c.args.walk.now.scene.env.now.bounds c.args.walk.now.assigned.now c.args.walk.now.scene.nodes.now c.args.places.now c.args.at c.args.labelling.now.entry (cases_of c.args.walk.now.scene.nodes.now c.args.labelling.now.cases) c.stmts_left.left c.stmts_left.s c.args.s.now (omega arith) c.stmts_left.invariant.walked
