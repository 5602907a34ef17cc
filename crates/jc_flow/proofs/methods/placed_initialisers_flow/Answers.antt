use Rattle.std.proofs.Common.{arith}
use Rattle.jc_flow.proofs.Turns.{initialisers_all, initialisers_none, initialisers_turn}
use Rattle.jc_flow.proofs.methods.placed_initialisers_flow.Goals as goal

pub initialisers_left-init : goal.initialisers_left-init
initialisers_left-init c = record {
  walked = initialisers_all c.args.walk.now.scene.table.now c.args.walk.now.scene.env.now.bounds c.args.walk.now.assigned.now c.args.walk.now.scene.nodes.now c.args.places.now c.args.at c.args.s.now;
  within = omega arith;
}

pub initialisers_left-preserved : goal.initialisers_left-preserved
initialisers_left-preserved c = record {
  walked = initialisers_turn c.args.walk.now.scene.table.now c.args.walk.now.scene.env.now.bounds c.args.walk.now.assigned.now c.args.walk.now.scene.nodes.now c.args.places.now c.args.at c.initialisers_left.left c.next_stmt-next.result c.initialisers_left.s c.initialiser_flow.new.s c.args.s.now c.next_stmt-next.ensures c.initialisers_left.invariant.walked c.in_ok-initialiser_flow.ensures;
  within = omega arith;
}

pub returns : goal.returns
returns c = initialisers_none c.args.walk.now.scene.table.now c.args.walk.now.scene.env.now.bounds c.args.walk.now.assigned.now c.args.walk.now.scene.nodes.now c.args.places.now c.args.at c.initialisers_left.left c.initialisers_left.s c.args.s.now (omega arith) c.initialisers_left.invariant.walked
