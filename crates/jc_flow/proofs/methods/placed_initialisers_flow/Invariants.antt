use Rattle.std.proofs.Common.{◌≡◌, ◌≤◌, drop, length}
use Rattle.jc_flow_spec.specs.Methods.{initialisers_flow}
use Rattle.jc_flow_parts.specs.Lists.{stmts_by}
use Rattle.jc_flow.proofs.methods.placed_initialisers_flow.Given as goal

abbrev pub invariant-initialisers_left : goal.invariant-initialisers_left
invariant-initialisers_left l = record {
  walked : l.s ≡ initialisers_flow l.walk.scene.table.now l.walk.scene.env.now.bounds l.walk.assigned.now (stmts_by l.walk.scene.nodes.now (drop l.left l.places)) l.fn.s;
  within : l.left ≤ length l.places;
}

abbrev pub decreases-initialisers_left : goal.decreases-initialisers_left
decreases-initialisers_left l = l.left
