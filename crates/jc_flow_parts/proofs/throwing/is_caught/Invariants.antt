use Rattle.std.proofs.Common.{◌≡◌, ◌<◌, ◌≤◌, length}
use Rattle.jc_typed.specs.Parts.{catches_of}
use Rattle.jc_flow_spec.specs.Throwing.{is_caught}
use Rattle.jc_flow_parts.proofs.throwing.is_caught.Given as goal

abbrev pub invariant-clauses_left : goal.invariant-clauses_left
invariant-clauses_left l = record {
  whole : is_caught l.scene.table.now l.scene.env.now.bounds l.t (catches_of l.scene.nodes.now l.list) ≡ is_caught l.scene.table.now l.scene.env.now.bounds l.t (catches_of l.scene.nodes.now l.fn.at);
  within : l.list < length l.scene.nodes.now;
  not_above : l.list ≤ l.fn.at;
}

abbrev pub decreases-clauses_left : goal.decreases-clauses_left
decreases-clauses_left l = l.list
