use Rattle.std.proofs.Common.{◌≡◌, ◌<◌, ◌≤◌, length}
use Rattle.jc_typed.specs.Parts.{steps_of}
use Rattle.jc_unchecked_spec.specs.Bodies.{type_behind}
use Rattle.jc_unchecked_bodies.proofs.conversions.type_behind.Given as goal

abbrev pub invariant-steps_left : goal.invariant-steps_left
invariant-steps_left l = record {
  whole : type_behind l.own (steps_of l.walk.nodes.now l.list) ≡ type_behind l.fn.own (steps_of l.walk.nodes.now l.fn.at);
  within : l.list < length l.walk.nodes.now;
  not_above : l.list ≤ l.fn.at;
}

abbrev pub decreases-steps_left : goal.decreases-steps_left
decreases-steps_left l = l.list
