use Rattle.std.proofs.Common.{◌≡◌, ◌<◌, ◌≤◌, ◌+◌, ◌*◌, length}
use Rattle.jc_typed.specs.Parts.{declared_of}
use Rattle.jc_unchecked_spec.specs.Bodies.{of_declared}
use Rattle.jc_unchecked_list.specs.Telling.{told}
use Rattle.jc_unchecked_bodies.proofs.expressions.tell_declared.Given as goal

abbrev pub invariant-declared_left : goal.invariant-declared_left
invariant-declared_left l = record {
  whole : told (of_declared l.walk.table.now l.walk.env.now.bounds (declared_of l.walk.nodes.now l.list)) l.out ≡ told (of_declared l.walk.table.now l.walk.env.now.bounds (declared_of l.walk.nodes.now l.fn.at)) l.fn.out;
  within : l.list < length l.walk.nodes.now;
  not_above : l.list ≤ l.fn.at;
}

abbrev pub decreases-declared_left : goal.decreases-declared_left
decreases-declared_left l = l.list
