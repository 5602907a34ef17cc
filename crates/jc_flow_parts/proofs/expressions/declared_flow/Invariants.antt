use Rattle.std.proofs.Common.{◌≡◌, ◌<◌, ◌≤◌, length}
use Rattle.jc_typed.specs.Parts.{declared_of}
use Rattle.jc_flow_spec.specs.Expressions.{declared_flow}
use Rattle.jc_flow_parts.proofs.expressions.declared_flow.Given as goal

abbrev pub invariant-declared_left : goal.invariant-declared_left
invariant-declared_left l = record {
  whole : declared_flow (declared_of l.nodes l.list) l.s ≡ declared_flow (declared_of l.nodes l.fn.at) l.fn.s;
  within : l.list < length l.nodes;
  not_above : l.list ≤ l.fn.at;
}

abbrev pub decreases-declared_left : goal.decreases-declared_left
decreases-declared_left l = l.list
