use Rattle.std.proofs.Common.{◌≡◌, ◌<◌, ◌≤◌, ◌++◌, length, reverse}
use Rattle.jc_typed.specs.Parts.{types_of}
use Rattle.jc_flow_parts.proofs.listed.types_listed.Given as goal

abbrev pub invariant-types_left : goal.invariant-types_left
invariant-types_left l = record {
  whole : types_of l.nodes l.list ++ reverse l.out.items ≡ types_of l.nodes l.fn.at;
  within : l.list < length l.nodes;
  not_above : l.list ≤ l.fn.at;
}

abbrev pub decreases-types_left : goal.decreases-types_left
decreases-types_left l = l.list
