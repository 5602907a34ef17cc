use Rattle.std.proofs.Common.{◌≡◌, ◌<◌, ◌≤◌, length}
use Rattle.jc_typed.specs.Parts.{stmts_of}
use Rattle.jc_flow_parts.specs.Lists.{AllBelow, stmts_onto}
use Rattle.jc_flow_parts.proofs.listed.stmts_listed.Given as goal

abbrev pub invariant-stmts_left : goal.invariant-stmts_left
invariant-stmts_left l = record {
  whole : stmts_of l.nodes l.fn.at ≡ stmts_onto l.nodes (stmts_of l.nodes l.list) l.out;
  below : AllBelow l.fn.at l.out;
  within : l.list < length l.nodes;
  not_above : l.list ≤ l.fn.at;
}

abbrev pub decreases-stmts_left : goal.decreases-stmts_left
decreases-stmts_left l = l.list
