use Rattle.std.proofs.Common.{◌≡◌, ◌<◌, ◌≤◌, length}
use Rattle.jc_typed.specs.Parts.{ops_of}
use Rattle.jc_assign_names.specs.Walks.{differ, odd_nots}
use Rattle.jc_assign_names.proofs.tests.has_odd_nots.Given as goal

abbrev pub invariant-ops_left : goal.invariant-ops_left
invariant-ops_left l = record {
  whole : differ l.found (odd_nots (ops_of l.nodes l.list)) ≡ odd_nots (ops_of l.nodes l.fn.at);
  within : l.list < length l.nodes;
  not_above : l.list ≤ l.fn.at;
}

abbrev pub decreases-ops_left : goal.decreases-ops_left
decreases-ops_left l = l.list
