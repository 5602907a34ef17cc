use Rattle.std.proofs.Common.{◌≡◌, ◌<◌, ◌≤◌, ◌+◌, length}
use Rattle.jc_typed.specs.Parts.{ops_of}
use Rattle.jc_typed.specs.Bulk.{capped, prefixes_weight}
use Rattle.jc_typed.proofs.weights.prefixes_weight.Given as goal

abbrev pub invariant-ops_left : goal.invariant-ops_left
invariant-ops_left l = record {
  whole : capped (l.total + prefixes_weight (ops_of l.nodes l.list)) ≡ capped (prefixes_weight (ops_of l.nodes l.fn.at));
  small : l.total ≤ 18446744073709551615;
  within : l.list < length l.nodes;
  not_above : l.list ≤ l.fn.at;
}

abbrev pub decreases-ops_left : goal.decreases-ops_left
decreases-ops_left l = l.list
