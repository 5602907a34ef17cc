use Rattle.std.proofs.Common.{◌≡◌, ◌<◌, ◌≤◌, ◌+◌, length}
use Rattle.jc_typed.specs.Parts.{types_of}
use Rattle.jc_typed.specs.Bulk.{capped}
use Rattle.jc_typed.proofs.weights.type_count.Given as goal

abbrev pub invariant-types_left : goal.invariant-types_left
invariant-types_left l = record {
  whole : capped (l.total + length (types_of l.nodes l.list)) ≡ capped (length (types_of l.nodes l.fn.at));
  small : l.total ≤ 18446744073709551615;
  within : l.list < length l.nodes;
  not_above : l.list ≤ l.fn.at;
}

abbrev pub decreases-types_left : goal.decreases-types_left
decreases-types_left l = l.list
