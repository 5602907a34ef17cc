use Rattle.std.proofs.Common.{◌≡◌, ◌<◌, ◌≤◌, ◌+◌, length}
use Rattle.jc_typed.specs.Parts.{cases_of}
use Rattle.jc_typed.specs.Bulk.{capped}
use Rattle.jc_typed.proofs.weights.case_count.Given as goal

abbrev pub invariant-cases_left : goal.invariant-cases_left
invariant-cases_left l = record {
  whole : capped (l.total + length (cases_of l.nodes l.list)) ≡ capped (length (cases_of l.nodes l.fn.at));
  small : l.total ≤ 18446744073709551615;
  within : l.list < length l.nodes;
  not_above : l.list ≤ l.fn.at;
}

abbrev pub decreases-cases_left : goal.decreases-cases_left
decreases-cases_left l = l.list
