use Rattle.std.proofs.Common.{◌≡◌, ◌<◌, ◌≤◌, ◌||◌, length}
use Rattle.jc_typed.specs.Parts.{cases_of}
use Rattle.jc_flow_spec.specs.Statements.{is_labelled}
use Rattle.jc_flow_parts.proofs.conditions.is_labelled.Given as goal

abbrev pub invariant-cases_left : goal.invariant-cases_left
invariant-cases_left l = record {
  whole : (is_labelled (cases_of l.nodes l.list) l.count || l.found) ≡ is_labelled (cases_of l.nodes l.fn.at) l.count;
  within : l.list < length l.nodes;
  not_above : l.list ≤ l.fn.at;
}

abbrev pub decreases-cases_left : goal.decreases-cases_left
decreases-cases_left l = l.list
