use Rattle.std.proofs.Common.{◌≡◌, ◌<◌, ◌≤◌, ◌||◌, ℕ, length}
use Rattle.jc_typed.specs.Copies.{is_among}
use Rattle.jc_typed.specs.Parts.{cases_of}
use Rattle.jc_flow_spec.specs.Statements.{is_labelled}
use Rattle.jc_flow.proofs.numbers.labelled_numbers.Given as goal

abbrev pub invariant-cases_left : goal.invariant-cases_left
invariant-cases_left l = record {
  whole : (i : ℕ) → (is_labelled (cases_of l.nodes l.list) i || is_among i l.out) ≡ is_labelled (cases_of l.nodes l.fn.at) i;
  within : l.list < length l.nodes;
  not_above : l.list ≤ l.fn.at;
}

abbrev pub decreases-cases_left : goal.decreases-cases_left
decreases-cases_left l = l.list
