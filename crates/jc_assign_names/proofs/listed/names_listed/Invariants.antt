use Rattle.std.proofs.Common.{◌≡◌, ◌<◌, ◌≤◌, ◌++◌, length, reverse}
use Rattle.jc_typed.specs.Parts.{names_of}
use Rattle.jc_assign_names.specs.Lists.{named_by}
use Rattle.jc_assign_names.proofs.listed.names_listed.Given as goal

abbrev pub invariant-names_left : goal.invariant-names_left
invariant-names_left l = record {
  whole : names_of l.nodes l.list ++ named_by (reverse l.out.items) ≡ names_of l.nodes l.fn.at;
  within : l.list < length l.nodes;
  not_above : l.list ≤ l.fn.at;
}

abbrev pub decreases-names_left : goal.decreases-names_left
decreases-names_left l = l.list
