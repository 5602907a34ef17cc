use Rattle.std.proofs.Common.{◌≡◌, ◌<◌, ◌≤◌, length}
use Rattle.jc_typed.specs.Parts.{links_of}
use Rattle.jc_assign_names.specs.Lists.{AllBelow, operands_onto, rights}
use Rattle.jc_assign_names.proofs.listed.links_listed.Given as goal

abbrev pub invariant-links_left : goal.invariant-links_left
invariant-links_left l = record {
  whole : rights (links_of l.nodes l.fn.at) ≡ operands_onto l.nodes (rights (links_of l.nodes l.list)) l.out;
  below : AllBelow l.fn.at l.out;
  within : l.list < length l.nodes;
  not_above : l.list ≤ l.fn.at;
}

abbrev pub decreases-links_left : goal.decreases-links_left
decreases-links_left l = l.list
