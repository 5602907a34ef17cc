use Rattle.std.proofs.Common.{◌≡◌, ◌<◌, ◌≤◌, ◌+◌, length}
use Rattle.jc_typed.specs.Parts.{declared_of}
use Rattle.jc_typed.specs.Bulk.{capped, declared_bulk}
use Rattle.jc_typed.proofs.statement_bulk.declared_bulk.Given as goal

abbrev pub invariant-declared_left : goal.invariant-declared_left
invariant-declared_left l = record {
  whole : capped (l.total + declared_bulk (declared_of l.nodes l.list)) ≡ capped (declared_bulk (declared_of l.nodes l.fn.at));
  small : l.total ≤ 18446744073709551615;
  within : l.list < length l.nodes;
  not_above : l.list ≤ l.fn.at;
}

abbrev pub decreases-declared_left : goal.decreases-declared_left
decreases-declared_left l = l.list
