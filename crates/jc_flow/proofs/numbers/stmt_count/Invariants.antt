use Rattle.std.proofs.Common.{◌≡◌, ◌<◌, ◌≤◌, ◌+◌, length}
use Rattle.jc_typed.specs.Parts.{stmts_of}
use Rattle.jc_flow_spec.specs.Statements.{stmt_count}
use Rattle.jc_flow.proofs.numbers.stmt_count.Given as goal

abbrev pub invariant-stmts_left : goal.invariant-stmts_left
invariant-stmts_left l = record {
  whole : stmt_count (stmts_of l.nodes l.list) + l.count ≡ stmt_count (stmts_of l.nodes l.fn.at);
  within : l.list < length l.nodes;
  few : l.list + l.count ≤ l.fn.at;
}

abbrev pub decreases-stmts_left : goal.decreases-stmts_left
decreases-stmts_left l = l.list
