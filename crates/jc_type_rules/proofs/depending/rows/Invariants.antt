use Rattle.std.proofs.Common.{◌≡◌}
use Rattle.jc_type_rules.specs.Depending.{rows_below}
use Rattle.jc_type_rules.proofs.depending.rows.Given as goal

abbrev pub invariant-loop-number : goal.invariant-loop-number
invariant-loop-number l = l.rows ≡ rows_below l.table l.count l.number
