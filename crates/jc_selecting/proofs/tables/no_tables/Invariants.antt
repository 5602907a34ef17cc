use Rattle.std.proofs.Common.{◌≡◌, None, replicate}
use Rattle.jc_selecting.proofs.tables.no_tables.Given as goal

abbrev pub invariant-loop-made : goal.invariant-loop-made
invariant-loop-made l = l.tables.items ≡ replicate l.made None
