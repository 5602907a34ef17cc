use Rattle.std.proofs.Common.{◌≡◌, ◌++◌, None, replicate}
use Rattle.jc_rows.proofs.places.skip.Given as goal

abbrev pub invariant-loop-skipped : goal.invariant-loop-skipped
invariant-loop-skipped l = l.places ≡ l.initial.places ++ replicate l.skipped None
