use Rattle.std.proofs.Common.{◌≡◌, ◌++◌, None}
use Rattle.std.specs.Prelude.{replicate}
use Rattle.jc_machine.proofs.places.skip.Given as goal

abbrev pub invariant-loop : goal.invariant-loop
invariant-loop l = l.places ≡ l.fn.places ++ replicate l.counter None
