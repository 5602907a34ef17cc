use Rattle.std.proofs.Common.{◌≡◌, ◌∷◌, Some, None}
use Rattle.std.specs.Prelude.{replicate}
use Rattle.jc_machine.specs.declared.value.Value.TheVariants.{NullValue}
use Rattle.jc_machine.proofs.load.frame.Given as goal

abbrev pub invariant-loop : goal.invariant-loop
invariant-loop l = l.locals ≡ Some NullValue ∷ replicate l.counter None
