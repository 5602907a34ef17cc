use Rattle.std.proofs.Common.{◌≡◌, ◌++◌, None, replicate}
use Rattle.jc_calls.proofs.frames.add_nothing.Given as goal

abbrev pub invariant-loop-made : goal.invariant-loop-made
invariant-loop-made l = l.locals.items ≡ l.initial.locals.items ++ replicate l.made None
