use Rattle.jc_outside.specs.Told.{Stays}
use Rattle.jc_outside.proofs.streams.write_some.Given as goal

-- nothing was written so far
abbrev pub invariant-loop : goal.invariant-loop
invariant-loop g l = Stays (g.W.Write.contents l.fn.to) (g.W.Write.contents l.to)
