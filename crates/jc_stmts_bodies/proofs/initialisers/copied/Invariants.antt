use Rattle.std.proofs.Common.{◌≡◌, take}
use Rattle.jc_stmts_bodies.proofs.initialisers.copied.Given as goal

abbrev pub invariant-loop-initialiser : goal.invariant-loop-initialiser
invariant-loop-initialiser l = l.copy ≡ take l.initialiser-index l.list
