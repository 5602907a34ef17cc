use Rattle.std.proofs.Common.{◌≡◌, ◌++◌, drop}
use Rattle.jc_stmts_spec.specs.Bodies.{those}
use Rattle.jc_stmts_bodies.proofs.initialisers.those.Given as goal

abbrev pub invariant-loop-stood : goal.invariant-loop-stood
invariant-loop-stood l = l.found ++ those l.is_static (drop l.stood-index l.list) ≡ those l.is_static l.list
