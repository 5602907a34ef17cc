use Rattle.std.proofs.Common.{◌≡◌, ◌++◌, drop}
use Rattle.jc_bodies.specs.Typed.{bodies_from, bodies_of}
use Rattle.jc_bodies.proofs.gathering.bodies_of.Given as goal

abbrev pub invariant-loop-number : goal.invariant-loop-number
invariant-loop-number l = l.list ++ bodies_from l.table l.heads l.number (drop l.number l.units) ≡ bodies_of l.table l.heads l.units
