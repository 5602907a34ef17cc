use Rattle.std.proofs.Common.{◌≡◌, ◌++◌, drop}
use Rattle.jc_stmts_spec.specs.Bodies.{written}
use Rattle.jc_stmts_bodies.proofs.methods.written.Given as goal

abbrev pub invariant-loop-method : goal.invariant-loop-method
invariant-loop-method l = l.list ++ written l.table (drop l.method-index l.methods) ≡ written l.table l.methods
