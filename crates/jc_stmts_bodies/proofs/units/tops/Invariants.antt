use Rattle.std.proofs.Common.{◌≡◌, ◌++◌, drop}
use Rattle.jc_stmts_bodies.specs.Flat.{of_tops}
use Rattle.jc_stmts_bodies.proofs.units.tops.Given as goal

abbrev pub invariant-loop-node : goal.invariant-loop-node
invariant-loop-node l = l.list ++ of_tops l.table (drop l.node-index l.nodes) l.left ≡ of_tops l.table l.nodes l.classes
