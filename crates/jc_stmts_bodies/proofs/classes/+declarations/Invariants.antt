use Rattle.std.proofs.Common.{◌≡◌, ◌++◌, drop}
use Rattle.jc_stmts_bodies.specs.Flat.{nested_in}
use Rattle.jc_stmts_bodies.proofs.classes.+declarations.Given as goal

abbrev pub invariant-push_nested-loop-node : goal.invariant-push_nested-loop-node
invariant-push_nested-loop-node l = l.list ++ nested_in l.table (drop l.node-index l.nodes) l.left ≡ l.initial.list ++ nested_in l.table l.nodes l.classes
