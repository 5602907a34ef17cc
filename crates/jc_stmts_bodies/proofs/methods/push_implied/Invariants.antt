use Rattle.std.proofs.Common.{◌≡◌, ◌++◌, drop}
use Rattle.jc_types.specs.Accessors.{methods_of}
use Rattle.jc_stmts_spec.specs.Bodies.{implied_bodies}
use Rattle.jc_stmts_bodies.proofs.methods.push_implied.Given as goal

abbrev pub invariant-loop-method : goal.invariant-loop-method
invariant-loop-method l =
    l.list ++ implied_bodies l.node.table.now l.node.class l.node.members.now (drop l.method-index (methods_of l.node.table.now l.node.class))
    ≡ l.initial.list ++ implied_bodies l.node.table.now l.node.class l.node.members.now (methods_of l.node.table.now l.node.class)
