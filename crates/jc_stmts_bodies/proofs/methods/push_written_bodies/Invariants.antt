use Rattle.std.proofs.Common.{◌≡◌, ◌++◌, drop}
use Rattle.jc_stmts_bodies.specs.Flat.{all_call, written_in}
use Rattle.jc_stmts_bodies.proofs.methods.push_written_bodies.Given as goal

abbrev pub invariant-loop-method : goal.invariant-loop-method
invariant-loop-method l =
    l.list ++ written_in l.node.table.now l.node.class l.initialisers l.is_first (drop l.method-index l.methods) l.left
    ≡ l.initial.list ++ written_in l.node.table.now l.node.class l.initialisers (all_call l.node.table.now l.methods l.blocks) l.methods l.blocks
