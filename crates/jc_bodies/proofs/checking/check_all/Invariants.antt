use Rattle.std.proofs.Common.{◌≡◌, ◌≤◌, drop, length}
use Rattle.jc_stmts_whole.specs.Programs.{heads_in, knowledge_in}
use Rattle.jc_bodies.specs.Slots.{AreChecked}
use Rattle.jc_bodies.proofs.checking.check_all.Given as goal

abbrev pub invariant-loop-left : goal.invariant-loop-left
invariant-loop-left l = record {
  within : l.left ≤ length l.bodies;
  length : length l.typing.slots.items ≡ length l.program.table.now.methods;
  checked : AreChecked l.program.table.now (heads_in l.program) (knowledge_in l.program) l.bodies (drop l.left l.bodies) l.typing;
}

abbrev pub decreases-loop-left : goal.decreases-loop-left
decreases-loop-left l = l.left
