use Rattle.std.proofs.Common.{◌≡◌, drop}
use Rattle.jc_stmts_bodies.specs.Flat.{all_call}
use Rattle.jc_stmts_bodies.proofs.methods.all_call_this.Given as goal

abbrev pub invariant-loop-method : goal.invariant-loop-method
invariant-loop-method l = all_call l.table (drop l.method-index l.methods) l.left ≡ all_call l.table l.methods l.blocks
