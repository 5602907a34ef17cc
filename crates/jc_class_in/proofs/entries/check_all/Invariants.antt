use Rattle.std.proofs.Common.{◌≡◌, drop}
use Rattle.jc_class_out.specs.Pool.{checked}
use Rattle.jc_class_in.proofs.entries.check_all.Given as goal

abbrev pub invariant-loop-slot : goal.invariant-loop-slot
invariant-loop-slot l = checked l.pool (drop l.slot-index l.pool) ≡ checked l.pool l.pool
