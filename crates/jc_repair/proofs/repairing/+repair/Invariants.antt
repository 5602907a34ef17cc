use Rattle.std.proofs.Common.{◌≡◌, take, map}
use Rattle.jc_repair.specs.Repairing.{loosened, repaired, repaired_arg}
use Rattle.jc_repair.proofs.repairing.+repair.Given as goal

abbrev pub invariant-repaired_args-loop-i : goal.invariant-repaired_args-loop-i
invariant-repaired_args-loop-i l = l.out ≡ map (repaired_arg l.table l.env.bounds) (take l.i l.args)

abbrev pub invariant-loosened_args-loop-i : goal.invariant-loosened_args-loop-i
invariant-loosened_args-loop-i l = l.out ≡ map loosened (map (repaired_arg l.table l.env.bounds) (take l.i l.args))

abbrev pub invariant-repaired_types-loop-i : goal.invariant-repaired_types-loop-i
invariant-repaired_types-loop-i l = l.out ≡ map (repaired l.table l.env.bounds) (take l.i l.types)
