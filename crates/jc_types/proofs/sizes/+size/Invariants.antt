use Rattle.std.proofs.Common.{◌≡◌, sum, map, take}
use Rattle.jc_types.specs.Counting.{count_of, arg_count_of, capped}
use Rattle.jc_types.proofs.sizes.+size.Given as goal

abbrev pub invariant-args_size-loop-i : goal.invariant-args_size-loop-i
invariant-args_size-loop-i l = l.total ≡ capped (sum (map arg_count_of (take l.i l.args)))

abbrev pub invariant-types_size-loop-i : goal.invariant-types_size-loop-i
invariant-types_size-loop-i l = l.total ≡ capped (sum (map count_of (take l.i l.types)))
