use Rattle.std.proofs.Common.{◌≡◌, take, map}
use Rattle.jc_meaning.specs.Kept.{kept_array}
use Rattle.jc_kept.specs.Arguments.{unbounded_arg}
use Rattle.jc_kept.proofs.unbounded.+unbounded.Given as goal

abbrev pub invariant-unbounded_args-loop-i : goal.invariant-unbounded_args-loop-i
invariant-unbounded_args-loop-i l = l.out ≡ map (unbounded_arg l.table) (take l.i l.args)

abbrev pub invariant-unbounded_types-loop-i : goal.invariant-unbounded_types-loop-i
invariant-unbounded_types-loop-i l = l.out ≡ map (kept_array l.table) (take l.i l.types)
