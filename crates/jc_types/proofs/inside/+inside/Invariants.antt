use Rattle.std.proofs.Common.{◌≡◌, ◌++◌, take}
use Rattle.jc_types.specs.Inside.{inside_args, inside_types}
use Rattle.jc_types.proofs.inside.+inside.Given as goal

abbrev pub invariant-push_inside_args-loop-i : goal.invariant-push_inside_args-loop-i
invariant-push_inside_args-loop-i l = l.out ≡ l.fn.out ++ inside_args (take l.i l.args)

abbrev pub invariant-push_inside_types-loop-i : goal.invariant-push_inside_types-loop-i
invariant-push_inside_types-loop-i l = l.out ≡ l.fn.out ++ inside_types (take l.i l.types)
