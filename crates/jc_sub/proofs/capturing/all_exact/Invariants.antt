use Rattle.std.proofs.Common.{◌≡◌, take, map}
use Rattle.jc_types.specs.declared.form.Arg.TheVariants.{Exact}
use Rattle.jc_sub.proofs.capturing.all_exact.Given as goal

abbrev pub invariant-loop-i : goal.invariant-loop-i
invariant-loop-i l = l.out ≡ map Exact (take l.i l.types)
