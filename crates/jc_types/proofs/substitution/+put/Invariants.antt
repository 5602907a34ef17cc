use Rattle.std.proofs.Common.{◌≡◌, take, map}
use Rattle.jc_types.specs.Substitution.{subst, subst_arg}
use Rattle.jc_types.proofs.substitution.+put.Given as goal

abbrev pub invariant-put_args-loop-i : goal.invariant-put_args-loop-i
invariant-put_args-loop-i l = l.out ≡ map (subst_arg l.vars l.by) (take l.i l.args)

abbrev pub invariant-substitute_all-loop-i : goal.invariant-substitute_all-loop-i
invariant-substitute_all-loop-i l = l.out ≡ map (subst l.vars l.by) (take l.i l.types)
