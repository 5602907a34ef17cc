use Rattle.std.proofs.Common.{◌≡◌, take, map}
use Rattle.jc_types.specs.declared.form.Arg.TheVariants.{Exact}
use Rattle.jc_types.specs.declared.form.Ty.TheVariants.{Variable}
use Rattle.jc_members.proofs.viewing.own_type.Given as goal

abbrev pub invariant-loop-i : goal.invariant-loop-i
invariant-loop-i l = l.args ≡ map (λ v. Exact (Variable v)) (take l.i l.vars)
