use Rattle.std.proofs.Common.{◌≡◌, drop}
use Rattle.jc_types.specs.Substitution.{replacement}
use Rattle.jc_types.proofs.substitution.put_by_walk.Given as goal

abbrev pub invariant-loop-i : goal.invariant-loop-i
invariant-loop-i l = replacement l.vars l.by l.v ≡ replacement (drop l.i l.vars) (drop l.i l.by) l.v
