use Rattle.std.proofs.Common.{◌≡◌, ◌+◌, ◌++◌, length, map}
use Rattle.jc_types.specs.Substitution.{subst}
use Rattle.jc_resolve_sites.proofs.renaming.put_bounds.Given as goal

abbrev pub invariant-loop-rest : goal.invariant-loop-rest
invariant-loop-rest l = l.list ++ map (map (subst l.vars l.by)) l.rest ≡ map (map (subst l.vars l.by)) l.bounds

abbrev pub decreases-loop-rest : goal.decreases-loop-rest
decreases-loop-rest l = length l.rest
