use Rattle.std.proofs.Common.{◌≡◌, ◌+◌, ◌++◌, length, map}
use Rattle.jc_types.specs.Accessors.{bounds_of}
use Rattle.jc_resolve_sites.proofs.constructors.declared_of.Given as goal

abbrev pub invariant-loop-rest : goal.invariant-loop-rest
invariant-loop-rest l = l.list ++ map (bounds_of l.table) l.rest ≡ map (bounds_of l.table) l.vars

abbrev pub decreases-loop-rest : goal.decreases-loop-rest
decreases-loop-rest l = length l.rest
