use Rattle.std.proofs.Common.{◌≡◌, ◌+◌, ◌++◌, length, map}
use Rattle.jc_resolve_sites.specs.Sites.{apart}
use Rattle.jc_resolve_sites.proofs.sites.all_apart.Given as goal

abbrev pub invariant-loop-rest : goal.invariant-loop-rest
invariant-loop-rest l = l.list ++ map (apart l.table l.first l.ty) l.rest ≡ map (apart l.table l.first l.ty) l.members

abbrev pub decreases-loop-rest : goal.decreases-loop-rest
decreases-loop-rest l = length l.rest
