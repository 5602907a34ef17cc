use Rattle.std.proofs.Common.{◌≡◌, ◌+◌, ◌++◌, length, map}
use Rattle.jc_resolve_sites.specs.Renaming.{renamed}
use Rattle.jc_resolve_sites.proofs.sites.all_renamed.Given as goal

abbrev pub invariant-loop-rest : goal.invariant-loop-rest
invariant-loop-rest l = l.list ++ map (renamed l.first) l.rest ≡ map (renamed l.first) l.members

abbrev pub decreases-loop-rest : goal.decreases-loop-rest
decreases-loop-rest l = length l.rest
