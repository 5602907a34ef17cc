use Rattle.std.proofs.Common.{◌≡◌, ◌++◌, length, map}
use Rattle.jc_exprs_nodes.specs.Walks.{known}
use Rattle.jc_exprs_gathering.specs.Gathered.{AllParts}
use Rattle.jc_exprs_spec.specs.Calls.{types_of}
use Rattle.jc_exprs_choosing.proofs.sites.types_of.Given as goal

abbrev pub invariant-loop-rest : goal.invariant-loop-rest
invariant-loop-rest l = (l.types ++ types_of (map (known l.nodes) l.rest) ≡ types_of (map (known l.nodes) l.fn.args)) × AllParts l.nodes l.rest

abbrev pub decreases-loop-rest : goal.decreases-loop-rest
decreases-loop-rest l = length l.rest
