use Rattle.std.proofs.Common.{◌≡◌, ◌++◌, length, map}
use Rattle.jc_resolve_sites.specs.Constructors.{diamond_view}
use Rattle.jc_exprs_choosing.proofs.creatable.diamond_views.Given as goal

abbrev pub invariant-loop-rest : goal.invariant-loop-rest
invariant-loop-rest l = l.views ++ map (diamond_view l.table l.class) l.rest ≡ map (diamond_view l.table l.class) l.fn.ids

abbrev pub decreases-loop-rest : goal.decreases-loop-rest
decreases-loop-rest l = length l.rest
