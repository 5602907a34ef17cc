use Rattle.std.proofs.Common.{◌≡◌, ◌++◌, length}
use Rattle.jc_exprs_spec.specs.Creations.{views_of}
use Rattle.jc_exprs_choosing.proofs.creatable.views_of.Given as goal

abbrev pub invariant-loop-rest : goal.invariant-loop-rest
invariant-loop-rest l = l.views ++ views_of l.table l.ty l.rest ≡ views_of l.table l.ty l.fn.ids

abbrev pub decreases-loop-rest : goal.decreases-loop-rest
decreases-loop-rest l = length l.rest
