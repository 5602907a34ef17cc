use Rattle.std.proofs.Common.{◌≡◌, length, map}
use Rattle.jc_places.specs.Sorts.{catch_of}
use Rattle.jc_completing.specs.Catching.{first_catch}
use Rattle.jc_completing.proofs.trying.first_catch.Given as goal

abbrev pub invariant-loop-rest : goal.invariant-loop-rest
invariant-loop-rest l = first_catch l.program l.e (map (catch_of l.nodes) l.fn.clauses) ≡ first_catch l.program l.e (map (catch_of l.nodes) l.rest)

abbrev pub decreases-loop-rest : goal.decreases-loop-rest
decreases-loop-rest l = length l.rest
