use Rattle.std.proofs.Common.{◌≡◌, length}
use Rattle.jc_meaning.specs.Programs.{first_initialiser, initialiser_of}
use Rattle.jc_acts.proofs.classes.initialiser_of.Given as goal

abbrev pub invariant-loop-rest : goal.invariant-loop-rest
invariant-loop-rest l = initialiser_of l.table l.fn.k ≡ first_initialiser l.table l.rest

abbrev pub decreases-loop-rest : goal.decreases-loop-rest
decreases-loop-rest l = length l.rest
