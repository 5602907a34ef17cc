use Rattle.std.proofs.Common.{◌≡◌, ◌+◌, ◌*◌, length}
use Rattle.jc_judge.specs.Views.{first_of}
use Rattle.jc_lub.specs.Uncaptured.{up_view_within}
use Rattle.jc_lub.proofs.viewing.+up_view.Given as goal

abbrev pub decreases-up_view_within : goal.decreases-up_view_within
decreases-up_view_within l = 2 * l.steps

abbrev pub decreases-first_up_view : goal.decreases-first_up_view
decreases-first_up_view l = 2 * l.steps + 1

abbrev pub invariant-first_up_view-loop-rest : goal.invariant-first_up_view-loop-rest
invariant-first_up_view-loop-rest l = first_of (up_view_within l.table l.env l.steps l.k) l.types ≡ first_of (up_view_within l.table l.env l.steps l.k) l.rest

abbrev pub decreases-first_up_view-loop-rest : goal.decreases-first_up_view-loop-rest
decreases-first_up_view-loop-rest l = length l.rest
