use Rattle.std.proofs.Common.{◌≡◌, ◌+◌, ◌*◌, length}
use Rattle.jc_judge.specs.Views.{view_within, first_of}
use Rattle.jc_sub.proofs.views.+view.Given as goal

abbrev pub decreases-view_up : goal.decreases-view_up
decreases-view_up l = 4 * l.steps

abbrev pub decreases-view_along : goal.decreases-view_along
decreases-view_along l = 4 * l.steps + 1

abbrev pub decreases-view_within : goal.decreases-view_within
decreases-view_within l = 4 * l.steps + 2

abbrev pub decreases-first_view : goal.decreases-first_view
decreases-first_view l = 4 * l.steps + 3

abbrev pub invariant-first_view-loop-rest : goal.invariant-first_view-loop-rest
invariant-first_view-loop-rest l = first_of (view_within l.table l.steps l.k) l.types ≡ first_of (view_within l.table l.steps l.k) l.rest

abbrev pub decreases-first_view-loop-rest : goal.decreases-first_view-loop-rest
decreases-first_view-loop-rest l = length l.rest
