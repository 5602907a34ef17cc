use Rattle.std.proofs.Common.{◌≡◌, Some, length}
use Rattle.jc_typed.specs.Parts.{Grows}
use Rattle.jc_exprs_nodes_spec.specs.Told.{ran}
use Rattle.jc_exprs_nodes_spec.specs.Typeds.{settling}
use Rattle.jc_exprs_nodes.specs.Walks.{KindBelow, kind_of, now}
use Rattle.jc_exprs_settling.proofs.settling.settle.Given as goal

abbrev pub invariant-loop-left : goal.invariant-loop-left
invariant-loop-left l =
    (ran (settling l.table l.place l.left (kind_of l.walk.nodes l.kind)) (now l.walk) ≡ ran (settling l.table l.place l.fn.steps (kind_of l.fn.walk.nodes l.fn.first)) (now l.fn.walk))
    × KindBelow (length l.walk.nodes) (Some l.kind)
    × Grows l.fn.walk.nodes l.walk.nodes

abbrev pub decreases-loop-left : goal.decreases-loop-left
decreases-loop-left l = l.left
