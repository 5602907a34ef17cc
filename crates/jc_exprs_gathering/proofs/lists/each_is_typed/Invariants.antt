use Rattle.std.proofs.Common.{◌≡◌, length}
use Rattle.jc_exprs_nodes.specs.Walks.{AllBelow, has}
use Rattle.jc_exprs_gathering.specs.Gathered.{all_there}
use Rattle.jc_exprs_gathering.proofs.lists.each_is_typed.Given as goal

abbrev pub invariant-loop-rest : goal.invariant-loop-rest
invariant-loop-rest l = (all_there (has l.nodes) l.rest ≡ all_there (has l.nodes) l.fn.ats) × AllBelow (length l.nodes) l.rest

abbrev pub decreases-loop-rest : goal.decreases-loop-rest
decreases-loop-rest l = length l.rest
