use Rattle.std.proofs.Common.{◌≡◌, length}
use Rattle.jc_exprs_nodes.specs.Walks.{AllBelow}
use Rattle.jc_exprs_gathering.specs.Gathered.{all_there, has_operand}
use Rattle.jc_exprs_gathering.proofs.lists.each_is_given.Given as goal

abbrev pub invariant-loop-rest : goal.invariant-loop-rest
invariant-loop-rest l = (all_there (has_operand l.nodes) l.rest ≡ all_there (has_operand l.nodes) l.fn.ats) × AllBelow (length l.nodes) l.rest

abbrev pub decreases-loop-rest : goal.decreases-loop-rest
decreases-loop-rest l = length l.rest
