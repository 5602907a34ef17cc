use Rattle.std.proofs.Common.{◌≡◌, ◌++◌, length}
use Rattle.jc_exprs_nodes_spec.specs.Typeds.{opened_parts}
use Rattle.jc_exprs_settling.proofs.opening.push_opened.Given as goal

abbrev pub invariant-loop-rest : goal.invariant-loop-rest
invariant-loop-rest l =
    l.out ++ opened_parts l.judging.table.now l.judging.env.now.bounds l.rest ≡ l.fn.out ++ opened_parts l.judging.table.now l.judging.env.now.bounds l.fn.types

abbrev pub decreases-loop-rest : goal.decreases-loop-rest
decreases-loop-rest l = length l.rest
