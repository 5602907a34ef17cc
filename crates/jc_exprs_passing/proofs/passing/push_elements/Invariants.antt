use Rattle.std.proofs.Common.{◌≡◌, ◌<◌, length, map}
use Rattle.jc_typed.specs.Parts.{Grows, operands_of}
use Rattle.jc_exprs_nodes.specs.Walks.{known}
use Rattle.jc_exprs_gathering.specs.Gathered.{AllParts}
use Rattle.jc_exprs_spec.specs.Calls.{elements_to}
use Rattle.jc_exprs_passing.proofs.passing.push_elements.Given as goal

abbrev pub invariant-loop-rest : goal.invariant-loop-rest
invariant-loop-rest l =
    (elements_to l.judging.table.now l.judging.env.now.bounds (operands_of l.nodes l.list) (map (known l.fn.nodes) l.rest) l.param
    ≡ elements_to l.judging.table.now l.judging.env.now.bounds (operands_of l.fn.nodes l.fn.before) (map (known l.fn.nodes) l.fn.args) l.param)
    × (l.list < length l.nodes)
    × AllParts l.fn.nodes l.rest
    × Grows l.fn.nodes l.nodes

abbrev pub decreases-loop-rest : goal.decreases-loop-rest
decreases-loop-rest l = length l.rest
