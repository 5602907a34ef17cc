use Rattle.std.proofs.Common.{◌≡◌, ◌<◌, length, map}
use Rattle.jc_typed.specs.Parts.{Grows, operands_of}
use Rattle.jc_typed.specs.Trees.{NoOperands}
use Rattle.jc_exprs_nodes.specs.Walks.{known}
use Rattle.jc_exprs_gathering.specs.Gathered.{AllParts}
use Rattle.jc_exprs_spec.specs.Calls.{erasures_of, packed}
use Rattle.jc_exprs_passing.proofs.packing.push_packed.Given as goal

abbrev pub invariant-loop-left : goal.invariant-loop-left
invariant-loop-left l =
    (packed l.judging.table.now l.judging.env.now.bounds l.place (operands_of l.nodes l.list) (map (known l.fn.nodes) l.rest) l.left.types.now (erasures_of l.judging.table.now l.left.declared.now)
    ≡ packed l.judging.table.now l.judging.env.now.bounds l.place NoOperands (map (known l.fn.nodes) l.fn.args) l.fn.params.types.now (erasures_of l.judging.table.now l.fn.params.declared.now))
    × (l.list < length l.nodes)
    × AllParts l.fn.nodes l.rest
    × Grows l.fn.nodes l.nodes

abbrev pub decreases-loop-left : goal.decreases-loop-left
decreases-loop-left l = length l.rest
