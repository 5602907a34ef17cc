use Rattle.std.proofs.Common.{◌≡◌, ◌<◌, ◌||◌, length, map}
use Rattle.jc_typed.specs.Parts.{Grows, operands_of}
use Rattle.jc_typed.specs.Trees.{NoOperands}
use Rattle.jc_exprs_nodes_spec.specs.Typeds.{operands_of as in_order}
use Rattle.jc_exprs_nodes.specs.Walks.{known, now}
use Rattle.jc_exprs_gathering.specs.Gathered.{AllParts}
use Rattle.jc_exprs_parts_spec.specs.Values.{length_breaks, lengths}
use Rattle.jc_exprs_values.specs.Noted.{is_broken, noted}
use Rattle.jc_exprs_values.proofs.arrays.push_lengths.Given as goal

abbrev pub invariant-loop-rest : goal.invariant-loop-rest
invariant-loop-rest l =
    (noted (now l.walk) (length_breaks l.table l.fn.walk.env.bounds (map (known l.fn.walk.nodes) l.rest)) ≡ noted (now l.fn.walk) (length_breaks l.table l.fn.walk.env.bounds (map (known l.fn.walk.nodes) l.fn.ats)))
    × ((l.lengths.is_broken || is_broken (length_breaks l.table l.fn.walk.env.bounds (map (known l.fn.walk.nodes) l.rest))) ≡ is_broken (length_breaks l.table l.fn.walk.env.bounds (map (known l.fn.walk.nodes) l.fn.ats)))
    × (in_order (lengths l.table l.fn.walk.env.bounds (map (known l.fn.walk.nodes) l.rest)) (operands_of l.walk.nodes l.lengths.at) ≡ in_order (lengths l.table l.fn.walk.env.bounds (map (known l.fn.walk.nodes) l.fn.ats)) NoOperands)
    × (l.walk.env.bounds ≡ l.fn.walk.env.bounds)
    × (l.lengths.at < length l.walk.nodes)
    × AllParts l.fn.walk.nodes l.rest
    × Grows l.fn.walk.nodes l.walk.nodes

abbrev pub decreases-loop-rest : goal.decreases-loop-rest
decreases-loop-rest l = length l.rest
