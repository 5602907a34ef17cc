use Rattle.std.proofs.Common.{◌≡◌, ◌<◌, ◌++◌, length, reverse}
use Rattle.jc_typed.specs.Parts.{Grows, ops_of}
use Rattle.jc_exprs_chains.proofs.prefixed.push_signs.Given as goal

abbrev pub invariant-loop-op : goal.invariant-loop-op
invariant-loop-op l =
    (ops_of l.nodes l.list ++ reverse l.left ≡ reverse l.fn.ops)
    × (l.list < length l.nodes)
    × Grows l.fn.nodes l.nodes

abbrev pub decreases-loop-op : goal.decreases-loop-op
decreases-loop-op l = length l.left
