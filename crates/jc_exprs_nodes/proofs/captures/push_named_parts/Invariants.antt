use Rattle.std.proofs.Common.{◌≡◌, ◌<◌, ◌++◌, length}
use Rattle.jc_typed.specs.Parts.{Grows, captures_of}
use Rattle.jc_exprs_nodes_spec.specs.Typeds.{named_parts}
use Rattle.jc_exprs_nodes.proofs.captures.push_named_parts.Given as goal

abbrev pub invariant-loop-rest : goal.invariant-loop-rest
invariant-loop-rest l =
    (captures_of l.nodes l.naming.list ++ named_parts l.table l.naming.next l.rest ≡ captures_of l.fn.nodes l.fn.from.list ++ named_parts l.table l.fn.from.next l.fn.parts)
    × (l.naming.list < length l.nodes)
    × Grows l.fn.nodes l.nodes

abbrev pub decreases-loop-rest : goal.decreases-loop-rest
decreases-loop-rest l = length l.rest
