use Rattle.std.proofs.Common.{◌≡◌, ◌<◌, ◌++◌, length}
use Rattle.jc_typed.specs.Parts.{Grows, types_of}
use Rattle.jc_exprs_passing.proofs.lists.push_type_list.Given as goal

abbrev pub invariant-loop-rest : goal.invariant-loop-rest
invariant-loop-rest l = (types_of l.nodes l.list ++ l.rest ≡ l.fn.types) × (l.list < length l.nodes) × Grows l.fn.nodes l.nodes

abbrev pub decreases-loop-rest : goal.decreases-loop-rest
decreases-loop-rest l = length l.rest
