use Rattle.std.proofs.Common.{◌≡◌, ◌<◌, ◌++◌, length}
use Rattle.jc_typed.specs.Parts.{Grows, steps_of, type_of}
use Rattle.jc_exprs_nodes_spec.specs.Typeds.{led}
use Rattle.jc_exprs_nodes.proofs.stepping.push_led.Given as goal

abbrev pub invariant-loop-rest : goal.invariant-loop-rest
invariant-loop-rest l =
    (steps_of l.nodes l.at.steps ++ led l.judging.table.now l.judging.env.now.bounds l.unchecked (type_of l.nodes l.at.ty) l.rest
    ≡ steps_of l.fn.nodes l.fn.before.steps ++ led l.judging.table.now l.judging.env.now.bounds l.unchecked (type_of l.fn.nodes l.fn.before.ty) l.fn.turns)
    × (l.at.steps < length l.nodes)
    × (l.at.ty < length l.nodes)
    × Grows l.fn.nodes l.nodes

abbrev pub decreases-loop-rest : goal.decreases-loop-rest
decreases-loop-rest l = length l.rest
