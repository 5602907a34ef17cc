use Rattle.std.proofs.Common.{◌≡◌, ◌<◌, ◌++◌, [], ◌∷◌, length}
use Rattle.std.specs.List.{list_any}
use Rattle.jc_typed.specs.Parts.{catches_of}
use Rattle.jc_flow_spec.specs.Throwing.{is_useless}
use Rattle.jc_flow_parts.proofs.throwing.is_one_useless.Given as goal

abbrev pub invariant-loop-rest : goal.invariant-loop-rest
invariant-loop-rest l = list_any (is_useless l.scene.table.now l.scene.env.now.bounds l.thrown (catches_of l.scene.nodes.now l.before)) l.rest ≡ list_any (is_useless l.scene.table.now l.scene.env.now.bounds l.thrown (catches_of l.scene.nodes.now l.before)) l.types

abbrev pub decreases-loop-rest : goal.decreases-loop-rest
decreases-loop-rest l = length l.rest
