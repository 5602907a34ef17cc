use Rattle.std.proofs.Common.{◌≡◌, drop, map}
use Rattle.jc_exprs_parts_spec.specs.Constants.{chained, constant_named}
use Rattle.jc_exprs_worlds.specs.Scenes.{world_of}
use Rattle.jc_exprs_known_fields.specs.Rounds.{right_of}
use Rattle.jc_exprs_known_fields.proofs.evaluating.+values.Given as goal

abbrev pub invariant-chained-loop-part : goal.invariant-chained-loop-part
invariant-chained-loop-part l =
    chained l.value (map (right_of (constant_named (world_of l.scene))) (drop l.part-index l.parts)) ≡ chained l.fn.first (map (right_of (constant_named (world_of l.scene))) l.parts)
