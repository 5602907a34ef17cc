use Rattle.std.proofs.Common.{◌≡◌, length}
use Rattle.jc_exprs_parts_spec.specs.Senses.{next_senses, simple_sense}
use Rattle.jc_exprs_worlds.specs.Scenes.{world_of}
use Rattle.jc_exprs_senses.specs.Sensed.{sense_of}
use Rattle.jc_exprs_known_fields.proofs.naming.sense_named.Given as goal

abbrev pub invariant-loop-rest : goal.invariant-loop-rest
invariant-loop-rest l = next_senses (world_of l.scene) (sense_of l.sense) l.rest ≡ next_senses (world_of l.scene) (simple_sense (world_of l.scene) l.first) l.fn.more

abbrev pub decreases-loop-rest : goal.decreases-loop-rest
decreases-loop-rest l = length l.rest
