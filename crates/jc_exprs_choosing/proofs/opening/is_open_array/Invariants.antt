use Rattle.std.proofs.Common.{◌≡◌, length}
use Rattle.jc_exprs_spec.specs.Calls.{is_open_array}
use Rattle.jc_exprs_worlds.specs.Scenes.{world_of}
use Rattle.jc_exprs_choosing.proofs.opening.is_open_array.Given as goal

abbrev pub invariant-loop-rest : goal.invariant-loop-rest
invariant-loop-rest l = is_open_array (world_of l.scene) l.env.bounds l.rest ≡ is_open_array (world_of l.scene) l.env.bounds l.fn.params

abbrev pub decreases-loop-rest : goal.decreases-loop-rest
decreases-loop-rest l = length l.rest
