use Rattle.std.proofs.Common.{◌≡◌, length}
use Rattle.jc_exprs_spec.specs.Calls.{all_types}
use Rattle.jc_exprs_worlds.specs.Scenes.{world_of}
use Rattle.jc_exprs_calls.proofs.explicit.explicit_break.Given as goal

abbrev pub invariant-loop-rest : goal.invariant-loop-rest
invariant-loop-rest l = all_types (world_of l.scene) l.rest ≡ all_types (world_of l.scene) l.fn.explicit

abbrev pub decreases-loop-rest : goal.decreases-loop-rest
decreases-loop-rest l = length l.rest
