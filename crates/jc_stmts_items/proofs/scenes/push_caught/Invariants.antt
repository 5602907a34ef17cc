use Rattle.std.proofs.Common.{◌≡◌, ◌++◌, length, map}
use Rattle.jc_exprs_parts_spec.specs.Worlds.{written_class}
use Rattle.jc_exprs_worlds.specs.Scenes.{world_of}
use Rattle.jc_stmts_items.proofs.scenes.push_caught.Given as goal

abbrev pub invariant-loop-rest : goal.invariant-loop-rest
invariant-loop-rest l = l.types ++ map (written_class (world_of l.scene)) l.rest ≡ l.initial.types ++ map (written_class (world_of l.scene)) l.fn.trees

abbrev pub decreases-loop-rest : goal.decreases-loop-rest
decreases-loop-rest l = length l.rest
