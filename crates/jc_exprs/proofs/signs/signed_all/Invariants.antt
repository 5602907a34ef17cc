use Rattle.std.proofs.Common.{◌≡◌, length}
use Rattle.jc_typed.specs.Parts.{Grows}
use Rattle.jc_exprs_nodes.specs.Walks.{now}
use Rattle.jc_exprs_worlds.specs.Scenes.{world_of}
use Rattle.jc_exprs_chains.specs.Chaining.{SignedIn, has_signed}
use Rattle.jc_exprs.specs.Signing.{signed_walk}
use Rattle.jc_exprs.proofs.signs.signed_all.Given as goal

abbrev pub invariant-loop-i : goal.invariant-loop-i
invariant-loop-i l =
    (signed_walk (world_of l.scene) l.first l.more l.i (record { state = now l.walk; has = has_signed l.walk.nodes l.signs }) ≡ signed_walk (world_of l.scene) l.first l.more (length l.more) (record { state = now l.fn.walk; has = has_signed l.fn.walk.nodes l.fn.innermost }))
    × SignedIn l.walk.nodes l.signs
    × Grows l.fn.walk.nodes l.walk.nodes

abbrev pub decreases-loop-i : goal.decreases-loop-i
decreases-loop-i l = l.i
