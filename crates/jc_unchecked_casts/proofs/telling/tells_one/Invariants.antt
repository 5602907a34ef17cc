use Rattle.std.proofs.Common.{◌≡◌, ◌<◌, length}
use Rattle.jc_unchecked_spec.specs.Casts.{tells_one}
use Rattle.jc_unchecked_casts.proofs.telling.tells_one.Given as goal

abbrev pub invariant-loop-rest : goal.invariant-loop-rest
invariant-loop-rest l = tells_one l.scene.table.now l.scene.env.now.bounds l.p l.wanted l.rest l.left ≡ tells_one l.scene.table.now l.scene.env.now.bounds l.p l.wanted l.view l.own

abbrev pub decreases-loop-rest : goal.decreases-loop-rest
decreases-loop-rest l = length l.rest
