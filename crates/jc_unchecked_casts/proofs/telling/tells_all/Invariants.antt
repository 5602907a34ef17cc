use Rattle.std.proofs.Common.{◌≡◌, ◌<◌, length}
use Rattle.jc_unchecked_spec.specs.Casts.{tells_all}
use Rattle.jc_unchecked_casts.proofs.telling.tells_all.Given as goal

abbrev pub invariant-loop-rest : goal.invariant-loop-rest
invariant-loop-rest l =
    tells_all l.scene.table.now l.scene.env.now.bounds l.view l.own l.rest l.left ≡ tells_all l.scene.table.now l.scene.env.now.bounds l.view l.own l.vars l.wanted

abbrev pub decreases-loop-rest : goal.decreases-loop-rest
decreases-loop-rest l = length l.rest
