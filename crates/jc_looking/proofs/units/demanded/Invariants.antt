use Rattle.std.proofs.Common.{◌≡◌, drop, map, None}
use Rattle.jc_imports.specs.Founds.{found_of}
use Rattle.jc_looking.specs.declared.scene.Sight.TheVariants.{Nothing}
use Rattle.jc_looking.specs.Sights.{gathered, open_in_all}
use Rattle.jc_looking.specs.Standings.{asking}
use Rattle.jc_looking.proofs.units.demanded.Given as goal

abbrev pub invariant-loop-demand : goal.invariant-loop-demand
invariant-loop-demand l =
    gathered l.sight (open_in_all l.scene.declared.heads.now (asking l.«package» None) l.name (map found_of (drop l.demand-index l.demands)))
    ≡ gathered Nothing (open_in_all l.scene.declared.heads.now (asking l.«package» None) l.name (map found_of l.demands))
