use Rattle.std.proofs.Common.{◌≡◌, ◌++◌, drop}
use Rattle.jc_rows.specs.Laid.{placed_as, places_of}
use Rattle.jc_rows.proofs.places.places.Given as goal

-- what is still to come, behind what was found
abbrev pub invariant-loop-ins : goal.invariant-loop-ins
invariant-loop-ins l =
    l.found ++ places_of (placed_as l.classes (l.class, l.method)) l.at (drop l.ins-index l.instructions) ≡ places_of (placed_as l.classes (l.class, l.method)) 0 l.instructions
