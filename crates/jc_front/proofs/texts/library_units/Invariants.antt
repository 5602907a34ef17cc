use Rattle.std.proofs.Common.{map, drop}
use Rattle.jc_prelude.specs.Texts.{texts}
use Rattle.jc_front.proofs.LibraryTurns.{Goes}
use Rattle.jc_front.proofs.texts.library_units.Given as goal

abbrev pub invariant-loop-n : goal.invariant-loop-n
invariant-loop-n l = Goes texts (map (λ text. text.now) (drop l.n l.texts)) l.before l.units
