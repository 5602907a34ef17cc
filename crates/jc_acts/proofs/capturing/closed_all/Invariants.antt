use Rattle.std.proofs.Common.{◌≡◌, take, map}
use Rattle.jc_typed.specs.Parts.{type_of}
use Rattle.jc_meaning.specs.Kept.{closed_in}
use Rattle.jc_acts.proofs.capturing.closed_all.Given as goal

abbrev pub invariant-loop-i : goal.invariant-loop-i
invariant-loop-i l = l.out ≡ map (closed_in l.run.state) (map (type_of l.nodes) (take l.i l.places))
