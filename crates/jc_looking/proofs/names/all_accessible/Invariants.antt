use Rattle.std.proofs.Common.{◌≡◌, drop}
use Rattle.jc_declares.specs.Looking.{all_accessible}
use Rattle.jc_looking.specs.Standings.{asking}
use Rattle.jc_looking.proofs.names.all_accessible.Given as goal

abbrev pub invariant-loop-class : goal.invariant-loop-class
invariant-loop-class l =
    all_accessible l.heads (asking l.«package» l.top) (drop l.class-index l.classes) ≡ all_accessible l.heads (asking l.«package» l.top) l.classes
