use Rattle.std.proofs.Common.{◌≡◌, drop}
use Rattle.jc_declares.specs.Knowing.{all_known}
use Rattle.jc_looking.specs.Members.{known_in}
use Rattle.jc_settling.proofs.settled.all_known.Given as goal

abbrev pub invariant-loop-class : goal.invariant-loop-class
invariant-loop-class l = all_known (known_in l.known) (drop l.class-index l.classes) ≡ all_known (known_in l.known) l.classes
