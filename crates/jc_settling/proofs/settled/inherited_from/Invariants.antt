use Rattle.std.proofs.Common.{◌≡◌, [], drop}
use Rattle.jc_declares.specs.Knowing.{inherited_from}
use Rattle.jc_looking.specs.Members.{known_in}
use Rattle.jc_settling.proofs.settled.inherited_from.Given as goal

abbrev pub invariant-loop-super_class : goal.invariant-loop-super_class
invariant-loop-super_class l =
    inherited_from l.sources.declared.heads.now (known_in l.known) l.class (drop l.super_class-index l.supers) l.gathered.found
    ≡ inherited_from l.sources.declared.heads.now (known_in l.known) l.class l.supers []
