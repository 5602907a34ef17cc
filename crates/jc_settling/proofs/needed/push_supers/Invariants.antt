use Rattle.std.proofs.Common.{◌≡◌, drop}
use Rattle.jc_declares.specs.Knowing.{written_supers}
use Rattle.jc_looking.specs.Members.{known_in}
use Rattle.jc_settling.specs.Supers.{before}
use Rattle.jc_settling.proofs.needed.push_supers.Given as goal

abbrev pub invariant-loop-name : goal.invariant-loop-name
invariant-loop-name l =
    before l.supers (written_supers l.scene.declared.heads.now (known_in l.scene.known.now) l.class (drop l.name-index l.names))
    ≡ before l.initial.supers (written_supers l.scene.declared.heads.now (known_in l.scene.known.now) l.class l.names)
