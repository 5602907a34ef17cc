use Rattle.std.proofs.Common.{◌≡◌, drop}
use Rattle.jc_declares.specs.Looking.{in_classes}
use Rattle.jc_looking.specs.Members.{known_in}
use Rattle.jc_looking.specs.Sights.{seen}
use Rattle.jc_looking.proofs.bodies.in_classes.Given as goal

abbrev pub invariant-loop-class : goal.invariant-loop-class
invariant-loop-class l =
    seen (in_classes l.scene.declared.heads.now (known_in l.scene.known.now) l.name l.unit (drop l.class-index l.classes))
    ≡ seen (in_classes l.scene.declared.heads.now (known_in l.scene.known.now) l.name l.unit l.classes)
