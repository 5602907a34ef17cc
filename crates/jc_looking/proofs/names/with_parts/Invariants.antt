use Rattle.std.proofs.Common.{◌≡◌, drop}
use Rattle.jc_looking.specs.Members.{known_in}
use Rattle.jc_looking.specs.Sights.{parts_seen}
use Rattle.jc_looking.proofs.names.with_parts.Given as goal

abbrev pub invariant-loop-at : goal.invariant-loop-at
invariant-loop-at l =
    parts_seen l.scene.declared.heads.now (known_in l.scene.known.now) (drop l.at l.parts) l.found
    ≡ parts_seen l.scene.declared.heads.now (known_in l.scene.known.now) (drop l.from l.parts) l.fn.first
