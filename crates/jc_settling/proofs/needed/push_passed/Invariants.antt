use Rattle.std.proofs.Common.{◌≡◌, ◌++◌, drop}
use Rattle.jc_declares.specs.Knowing.{passed_by_all}
use Rattle.jc_looking.specs.Members.{known_in}
use Rattle.jc_settling.proofs.needed.push_passed.Given as goal

abbrev pub invariant-loop-name : goal.invariant-loop-name
invariant-loop-name l =
    l.passed ++ passed_by_all l.scene.declared.heads.now (known_in l.scene.known.now) l.class (drop l.name-index l.names)
    ≡ l.initial.passed ++ passed_by_all l.scene.declared.heads.now (known_in l.scene.known.now) l.class l.names
