use Rattle.std.proofs.Common.{◌≡◌, drop}
use Rattle.jc_types.specs.Breaks.{least}
use Rattle.jc_declares.specs.HeadBreaks.{interface_breaks}
use Rattle.jc_looking.specs.Members.{known_in}
use Rattle.jc_name_rules.proofs.supers.interface_broken.Given as goal

abbrev pub invariant-loop-path : goal.invariant-loop-path
invariant-loop-path l = least l.found (interface_breaks l.scene.declared.heads.now (known_in l.scene.known.now) l.number l.class (drop l.path-index l.path-items)) ≡ least l.initial.found (interface_breaks l.scene.declared.heads.now (known_in l.scene.known.now) l.number l.class l.path-items)
