use Rattle.std.proofs.Common.{◌≡◌, drop}
use Rattle.jc_types.specs.Breaks.{least}
use Rattle.jc_declares.specs.HeadBreaks.{of_each, class_breaks}
use Rattle.jc_looking.specs.Members.{known_in}
use Rattle.jc_name_rules.proofs.least.classes_broken.Given as goal

abbrev pub invariant-loop-number : goal.invariant-loop-number
invariant-loop-number l =
    let H = l.scene.declared.heads.now in let K = known_in l.scene.known.now in
    least l.found (of_each (class_breaks H K) l.number (drop l.number l.classes)) ≡ least l.initial.found (of_each (class_breaks H K) 0 l.classes)
