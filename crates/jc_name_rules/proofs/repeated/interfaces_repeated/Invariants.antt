use Rattle.std.proofs.Common.{◌≡◌, [], drop}
use Rattle.jc_types.specs.Breaks.{least}
use Rattle.jc_declares.specs.Breaks.{repeated_breaks}
use Rattle.jc_looking.specs.Members.{known_in}
use Rattle.jc_written.specs.At.{reading_at}
use Rattle.jc_name_rules.proofs.repeated.interfaces_repeated.Given as goal

abbrev pub invariant-loop-tree : goal.invariant-loop-tree
invariant-loop-tree l =
    let H = l.scene.declared.heads.now in let K = known_in l.scene.known.now in
    least l.found (repeated_breaks H K (reading_at H K l.reading) l.file l.before (drop l.tree-index l.trees)) ≡ least l.initial.found (repeated_breaks H K (reading_at H K l.reading) l.file [] l.trees)
