use Rattle.std.proofs.Common.{◌≡◌, drop}
use Rattle.jc_declares.specs.Making.{written_classes}
use Rattle.jc_looking.specs.Members.{known_in}
use Rattle.jc_written.specs.At.{reading_at}
use Rattle.jc_declared.specs.Types.{with_types}
use Rattle.jc_declared.proofs.types.push_classes.Given as goal

abbrev pub invariant-loop-tree : goal.invariant-loop-tree
invariant-loop-tree l =
    let H = l.scene.declared.heads.now in let K = known_in l.scene.known.now in
    with_types l.list (written_classes H K l.file (reading_at H K l.reading) (drop l.tree-index l.trees)) ≡ with_types l.initial.list (written_classes H K l.file (reading_at H K l.reading) l.trees)
