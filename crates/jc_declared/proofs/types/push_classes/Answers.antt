use Rattle.std.proofs.Common.{arith, ◌∙◌}
use Rattle.jc_tree.specs.declared.types.ClassTree.{ClassTree}
use Rattle.jc_declares.specs.Making.{written_class, written_classes}
use Rattle.jc_looking.specs.Members.{known_in}
use Rattle.jc_written.specs.At.{reading_at}
use Rattle.jc_declared.specs.Types.{with_types}
use Rattle.jc_declared.proofs.Behind.{with_types-turn, with_types-end}
use Rattle.jc_declared.proofs.types.push_classes.Goals as goal

pub loop-tree-preserved : goal.loop-tree-preserved
loop-tree-preserved c =
    let H = c.args.scene.now.declared.heads.now in let K = known_in c.args.scene.now.known.now in
    with_types-turn (λ (t : ClassTree). written_class H K c.args.file (reading_at H K c.args.reading) t) c.loop-tree.list c.push_written.new.list c.in_ok-written_class.field-0 c.args.trees.now c.loop-tree.tree-index c.tree-item.result
    c.loop-tree-test.true c.tree-item.is c.in_ok-written_class.ensures c.in_ok-push_written.ensures
    ∙ c.loop-tree.invariant

pub returns : goal.returns
returns c =
    let H = c.args.scene.now.declared.heads.now in let K = known_in c.args.scene.now.known.now in
    with_types-end (λ (t : ClassTree). written_class H K c.args.file (reading_at H K c.args.reading) t) c.loop-tree.list
    (with_types c.args.list.now (written_classes H K c.args.file (reading_at H K c.args.reading) c.args.trees.now)) c.args.trees.now c.loop-tree.tree-index (omega arith) c.loop-tree.invariant
