use Rattle.std.proofs.Common.{List, ◌∙◌}
use Rattle.jc_tree.specs.declared.types.ClassTree.{ClassTree}
use Rattle.jc_declares.specs.Breaks.{in_file, class_trees_broken}
use Rattle.jc_declares.specs.Writing.{Reading, wrote_class}
use Rattle.jc_looking.specs.Members.{known_in}
use Rattle.jc_written.specs.At.{reading_at}
use Rattle.jc_written.proofs.Counting.{turn, in_file-append}
use Rattle.jc_name_rules.proofs.sites.trees_broken.Goals as goal

pub loop-tree-preserved : goal.loop-tree-preserved
loop-tree-preserved c =
    let H = c.args.scene.now.declared.heads.now in let K = known_in c.args.scene.now.known.now in let r : Reading = reading_at H K c.args.reading in
    turn (λ (l : List ClassTree). in_file c.args.file (class_trees_broken H K r l)) (λ (x : ClassTree). in_file c.args.file ((wrote_class H K r x).broken))
    (λ x l. in_file-append c.args.file ((wrote_class H K r x).broken) (class_trees_broken H K r l))
    c.loop-tree.found c.in_ok-found.found c.args.trees.now c.loop-tree.tree-index c.tree-item.result c.loop-tree-test.true c.tree-item.is c.in_ok-found.ensures
    ∙ c.loop-tree.invariant
