use Rattle.std.proofs.Common.{List, ap, ◌∙◌}
use Rattle.jc_tree.specs.declared.statement.TypeParam.{TypeParam}
use Rattle.jc_tree.specs.declared.types.ClassTree.{ClassTree}
use Rattle.jc_types.specs.Breaks.{least}
use Rattle.jc_declares.specs.Breaks.{in_file, bounds_broken, class_trees_broken}
use Rattle.jc_declares.specs.Writing.{Reading}
use Rattle.jc_looking.specs.Members.{known_in}
use Rattle.jc_written.specs.At.{reading_at}
use Rattle.jc_written.proofs.Counting.{turn, in_file-append}
use Rattle.jc_name_rules.proofs.sites.bounds_broken.Goals as goal

pub loop-param-preserved : goal.loop-param-preserved
loop-param-preserved c =
    let H = c.args.scene.now.declared.heads.now in let K = known_in c.args.scene.now.known.now in let r : Reading = reading_at H K c.args.reading in
    turn (λ (l : List TypeParam). in_file c.args.file (bounds_broken H K r l)) (λ (x : TypeParam). in_file c.args.file (class_trees_broken H K r x.bounds))
    (λ x l. in_file-append c.args.file (class_trees_broken H K r x.bounds) (bounds_broken H K r l))
    c.loop-param.found c.in_ok-found.found c.args.params.now c.loop-param.param-index c.param-item.result c.loop-param-test.true c.param-item.is (c.in_ok-found.ensures ∙ ap (λ (l : List ClassTree). least c.loop-param.found (in_file c.args.file (class_trees_broken H K r l))) c.slice.ensures)
    ∙ c.loop-param.invariant
