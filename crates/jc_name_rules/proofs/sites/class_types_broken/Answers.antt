use Rattle.std.proofs.Common.{List, ap, ◌∙◌}
use Rattle.jc_tree.specs.declared.statement.TypeParam.{TypeParam}
use Rattle.jc_tree.specs.declared.types.ClassTree.{ClassTree}
use Rattle.jc_declares.specs.Heads.{superclass_trees, interface_trees}
use Rattle.jc_declares.specs.Sites.{params_of_head}
use Rattle.jc_declares.specs.Breaks.{in_file, bounds_broken, class_trees_broken}
use Rattle.jc_types.specs.Breaks.{least}
use Rattle.jc_declares.specs.Writing.{Reading}
use Rattle.jc_looking.specs.Members.{known_in}
use Rattle.jc_written.specs.At.{reading_at}
use Rattle.jc_name_rules.proofs.Counting.{three_in}
use Rattle.jc_name_rules.proofs.sites.class_types_broken.Goals as goal

pub returns : goal.returns
returns c =
    let H = c.args.scene.now.declared.heads.now in let K = known_in c.args.scene.now.known.now in let r : Reading = reading_at H K c.args.reading in
    three_in c.args.file (bounds_broken H K r (params_of_head c.args.head.now)) (class_trees_broken H K r (superclass_trees c.args.head.now)) (class_trees_broken H K r (interface_trees c.args.head.now))
    c.args.found c.in_ok-found.found c.in_ok-found-2.found c.in_ok-found-3.found
    (c.in_ok-found.ensures ∙ ap (λ (l : List TypeParam). least c.args.found (in_file c.args.file (bounds_broken H K r l))) c.params_of_head.ensures)
    c.in_ok-found-2.ensures
    (c.in_ok-found-3.ensures ∙ ap (λ (l : List ClassTree). least c.in_ok-found-2.found (in_file c.args.file (class_trees_broken H K r l))) c.interface_trees.ensures)
