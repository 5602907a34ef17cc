use Rattle.std.proofs.Common.{List, [], ap, ◌∙◌}
use Rattle.jc_tree.specs.declared.types.ClassTree.{ClassTree}
use Rattle.jc_types.specs.Breaks.{least}
use Rattle.jc_declares.specs.Breaks.{repeated_breaks}
use Rattle.jc_declares.specs.Readings.{head_reading}
use Rattle.jc_declares.specs.Writing.{Reading}
use Rattle.jc_looking.specs.Members.{known_in}
use Rattle.jc_name_rules.proofs.repeated.class_repeated.Goals as goal

pub returns : goal.returns
returns c =
    let H = c.args.scene.now.declared.heads.now in let K = known_in c.args.scene.now.known.now in
    c.in_ok-found.ensures
    ∙ ap (λ (r : Reading). least c.args.found (repeated_breaks H K r c.args.file [] c.interface_trees-trees.result.now)) (c.head_reading-reading.ensures H K)
    ∙ ap (λ (ts : List ClassTree). least c.args.found (repeated_breaks H K (head_reading H K c.args.number) c.args.file [] ts)) c.interface_trees-trees.ensures
