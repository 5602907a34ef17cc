use Rattle.std.proofs.Common.{List, ap, ◌∙◌}
use Rattle.jc_tree.specs.declared.statement.Formal.{Formal}
use Rattle.jc_tree.specs.declared.types.ClassTree.{ClassTree}
use Rattle.jc_declares.specs.Sites.{listed_params}
use Rattle.jc_declares.specs.Breaks.{in_file, bounds_broken, class_trees_broken, result_broken, formals_broken}
use Rattle.jc_types.specs.Breaks.{least}
use Rattle.jc_declares.specs.Writing.{Reading}
use Rattle.jc_looking.specs.Members.{known_in}
use Rattle.jc_written.specs.At.{reading_at}
use Rattle.jc_name_rules.proofs.Counting.{four_in}
use Rattle.jc_name_rules.proofs.sites.head_types_broken.Goals as goal

pub returns : goal.returns
returns c =
    let H = c.args.scene.now.declared.heads.now in let K = known_in c.args.scene.now.known.now in let r : Reading = reading_at H K c.args.reading in
    four_in c.args.file (bounds_broken H K r (listed_params c.args.head.now.params)) (result_broken H K r c.args.head.now.result) (formals_broken H K r c.args.head.now.formals) (class_trees_broken H K r c.args.head.now.throws)
    c.args.found c.in_ok-found.found c.in_ok-found-2.found c.in_ok-found-3.found c.in_ok-found-4.found
    c.in_ok-found.ensures
    c.in_ok-found-2.ensures
    (c.in_ok-found-3.ensures ∙ ap (λ (l : List Formal). least c.in_ok-found-2.found (in_file c.args.file (formals_broken H K r l))) c.slice.ensures)
    (c.in_ok-found-4.ensures ∙ ap (λ (l : List ClassTree). least c.in_ok-found-3.found (in_file c.args.file (class_trees_broken H K r l))) c.slice-2.ensures)
