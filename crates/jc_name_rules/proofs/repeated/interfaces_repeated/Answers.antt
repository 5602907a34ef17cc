use Rattle.std.proofs.Common.{not, ap, ◌∙◌}
use Rattle.jc_types.specs.Breaks.{least}
use Rattle.jc_types.specs.declared.form.Ty.{Ty}
use Rattle.jc_declares.specs.Breaks.{is_repeated}
use Rattle.jc_declares.specs.Writing.{Reading}
use Rattle.jc_declares.specs.HeadBreaks.{broken_at, unless}
use Rattle.jc_looking.specs.Members.{known_in}
use Rattle.jc_written.specs.At.{reading_at}
use Rattle.jc_name_rules.proofs.Twice.{repeated_turn}
use Rattle.jc_name_rules.proofs.repeated.interfaces_repeated.Goals as goal

pub loop-tree-preserved : goal.loop-tree-preserved
loop-tree-preserved c =
    let H = c.args.scene.now.declared.heads.now in let K = known_in c.args.scene.now.known.now in let r : Reading = reading_at H K c.args.reading in
    repeated_turn H K r c.args.file c.loop-tree.found c.if_repeated-found.result c.loop-tree.before c.push_some.new.before c.args.trees.now c.loop-tree.tree-index c.tree-item.result
    c.in_ok-ty.ty c.is_repeated-repeated.result c.loop-tree-test.true c.tree-item.is c.in_ok-ty.ensures
    (c.is_repeated-repeated.ensures ∙ ap (is_repeated c.in_ok-ty.ty) c.slice.ensures)
    (c.if_repeated-found.ensures ∙ ap (λ a. least c.loop-tree.found (unless (not c.is_repeated-repeated.result) (broken_at 305 c.args.file a))) c.first_offset_of_class.ensures)
    c.in_ok-push_some.ensures
    ∙ c.loop-tree.invariant
