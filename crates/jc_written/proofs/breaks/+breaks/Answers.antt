use Rattle.std.proofs.Common.{List, refl, ap, ◌∙◌}
use Rattle.jc_tree.specs.declared.types.TypeArg.{TypeArg}
use Rattle.jc_types.specs.Breaks.{least}
use Rattle.jc_declares.specs.Breaks.{in_file}
use Rattle.jc_written.specs.Trees.{args_rules}
use Rattle.jc_looking.specs.Members.{known_in}
use Rattle.jc_written.specs.At.{reading_at}
use Rattle.jc_written.proofs.Turns.{args_turn, parts_turn, class_whole}
use Rattle.jc_written.proofs.breaks.+breaks.Goals as goal

pub args_broken-loop-arg-preserved : goal.args_broken-loop-arg-preserved
args_broken-loop-arg-preserved t c =
    let H = c.args.scene.now.declared.heads.now in let K = known_in c.args.scene.now.known.now in
    args_turn H K (reading_at H K c.args.reading) c.args.file c.loop-arg.found c.in_ok-found.found c.args.args.now c.loop-arg.arg-index c.arg-item.result c.loop-arg-test.true c.arg-item.is c.in_ok-found.ensures
    ∙ c.loop-arg.invariant

pub parts_broken-loop-part-preserved : goal.parts_broken-loop-part-preserved
parts_broken-loop-part-preserved t c =
    let H = c.args.scene.now.declared.heads.now in let K = known_in c.args.scene.now.known.now in
    parts_turn H K (reading_at H K c.args.reading) c.args.file c.loop-part.found c.in_ok-found.found c.args.parts.now c.loop-part.part-index c.part-item.result c.loop-part-test.true c.part-item.is
    (c.in_ok-found.ensures ∙ ap (λ (l : List TypeArg). least c.loop-part.found (in_file c.args.file (args_rules H K (reading_at H K c.args.reading) l))) c.slice.ensures)
    ∙ c.loop-part.invariant

pub class_broken-returns : goal.class_broken-returns
class_broken-returns t c =
    let H = c.args.scene.now.declared.heads.now in let K = known_in c.args.scene.now.known.now in
    class_whole H K (reading_at H K c.args.reading) c.args.file c.args.tree.now c.in_ok-path.path _ c.is_without_args-without_args.result c.slice.result.now c.slice-2.result.now
    c.args.found c.in_ok-found.found c.early_broken-found.result c.in_ok-found-2.found c.in_ok-found-3.found
    c.in_ok-path.ensures
    refl
    c.is_without_args-without_args.ensures
    c.slice.ensures
    c.slice-2.ensures
    c.in_ok-found.ensures
    c.early_broken-found.ensures
    c.in_ok-found-2.ensures
    c.in_ok-found-3.ensures
