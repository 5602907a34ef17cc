use Rattle.std.proofs.Common.{[], map, arith, ap, ◌∙◌}
use Rattle.jc_tree.specs.Offsets.{first_offset_of_type}
use Rattle.jc_declares.specs.Making.{types, written_at, written_formal}
use Rattle.jc_declares.specs.Writing.{wrote_type}
use Rattle.jc_looking.specs.Members.{known_in}
use Rattle.jc_written.specs.At.{reading_at}
use Rattle.jc_declared.specs.Types.{with_types}
use Rattle.jc_declared.proofs.Behind.{with_types-first, with_types-turn, with_types-end}
use Rattle.jc_declared.proofs.methods.formal_types.Goals as goal

pub loop-formal-preserved : goal.loop-formal-preserved
loop-formal-preserved c =
    let H = c.args.scene.now.declared.heads.now in let K = known_in c.args.scene.now.known.now in
    with_types-turn (written_formal H K c.args.file (reading_at H K c.args.reading)) c.loop-formal.list c.push_written.new.list c.in_ok-written.written c.args.formals.now c.loop-formal.formal-index c.formal-item.result
    c.loop-formal-test.true c.formal-item.is
    (c.in_ok-written.ensures
    ∙ ap (λ d. written_at c.args.file (first_offset_of_type c.formal-item.result.ty) d (wrote_type H K (reading_at H K c.args.reading) c.formal-item.result.ty)) c.formal_dims-dims.ensures)
    c.in_ok-push_written.ensures
    ∙ c.loop-formal.invariant

pub returns : goal.returns
returns c =
    let H = c.args.scene.now.declared.heads.now in let K = known_in c.args.scene.now.known.now in
    let F = written_formal H K c.args.file (reading_at H K c.args.reading) in
    with_types-end F c.loop-formal.list (with_types (types []) (map F c.args.formals.now)) c.args.formals.now c.loop-formal.formal-index (omega arith) c.loop-formal.invariant
    ∙ with_types-first (map F c.args.formals.now)
