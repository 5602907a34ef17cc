use Rattle.std.proofs.Common.{[], ◌∷◌}
use Rattle.jc_typed.proofs.Growing.{grows_none}
use Rattle.jc_stmts_course.proofs.Ending.{noted}
use Rattle.jc_stmts_course.proofs.scoping.note_in.Goals as goal

pub returns-clause-stage : goal.returns-clause-stage
returns-clause-stage c =
    let d = c.args.course.now in
    let w = c.note.new.walk in
    noted d w c.requires (rw c.note.ensures.nodes (grows_none d.walk.nodes)) (c.args.break_of ∷ []) c.note.ensures.state
