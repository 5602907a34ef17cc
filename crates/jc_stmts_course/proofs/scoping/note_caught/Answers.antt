use Rattle.std.proofs.Common.{ap, sym}
use Rattle.jc_typed.proofs.Growing.{grows_none}
use Rattle.jc_exprs_nodes_spec.specs.Told.{standing}
use Rattle.jc_stmts_spec.specs.Courses.{caught_breaks}
use Rattle.jc_stmts_course.proofs.Ending.{noted}
use Rattle.jc_stmts_course.proofs.scoping.note_caught.Goals as goal

pub returns-clause-stage : goal.returns-clause-stage
returns-clause-stage c =
    let d = c.args.course.now in
    noted d (record d.walk { found = c.in_ok-found.found }) c.requires (grows_none d.walk.nodes) (caught_breaks c.args.table.now c.args.place c.args.types.now)
    (ap (λ f. standing d.walk.env.bounds f) (sym c.in_ok-found.ensures))
