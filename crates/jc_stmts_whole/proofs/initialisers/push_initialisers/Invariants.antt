use Rattle.std.proofs.Common.{◌≡◌, ◌<◌, length}
use Rattle.jc_typed.specs.Parts.{Grows}
use Rattle.jc_stmts_spec.specs.Typed.{Parts, initialised_all}
use Rattle.jc_stmts_course.specs.Nows.{IsCourse}
use Rattle.jc_stmts_whole.specs.Parts.{IsParts}
use Rattle.jc_stmts_whole.specs.Programs.{heads_in, knowledge_in}
use Rattle.jc_stmts_whole.proofs.Reaching.{Reached}
use Rattle.jc_stmts_whole.proofs.initialisers.push_initialisers.Given as goal

abbrev pub invariant-loop-rest : goal.invariant-loop-rest
invariant-loop-rest l = record {
  parts : (p : Parts) → IsParts p l.initial.course l.list → Reached (initialised_all l.side.program.table.now (heads_in l.side.program) (knowledge_in l.side.program) l.side.class l.side.is_static) p l.fn.initialisers l.rest l.course l.behind;
  within : l.behind < length l.course.walk.nodes;
  course : IsCourse l.course;
  grows : Grows l.initial.course.walk.nodes l.course.walk.nodes;
}

abbrev pub decreases-loop-rest : goal.decreases-loop-rest
decreases-loop-rest l = length l.rest
