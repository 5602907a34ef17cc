use Rattle.std.proofs.Common.{◌≡◌, length}
use Rattle.std.specs.Option.{option_copied}
use Rattle.jc_typed.specs.Parts.{Grows}
use Rattle.jc_stmts_course.specs.Nows.{IsCourse, stage}
use Rattle.jc_stmts_course.specs.Steps.{steps_on}
use Rattle.jc_stmts_items.specs.Settings.{world_within}
use Rattle.jc_stmts_items.proofs.steps.go_on_through.Given as goal

abbrev pub invariant-loop-rest : goal.invariant-loop-rest
invariant-loop-rest l = record {
  steps : steps_on (world_within l.setting) (option_copied l.setting.of_result) (stage l.course) l.rest ≡ steps_on (world_within l.setting) (option_copied l.setting.of_result) (stage l.initial.course) l.fn.items;
  course : IsCourse l.course;
  grows : Grows l.initial.course.walk.nodes l.course.walk.nodes;
}

abbrev pub decreases-loop-rest : goal.decreases-loop-rest
decreases-loop-rest l = length l.rest
