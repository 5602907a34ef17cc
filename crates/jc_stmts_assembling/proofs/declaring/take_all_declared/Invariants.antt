use Rattle.std.proofs.Common.{◌≡◌, ◌<◌, length}
use Rattle.jc_typed.specs.Parts.{Grows, declared_of}
use Rattle.jc_stmts_spec.specs.Assembling.{declared_all}
use Rattle.jc_stmts_answers.specs.Answers.{AnswersBelow, answers_of}
use Rattle.jc_stmts_assembling.proofs.declaring.take_all_declared.Given as goal

abbrev pub invariant-loop-rest : goal.invariant-loop-rest
invariant-loop-rest l = record {
  it : (declared_all (declared_of l.nodes l.list.at) l.rest (answers_of l.nodes l.list.left.now)).it ≡ (declared_all (declared_of l.fn.nodes l.fn.before) l.fn.vars (answers_of l.fn.nodes l.fn.left)).it;
  left : (declared_all (declared_of l.nodes l.list.at) l.rest (answers_of l.nodes l.list.left.now)).left ≡ (declared_all (declared_of l.fn.nodes l.fn.before) l.fn.vars (answers_of l.fn.nodes l.fn.left)).left;
  within : l.list.at < length l.nodes;
  below : AnswersBelow (length l.nodes) l.list.left.now;
  grows : Grows l.fn.nodes l.nodes;
}

abbrev pub decreases-loop-rest : goal.decreases-loop-rest
decreases-loop-rest l = length l.rest
