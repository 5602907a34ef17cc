use Rattle.std.proofs.Common.{◌≡◌, ◌<◌, length}
use Rattle.jc_typed.specs.Parts.{Grows, operands_of}
use Rattle.jc_typed.specs.Trees.{NoOperands}
use Rattle.jc_stmts_spec.specs.Assembling.{operands_behind}
use Rattle.jc_stmts_answers.specs.Answers.{AnswersBelow, answers_of}
use Rattle.jc_stmts_assembling.proofs.taking.take_operands.Given as goal

abbrev pub invariant-loop-rest : goal.invariant-loop-rest
invariant-loop-rest l = record {
  it : (operands_behind (operands_of l.nodes l.list.at) l.rest (answers_of l.nodes l.list.left.now)).it ≡ (operands_behind NoOperands l.fn.exprs (answers_of l.fn.nodes l.fn.left)).it;
  left : (operands_behind (operands_of l.nodes l.list.at) l.rest (answers_of l.nodes l.list.left.now)).left ≡ (operands_behind NoOperands l.fn.exprs (answers_of l.fn.nodes l.fn.left)).left;
  within : l.list.at < length l.nodes;
  below : AnswersBelow (length l.nodes) l.list.left.now;
  grows : Grows l.fn.nodes l.nodes;
}

abbrev pub decreases-loop-rest : goal.decreases-loop-rest
decreases-loop-rest l = length l.rest
