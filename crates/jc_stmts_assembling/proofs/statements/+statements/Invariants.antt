use Rattle.std.proofs.Common.{◌≡◌, ◌<◌, drop, length}
use Rattle.jc_typed.specs.Parts.{Grows, arms_of, stmts_of}
use Rattle.jc_stmts_spec.specs.Assembling.{count_of}
use Rattle.jc_stmts_answers.specs.Answers.{AnswersBelow, answers_of}
use Rattle.jc_stmts_assembling.specs.Flat.{arms_made, clauses_made, groups_made, stmts_made}
use Rattle.jc_stmts_assembling.specs.Heads.{CasedBelow, ClausesBelow, cased_of, clauses_of}
use Rattle.jc_stmts_assembling.proofs.statements.+statements.Given as goal

abbrev pub invariant-push_sources-loop-source : goal.invariant-push_sources-loop-source
invariant-push_sources-loop-source l = record {
  it : (stmts_made l.scene.file (stmts_of l.nodes l.list.at) (drop l.source-index l.fn.sources) l.scene.jumps.now (answers_of l.nodes l.list.left.now)).it ≡ (stmts_made l.scene.file (stmts_of l.fn.nodes l.fn.before) l.fn.sources l.scene.jumps.now (answers_of l.fn.nodes l.fn.left)).it;
  left : (stmts_made l.scene.file (stmts_of l.nodes l.list.at) (drop l.source-index l.fn.sources) l.scene.jumps.now (answers_of l.nodes l.list.left.now)).left ≡ (stmts_made l.scene.file (stmts_of l.fn.nodes l.fn.before) l.fn.sources l.scene.jumps.now (answers_of l.fn.nodes l.fn.left)).left;
  within : l.list.at < length l.nodes;
  below : AnswersBelow (length l.nodes) l.list.left.now;
  grows : Grows l.fn.nodes l.nodes;
}

abbrev pub invariant-push_all_arms-loop-arm : goal.invariant-push_all_arms-loop-arm
invariant-push_all_arms-loop-arm l = record {
  it : (arms_made l.scene.file (arms_of l.nodes l.list.at) (drop l.arm-index l.fn.arms) l.scene.jumps.now (answers_of l.nodes l.list.left.now)).it ≡ (arms_made l.scene.file (arms_of l.fn.nodes l.fn.before) l.fn.arms l.scene.jumps.now (answers_of l.fn.nodes l.fn.left)).it;
  left : (arms_made l.scene.file (arms_of l.nodes l.list.at) (drop l.arm-index l.fn.arms) l.scene.jumps.now (answers_of l.nodes l.list.left.now)).left ≡ (arms_made l.scene.file (arms_of l.fn.nodes l.fn.before) l.fn.arms l.scene.jumps.now (answers_of l.fn.nodes l.fn.left)).left;
  within : l.list.at < length l.nodes;
  below : AnswersBelow (length l.nodes) l.list.left.now;
  grows : Grows l.fn.nodes l.nodes;
}

abbrev pub invariant-push_groups-loop-group : goal.invariant-push_groups-loop-group
invariant-push_groups-loop-group l = record {
  it : (groups_made l.scene.file (cased_of l.nodes l.made.it) (drop l.group-index l.fn.groups) l.scene.jumps.now (answers_of l.nodes l.made.left.now)).it ≡ (groups_made l.scene.file (cased_of l.fn.nodes l.fn.before) l.fn.groups l.scene.jumps.now (answers_of l.fn.nodes l.fn.left)).it;
  left : (groups_made l.scene.file (cased_of l.nodes l.made.it) (drop l.group-index l.fn.groups) l.scene.jumps.now (answers_of l.nodes l.made.left.now)).left ≡ (groups_made l.scene.file (cased_of l.fn.nodes l.fn.before) l.fn.groups l.scene.jumps.now (answers_of l.fn.nodes l.fn.left)).left;
  count : l.made.it.count ≡ count_of (stmts_of l.nodes l.made.it.stmts);
  within : CasedBelow (length l.nodes) l.made.it;
  below : AnswersBelow (length l.nodes) l.made.left.now;
  grows : Grows l.fn.nodes l.nodes;
}

abbrev pub invariant-push_clauses-loop-clause : goal.invariant-push_clauses-loop-clause
invariant-push_clauses-loop-clause l = record {
  it : (clauses_made l.scene.file (clauses_of l.nodes l.made.it) (drop l.clause-index l.fn.clauses) l.scene.jumps.now (answers_of l.nodes l.made.left.now)).it ≡ (clauses_made l.scene.file (clauses_of l.fn.nodes l.fn.before) l.fn.clauses l.scene.jumps.now (answers_of l.fn.nodes l.fn.left)).it;
  left : (clauses_made l.scene.file (clauses_of l.nodes l.made.it) (drop l.clause-index l.fn.clauses) l.scene.jumps.now (answers_of l.nodes l.made.left.now)).left ≡ (clauses_made l.scene.file (clauses_of l.fn.nodes l.fn.before) l.fn.clauses l.scene.jumps.now (answers_of l.fn.nodes l.fn.left)).left;
  within : ClausesBelow (length l.nodes) l.made.it;
  below : AnswersBelow (length l.nodes) l.made.left.now;
  grows : Grows l.fn.nodes l.nodes;
}
