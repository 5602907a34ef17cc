-- What each point stands for that has to do with statements (JLS 14).
use Rattle.std.specs.Prelude.{ℕ, List}
use Rattle.jc_running.specs.declared.value.Value.{Value}
use Rattle.jc_running.specs.declared.value.Completion.{Completion}
use Rattle.jc_running.specs.declared.value.Completion.TheVariants.{Normal, Returned}
use Rattle.jc_running.specs.Outcomes.{give, throw, bind, behind, next, instead, broken, turns}
use Rattle.jc_heaps.specs.States.{some_or_wrong, local}
use Rattle.jc_heaps.specs.Numbers.{whole_of}
use Rattle.jc_heaps.specs.Making.{address_of}
use Rattle.jc_typed.specs.declared.nodes.Node.{Node}
use Rattle.jc_typed.specs.declared.program.TypedProgram.{TypedProgram}
use Rattle.jc_typed.specs.Parts.{cases_of, catches_of, operands_of, stmt_of, stmts_of}
use Rattle.jc_meaning.specs.Kept.{TypedRun, typed_keeping}
use Rattle.jc_meaning.specs.Programs.{stmt_list}
use Rattle.jc_meaning.specs.Expressions as e
use Rattle.jc_meaning.specs.Statements as s
use Rattle.jc_meaning.specs.Meaning.{meaning, body_act}
use Rattle.jc_pending.specs.Level as l
use Rattle.jc_pending.specs.Loops as o
use Rattle.jc_pending.specs.declared.statements.CompletionTask.{CompletionTask}
use Rattle.jc_pending.specs.declared.statements.CompletionTask.TheVariants as t
use Rattle.jc_pending.specs.declared.statements.ValueToCompletion.{ValueToCompletion}
use Rattle.jc_pending.specs.declared.statements.ValueToCompletion.TheVariants as vc
use Rattle.jc_pending.specs.declared.statements.ValuesToCompletion.{ValuesToCompletion}
use Rattle.jc_pending.specs.declared.statements.ValuesToCompletion.TheVariants as lc
use Rattle.jc_pending.specs.declared.statements.NothingToCompletion.{NothingToCompletion}
use Rattle.jc_pending.specs.declared.statements.NothingToCompletion.TheVariants as nc
use Rattle.jc_pending.specs.declared.statements.CompletionToCompletion.{CompletionToCompletion}
use Rattle.jc_pending.specs.declared.statements.CompletionToCompletion.TheVariants as cc

module _ (P : TypedProgram) (ns : List Node) (d : ℕ) where
  -- a task that gives a completion: a statement or a body as a node or inside of it, a list in reverse order, or turns
  abbrev pub completion_task : CompletionTask → TypedRun Completion
  completion_task (t.Stmt at) = l.run P d (stmt_of ns at)
  completion_task (t.Act at) = s.stmt_act P (l.inner P d) (l.run P d) d (stmt_of ns at)
  completion_task (t.Body m) = l.body P d m
  completion_task (t.BodyAct m) = body_act P (meaning P d) d m
  completion_task (t.Stmts back) = l.run_all P d (l.stmts_back ns back)
  completion_task (t.Arms back other) = l.if_on P d (l.arms_back ns back) (l.run_all P d (stmt_list (stmts_of ns other)))
  completion_task (t.Try body catches) = s.try P (l.inner P d) (l.run P d) d (stmt_of ns body) (catches_of ns catches)
  completion_task (t.Turns turn left) = turns left (o.turn P ns d turn) tt
  completion_task (t.ArrayTurns each array at left) = turns left (o.array_turn P ns d each array) at

  -- what follows the value of a statement's expression, or the iterator of an enhanced `for`
  abbrev pub value_to_completion : ValueToCompletion → Value → TypedRun Completion
  value_to_completion vc.Normally v = give Normal
  value_to_completion (vc.Arm first back other) v =
      e.if_true P (l.inner P d) v (l.run P d (stmt_of ns first))
      (l.if_on P d (l.arms_back ns back) (l.run_all P d (stmt_list (stmts_of ns other))))
  value_to_completion vc.Throw v = bind (address_of (typed_keeping P.table) P.table P.known v) throw
  value_to_completion (vc.Switch own cases ss) v =
      bind (some_or_wrong (whole_of v)) (λ n.
      bind (s.switched P (l.inner P d) (l.run P d) d (cases_of ns cases) (stmt_list (stmts_of ns ss)) n) (λ c. give (broken own c)))
  value_to_completion (vc.Initialise f) v =
      s.normally P (l.inner P d) (l.run P d) d (s.initialise P (l.inner P d) (l.run P d) d f v)
  value_to_completion (vc.EachOf each) v = turns d (o.array_turn P ns d each v) 0
  value_to_completion (vc.IteratorOf each) v =
      bind (l.call_virtual P d P.known.iterating.iterator v) (λ iterator. turns d (o.iterator_turn P ns d each iterator) tt)
  value_to_completion (vc.Iterate each) v = turns d (o.iterator_turn P ns d each v) tt

  -- what follows the values of operands: the turns of a `for`, a `return`, or the call of a constructor
  abbrev pub values_to_completion : ValuesToCompletion → List Value → TypedRun Completion
  values_to_completion (lc.For own test update body) vs = turns d (o.for_turn P ns d own test update body) tt
  values_to_completion lc.Return vs = give (Returned (s.value_or_null P (l.inner P d) (l.run P d) d vs))
  values_to_completion (lc.Construct m) vs =
      bind (local 0) (λ o. s.normally P (l.inner P d) (l.run P d) d (l.call_direct P d m o vs))

  -- what follows declarations and initialisations
  abbrev pub nothing_to_completion : NothingToCompletion → TypedRun Completion
  nothing_to_completion nc.Normally = give Normal
  nothing_to_completion (nc.For own before test update body) =
      behind (e.values P (l.inner P d) (operands_of ns before)) (turns d (o.for_turn P ns d own test update body) tt)

  -- what follows a statement: the end of a labelled one, what a finally block comes in place of, or the next ones
  abbrev pub completion_to_completion : CompletionToCompletion → Completion → TypedRun Completion
  completion_to_completion (cc.Broken own) c = give (broken own c)
  completion_to_completion (cc.Instead before) c = instead c (give before)
  completion_to_completion (cc.InsteadThrown address) c = instead c (throw address)
  completion_to_completion (cc.Next back) c = next c (l.run_all P d (l.stmts_back ns back))
