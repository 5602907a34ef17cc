-- What each point of a turn stands for (JLS 14.12 to 14.14).
use Rattle.std.specs.Prelude.{ℕ, List}
use Rattle.jc_running.specs.declared.value.Value.{Value}
use Rattle.jc_running.specs.declared.value.Completion.{Completion}
use Rattle.jc_running.specs.declared.value.Turn.{Turn}
use Rattle.jc_running.specs.declared.value.Turn.TheVariants.{Again}
use Rattle.jc_running.specs.Outcomes.{give, bind, behind, on_turn, turns}
use Rattle.jc_typed.specs.declared.nodes.Node.{Node}
use Rattle.jc_typed.specs.declared.program.TypedProgram.{TypedProgram}
use Rattle.jc_typed.specs.Parts.{operands_of, operand_of, stmt_of, type_of, captures_of, steps_of}
use Rattle.jc_meaning.specs.Kept.{TypedRun}
use Rattle.jc_meaning.specs.Expressions as e
use Rattle.jc_meaning.specs.Statements as s
use Rattle.jc_pending.specs.Level as l
use Rattle.jc_pending.specs.Values.{test_of}
use Rattle.jc_pending.specs.declared.loops.Each.{Each}
use Rattle.jc_pending.specs.declared.loops.TurnTask.{TurnTask}
use Rattle.jc_pending.specs.declared.loops.TurnTask.TheVariants as t
use Rattle.jc_pending.specs.declared.loops.ValueToTurn.{ValueToTurn}
use Rattle.jc_pending.specs.declared.loops.ValueToTurn.TheVariants as vr
use Rattle.jc_pending.specs.declared.loops.CompletionToTurn.{CompletionToTurn}
use Rattle.jc_pending.specs.declared.loops.CompletionToTurn.TheVariants as cr
use Rattle.jc_pending.specs.declared.loops.NothingToTurn.{NothingToTurn}
use Rattle.jc_pending.specs.declared.loops.NothingToTurn.TheVariants as nr
use Rattle.jc_pending.specs.declared.loops.TurnToCompletion.{TurnToCompletion}
use Rattle.jc_pending.specs.declared.loops.TurnToCompletion.TheVariants as rc
use Rattle.jc_pending.specs.declared.loops.NumberedTask.{NumberedTask}
use Rattle.jc_pending.specs.declared.loops.NumberedTask.TheVariants as m
use Rattle.jc_pending.specs.declared.loops.NothingToNumbered.{NothingToNumbered}
use Rattle.jc_pending.specs.declared.loops.NothingToNumbered.TheVariants as nm
use Rattle.jc_pending.specs.declared.loops.CompletionToNumbered.{CompletionToNumbered}
use Rattle.jc_pending.specs.declared.loops.CompletionToNumbered.TheVariants as cm
use Rattle.jc_pending.specs.declared.loops.NumberedToCompletion.{NumberedToCompletion}
use Rattle.jc_pending.specs.declared.loops.NumberedToCompletion.TheVariants as mc

module _ (P : TypedProgram) (ns : List Node) (d : ℕ) where
  -- operands and statements by their places, and the ends of a turn
  abbrev value_of : ℕ → TypedRun Value
  value_of at = e.value_of P (l.inner P d) (operand_of ns at)

  abbrev run : ℕ → TypedRun Completion
  run at = l.run P d (stmt_of ns at)

  abbrev again : TypedRun (Turn (Unit {0}))
  again = s.again P (l.inner P d) (l.run P d) d

  abbrev ended : TypedRun (Turn (Unit {0}))
  ended = s.ended P (l.inner P d) (l.run P d) d

  abbrev if_true : Value → TypedRun (Turn (Unit {0})) → TypedRun (Turn (Unit {0})) → TypedRun (Turn (Unit {0}))
  if_true = e.if_true P (l.inner P d)

  abbrev after_body : {I : Type 0} → ℕ → Completion → TypedRun (Turn I) → TypedRun (Turn I)
  after_body = s.after_body P (l.inner P d) (l.run P d) d

  -- the update of a `for`, whose values are dropped, and that of a loop which has none
  abbrev update_of : ℕ → TypedRun (Unit {0})
  update_of update = behind (e.values P (l.inner P d) (operands_of ns update)) (give tt)

  abbrev no_update : TypedRun (Unit {0})
  no_update = give tt

  -- an element goes into the variable of an enhanced `for`
  abbrev pub take_of : Each → Value → TypedRun (Unit {0})
  take_of each = s.take_element P (l.inner P d) (l.run P d) d each.place (type_of ns each.ty) (captures_of ns each.captures) (steps_of ns each.steps) each.local

  -- turns of a `for`, of a loop over an iterator, and of one over an array at an index
  abbrev pub for_turn : ℕ → ℕ → ℕ → ℕ → Unit {0} → TypedRun (Turn (Unit {0}))
  for_turn own test update body i =
      s.while_turn P (l.inner P d) (l.run P d) d own (test_of P ns d test) (run body) (update_of update)

  abbrev pub iterator_turn : Each → Value → Unit {0} → TypedRun (Turn (Unit {0}))
  iterator_turn each iterator i = s.iterator_turn P (l.inner P d) (l.run P d) d each.own iterator (take_of each) (run each.body)

  abbrev pub array_turn : Each → Value → ℕ → TypedRun (Turn ℕ)
  array_turn each array = s.array_turn P (l.inner P d) (l.run P d) d each.own array (take_of each) (run each.body)

  -- a turn of each loop but that over an array, and such a turn as a task
  abbrev pub turn : TurnTask → Unit {0} → TypedRun (Turn (Unit {0}))
  turn (t.While own test body) i = s.while_turn P (l.inner P d) (l.run P d) d own (value_of test) (run body) no_update
  turn (t.Do own body test) i = s.do_turn P (l.inner P d) (l.run P d) d own (run body) (value_of test)
  turn (t.For own test update body) i = for_turn own test update body i
  turn (t.Iterate each iterator) i = iterator_turn each iterator i

  abbrev pub turn_task : TurnTask → TypedRun (Turn (Unit {0}))
  turn_task t = turn t tt

  -- what follows a value in a turn: that of the test, of `hasNext`, or of `next`
  abbrev pub value_to_turn : ValueToTurn → Value → TypedRun (Turn (Unit {0}))
  value_to_turn (vr.While own body) v = if_true v (bind (run body) (λ c. after_body own c (behind no_update again))) ended
  value_to_turn (vr.For own body update) v = if_true v (bind (run body) (λ c. after_body own c (behind (update_of update) again))) ended
  value_to_turn vr.Do v = if_true v again ended
  value_to_turn (vr.HasNext each iterator) v =
      if_true v
      (bind (l.call_virtual P d P.known.iterating.next iterator) (λ x.
      behind (take_of each x) (bind (run each.body) (λ c. after_body each.own c again))))
      ended
  value_to_turn (vr.Next each) v = behind (take_of each v) (bind (run each.body) (λ c. after_body each.own c again))

  -- what follows the body of a loop, which a jump may have ended
  abbrev pub completion_to_turn : CompletionToTurn → Completion → TypedRun (Turn (Unit {0}))
  completion_to_turn (cr.While own) c = after_body own c again
  completion_to_turn (cr.For own update) c = after_body own c (behind (update_of update) again)
  completion_to_turn (cr.Do own test) c = after_body own c (bind (value_of test) (λ v. if_true v again ended))

  -- what follows the update, and an element that went into its variable
  abbrev pub nothing_to_turn : NothingToTurn → TypedRun (Turn (Unit {0}))
  nothing_to_turn nr.Again = again
  nothing_to_turn (nr.Body own body) = bind (run body) (λ c. after_body own c again)

  -- what follows a turn: the others, of which `left` are left at most
  abbrev pub turn_to_completion : TurnToCompletion → Turn (Unit {0}) → TypedRun Completion
  turn_to_completion (rc.Turned t left) r = on_turn r (turns left (turn t))

  -- the same over an array: a turn, what follows an element in its variable, the body, and the turn
  abbrev pub numbered_task : NumberedTask → TypedRun (Turn ℕ)
  numbered_task (m.Element each array at) = array_turn each array at

  abbrev pub nothing_to_numbered : NothingToNumbered → TypedRun (Turn ℕ)
  nothing_to_numbered (nm.Body own body after) = bind (run body) (λ c. after_body own c (give (Again after)))

  abbrev pub completion_to_numbered : CompletionToNumbered → Completion → TypedRun (Turn ℕ)
  completion_to_numbered (cm.After own after) c = after_body own c (give (Again after))

  abbrev pub numbered_to_completion : NumberedToCompletion → Turn ℕ → TypedRun Completion
  numbered_to_completion (mc.Turned each array left) r = on_turn r (turns left (array_turn each array))
