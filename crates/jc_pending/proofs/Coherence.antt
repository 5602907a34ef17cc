-- What is left to do agrees on every computation that ended without giving what it was to give, and lets it pass.
use Rattle.std.proofs.Common.{◌≡◌, ℕ, ℤ, List, [], ◌∷◌, ◌++◌, refl}
use Rattle.jc_running.specs.declared.value.Value.{Value}
use Rattle.jc_running.specs.declared.value.Completion.{Completion}
use Rattle.jc_running.specs.declared.value.Turn.{Turn}
use Rattle.jc_running.specs.Outcomes.{Exited, Going, Wrong}
use Rattle.jc_typed.specs.declared.nodes.Node.{Node}
use Rattle.jc_typed.specs.declared.program.TypedProgram.{TypedProgram}
use Rattle.jc_meaning.specs.declared.target.Target.{Target}
use Rattle.jc_meaning.specs.Kept.{TypedState, TypedRun}
use Rattle.jc_pending.specs.Frames.{Ends, Rest, value_waits, values_wait, nothing_waits, target_waits, completion_waits, turn_waits, numbered_waits, goes_on, begun, behind_value, behind_values, behind_nothing, behind_completion, left_to_do, waits, entry_to_do, all_to_do, at_the_end}
use Rattle.jc_pending.specs.Leads.{Agrees, Coherent}
use Rattle.jc_pending.specs.Level.{nodes_of}
use Rattle.jc_pending.specs.Values as a
use Rattle.jc_pending.specs.Statements as b
use Rattle.jc_pending.specs.Loops as c
use Rattle.jc_pending.specs.declared.todo.Task.{Task}
use Rattle.jc_pending.specs.declared.todo.Task.TheVariants as t
use Rattle.jc_pending.specs.declared.todo.ForValue.{ForValue}
use Rattle.jc_pending.specs.declared.todo.ForValue.TheVariants as v
use Rattle.jc_pending.specs.declared.todo.ForValues.{ForValues}
use Rattle.jc_pending.specs.declared.todo.ForValues.TheVariants as m
use Rattle.jc_pending.specs.declared.todo.ForNothing.{ForNothing}
use Rattle.jc_pending.specs.declared.todo.ForNothing.TheVariants as n
use Rattle.jc_pending.specs.declared.todo.ForCompletion.{ForCompletion}
use Rattle.jc_pending.specs.declared.todo.ForCompletion.TheVariants as q
use Rattle.jc_pending.specs.declared.todo.Waiting.{Waiting}
use Rattle.jc_pending.specs.declared.todo.Waiting.TheVariants as w
use Rattle.jc_pending.specs.declared.todo.Todo.{Todo}
use Rattle.jc_pending.specs.declared.todo.Todo.TheVariants as todo
use Rattle.jc_pending.specs.declared.todo.Entry.{Entry}

value_waits_coherent : (f : Ends Value) → Coherent (value_waits f)
value_waits_coherent f = record {
  values = record { thrown = λ address u s. refl; exited = λ code s. refl; going = λ s. refl; wrong = refl };
  nothing = record { thrown = λ address u s. refl; exited = λ code s. refl; going = λ s. refl; wrong = refl };
  target = record { thrown = λ address u s. refl; exited = λ code s. refl; going = λ s. refl; wrong = refl };
  completion = record { thrown = λ address u s. refl; exited = λ code s. refl; going = λ s. refl; wrong = refl };
  turn = record { thrown = λ address u s. refl; exited = λ code s. refl; going = λ s. refl; wrong = refl };
  numbered = record { thrown = λ address u s. refl; exited = λ code s. refl; going = λ s. refl; wrong = refl };
}

values_wait_coherent : (f : Ends (List Value)) → Coherent (values_wait f)
values_wait_coherent f = record {
  values = record { thrown = λ address u s. refl; exited = λ code s. refl; going = λ s. refl; wrong = refl };
  nothing = record { thrown = λ address u s. refl; exited = λ code s. refl; going = λ s. refl; wrong = refl };
  target = record { thrown = λ address u s. refl; exited = λ code s. refl; going = λ s. refl; wrong = refl };
  completion = record { thrown = λ address u s. refl; exited = λ code s. refl; going = λ s. refl; wrong = refl };
  turn = record { thrown = λ address u s. refl; exited = λ code s. refl; going = λ s. refl; wrong = refl };
  numbered = record { thrown = λ address u s. refl; exited = λ code s. refl; going = λ s. refl; wrong = refl };
}

nothing_waits_coherent : (f : Ends (Unit {0})) → Coherent (nothing_waits f)
nothing_waits_coherent f = record {
  values = record { thrown = λ address u s. refl; exited = λ code s. refl; going = λ s. refl; wrong = refl };
  nothing = record { thrown = λ address u s. refl; exited = λ code s. refl; going = λ s. refl; wrong = refl };
  target = record { thrown = λ address u s. refl; exited = λ code s. refl; going = λ s. refl; wrong = refl };
  completion = record { thrown = λ address u s. refl; exited = λ code s. refl; going = λ s. refl; wrong = refl };
  turn = record { thrown = λ address u s. refl; exited = λ code s. refl; going = λ s. refl; wrong = refl };
  numbered = record { thrown = λ address u s. refl; exited = λ code s. refl; going = λ s. refl; wrong = refl };
}

target_waits_coherent : (f : Ends Target) → Coherent (target_waits f)
target_waits_coherent f = record {
  values = record { thrown = λ address u s. refl; exited = λ code s. refl; going = λ s. refl; wrong = refl };
  nothing = record { thrown = λ address u s. refl; exited = λ code s. refl; going = λ s. refl; wrong = refl };
  target = record { thrown = λ address u s. refl; exited = λ code s. refl; going = λ s. refl; wrong = refl };
  completion = record { thrown = λ address u s. refl; exited = λ code s. refl; going = λ s. refl; wrong = refl };
  turn = record { thrown = λ address u s. refl; exited = λ code s. refl; going = λ s. refl; wrong = refl };
  numbered = record { thrown = λ address u s. refl; exited = λ code s. refl; going = λ s. refl; wrong = refl };
}

completion_waits_coherent : (f : Ends Completion) → Coherent (completion_waits f)
completion_waits_coherent f = record {
  values = record { thrown = λ address u s. refl; exited = λ code s. refl; going = λ s. refl; wrong = refl };
  nothing = record { thrown = λ address u s. refl; exited = λ code s. refl; going = λ s. refl; wrong = refl };
  target = record { thrown = λ address u s. refl; exited = λ code s. refl; going = λ s. refl; wrong = refl };
  completion = record { thrown = λ address u s. refl; exited = λ code s. refl; going = λ s. refl; wrong = refl };
  turn = record { thrown = λ address u s. refl; exited = λ code s. refl; going = λ s. refl; wrong = refl };
  numbered = record { thrown = λ address u s. refl; exited = λ code s. refl; going = λ s. refl; wrong = refl };
}

turn_waits_coherent : (f : Ends (Turn (Unit {0}))) → Coherent (turn_waits f)
turn_waits_coherent f = record {
  values = record { thrown = λ address u s. refl; exited = λ code s. refl; going = λ s. refl; wrong = refl };
  nothing = record { thrown = λ address u s. refl; exited = λ code s. refl; going = λ s. refl; wrong = refl };
  target = record { thrown = λ address u s. refl; exited = λ code s. refl; going = λ s. refl; wrong = refl };
  completion = record { thrown = λ address u s. refl; exited = λ code s. refl; going = λ s. refl; wrong = refl };
  turn = record { thrown = λ address u s. refl; exited = λ code s. refl; going = λ s. refl; wrong = refl };
  numbered = record { thrown = λ address u s. refl; exited = λ code s. refl; going = λ s. refl; wrong = refl };
}

numbered_waits_coherent : (f : Ends (Turn ℕ)) → Coherent (numbered_waits f)
numbered_waits_coherent f = record {
  values = record { thrown = λ address u s. refl; exited = λ code s. refl; going = λ s. refl; wrong = refl };
  nothing = record { thrown = λ address u s. refl; exited = λ code s. refl; going = λ s. refl; wrong = refl };
  target = record { thrown = λ address u s. refl; exited = λ code s. refl; going = λ s. refl; wrong = refl };
  completion = record { thrown = λ address u s. refl; exited = λ code s. refl; going = λ s. refl; wrong = refl };
  turn = record { thrown = λ address u s. refl; exited = λ code s. refl; going = λ s. refl; wrong = refl };
  numbered = record { thrown = λ address u s. refl; exited = λ code s. refl; going = λ s. refl; wrong = refl };
}

itself : (k : Rest) → Agrees k k.value
itself k = record { thrown = λ address u s. refl; exited = λ code s. refl; going = λ s. refl; wrong = refl }

onto : {A B : Type 0} (k : Rest) (f : A → TypedRun B) (g : Ends B) → Agrees k g → Agrees k (goes_on f g)
onto k f g h = record { thrown = λ address u s. h.thrown address u s; exited = λ code s. h.exited code s; going = λ s. h.going s; wrong = h.wrong }

-- what waits for one thing lets pass what ended otherwise
through_value : (k : Rest) (f : Ends Value) → Agrees k f → Agrees k ((value_waits f).value)
through_value k f h = record { thrown = λ address u s. h.thrown address u s; exited = λ code s. h.exited code s; going = λ s. h.going s; wrong = h.wrong }

through_values : (k : Rest) (f : Ends (List Value)) → Agrees k f → Agrees k ((values_wait f).value)
through_values k f h = record { thrown = λ address u s. h.thrown address u s; exited = λ code s. h.exited code s; going = λ s. h.going s; wrong = h.wrong }

through_nothing : (k : Rest) (f : Ends (Unit {0})) → Agrees k f → Agrees k ((nothing_waits f).value)
through_nothing k f h = record { thrown = λ address u s. h.thrown address u s; exited = λ code s. h.exited code s; going = λ s. h.going s; wrong = h.wrong }

through_target : (k : Rest) (f : Ends Target) → Agrees k f → Agrees k ((target_waits f).value)
through_target k f h = record { thrown = λ address u s. h.thrown address u s; exited = λ code s. h.exited code s; going = λ s. h.going s; wrong = h.wrong }

through_completion : (k : Rest) (f : Ends Completion) → Agrees k f → Agrees k ((completion_waits f).value)
through_completion k f h = record { thrown = λ address u s. h.thrown address u s; exited = λ code s. h.exited code s; going = λ s. h.going s; wrong = h.wrong }

through_turn : (k : Rest) (f : Ends (Turn (Unit {0}))) → Agrees k f → Agrees k ((turn_waits f).value)
through_turn k f h = record { thrown = λ address u s. h.thrown address u s; exited = λ code s. h.exited code s; going = λ s. h.going s; wrong = h.wrong }

through_numbered : (k : Rest) (f : Ends (Turn ℕ)) → Agrees k f → Agrees k ((numbered_waits f).value)
through_numbered k f h = record { thrown = λ address u s. h.thrown address u s; exited = λ code s. h.exited code s; going = λ s. h.going s; wrong = h.wrong }

module _ (P : TypedProgram) (ns : List Node) (d : ℕ) (k : Rest) (h : Coherent k) where
  pub begin_passes : (x : Task) → Agrees k (begun P ns d x k)
  begin_passes (t.Value x) = onto k (λ n. a.value_task P ns d x) k.value (itself k)
  begin_passes (t.Values x) = onto k (λ n. a.values_task P ns d x) k.values h.values
  begin_passes (t.Nothing x) = onto k (λ n. a.nothing_task P ns d x) k.nothing h.nothing
  begin_passes (t.Target x) = onto k (λ n. a.target_task P ns d x) k.target h.target
  begin_passes (t.Completion x) = onto k (λ n. b.completion_task P ns d x) k.completion h.completion
  begin_passes (t.Turn x) = onto k (λ n. c.turn_task P ns d x) k.turn h.turn
  begin_passes (t.Numbered x) = onto k (λ n. c.numbered_task P ns d x) k.numbered h.numbered

  pub value_passes : (x : ForValue) → Agrees k (behind_value P ns d x k)
  value_passes (v.ToValue x) = onto k (a.value_to_value P ns d x) k.value (itself k)
  value_passes (v.ToValues x) = onto k (a.value_to_values P ns d x) k.values h.values
  value_passes (v.ToNothing x) = onto k (a.value_to_nothing P ns d x) k.nothing h.nothing
  value_passes (v.ToTarget x) = onto k (a.value_to_target P ns d x) k.target h.target
  value_passes (v.ToCompletion x) = onto k (b.value_to_completion P ns d x) k.completion h.completion
  value_passes (v.ToTurn x) = onto k (c.value_to_turn P ns d x) k.turn h.turn

  pub values_passes : (x : ForValues) → Agrees k (behind_values P ns d x k)
  values_passes (m.ToValue x) = onto k (a.values_to_value P ns d x) k.value (itself k)
  values_passes (m.ToValues x) = onto k (a.values_to_values P ns d x) k.values h.values
  values_passes (m.ToNothing x) = onto k (a.values_to_nothing P ns d x) k.nothing h.nothing
  values_passes (m.ToTarget x) = onto k (a.values_to_target P ns d x) k.target h.target
  values_passes (m.ToCompletion x) = onto k (b.values_to_completion P ns d x) k.completion h.completion

  pub nothing_passes : (x : ForNothing) → Agrees k (behind_nothing P ns d x k)
  nothing_passes (n.ToValue x) = onto k (λ n. a.nothing_to_value P ns d x) k.value (itself k)
  nothing_passes (n.ToNothing x) = onto k (λ n. a.nothing_to_nothing P ns d x) k.nothing h.nothing
  nothing_passes (n.ToCompletion x) = onto k (λ n. b.nothing_to_completion P ns d x) k.completion h.completion
  nothing_passes (n.ToTurn x) = onto k (λ n. c.nothing_to_turn P ns d x) k.turn h.turn
  nothing_passes (n.ToNumbered x) = onto k (λ n. c.nothing_to_numbered P ns d x) k.numbered h.numbered

  pub completion_passes : (x : ForCompletion) → Agrees k (behind_completion P ns d x k)
  completion_passes (q.ToValue x) = onto k (a.completion_to_value P ns d x) k.value (itself k)
  completion_passes (q.ToCompletion x) = onto k (b.completion_to_completion P ns d x) k.completion h.completion
  completion_passes (q.ToTurn x) = onto k (c.completion_to_turn P ns d x) k.turn h.turn
  completion_passes (q.ToNumbered x) = onto k (c.completion_to_numbered P ns d x) k.numbered h.numbered

  pub wait_passes : (x : Waiting) → Agrees k ((waits P ns d x k).value)
  wait_passes (w.Value x) = through_value k (behind_value P ns d x k) (value_passes x)
  wait_passes (w.Values x) = through_values k (behind_values P ns d x k) (values_passes x)
  wait_passes (w.Nothing x) = through_nothing k (behind_nothing P ns d x k) (nothing_passes x)
  wait_passes (w.Target x) = through_target k (goes_on (a.target_to_value P ns d x) k.value) (onto k (a.target_to_value P ns d x) k.value (itself k))
  wait_passes (w.Completion x) = through_completion k (behind_completion P ns d x k) (completion_passes x)
  wait_passes (w.Turn x) = through_turn k (goes_on (c.turn_to_completion P ns d x) k.completion) (onto k (c.turn_to_completion P ns d x) k.completion h.completion)
  wait_passes (w.Numbered x) = through_numbered k (goes_on (c.numbered_to_completion P ns d x) k.completion) (onto k (c.numbered_to_completion P ns d x) k.completion h.completion)

  -- what ended the run passes everything that is left to do
  pub todo_exits : (x : Todo) (code : ℤ) (s : TypedState) → (left_to_do P ns d x k).value (Exited code s) ≡ k.value (Exited code s)
  todo_exits (todo.Begin x) code s = (begin_passes x).exited code s
  todo_exits (todo.Wait x) code s = (wait_passes x).exited code s
  todo_exits todo.LeaveValue code s = refl
  todo_exits todo.LeaveCompletion code s = h.completion.exited code s
  todo_exits todo.LeaveNothing code s = h.nothing.exited code s
  todo_exits (todo.Back locals frame) code s = refl
  todo_exits (todo.Superclass class) code s = h.nothing.exited code s
  todo_exits (todo.Initialiser class) code s = h.nothing.exited code s
  todo_exits (todo.Catch catches) code s = h.completion.exited code s
  todo_exits (todo.Finally stmts) code s = h.completion.exited code s

  pub todo_goes : (x : Todo) (s : TypedState) → (left_to_do P ns d x k).value (Going s) ≡ k.value (Going s)
  todo_goes (todo.Begin x) s = (begin_passes x).going s
  todo_goes (todo.Wait x) s = (wait_passes x).going s
  todo_goes todo.LeaveValue s = refl
  todo_goes todo.LeaveCompletion s = h.completion.going s
  todo_goes todo.LeaveNothing s = h.nothing.going s
  todo_goes (todo.Back locals frame) s = refl
  todo_goes (todo.Superclass class) s = h.nothing.going s
  todo_goes (todo.Initialiser class) s = h.nothing.going s
  todo_goes (todo.Catch catches) s = h.completion.going s
  todo_goes (todo.Finally stmts) s = h.completion.going s

  pub todo_wrongs : (x : Todo) → (left_to_do P ns d x k).value Wrong ≡ k.value Wrong
  todo_wrongs (todo.Begin x) = (begin_passes x).wrong
  todo_wrongs (todo.Wait x) = (wait_passes x).wrong
  todo_wrongs todo.LeaveValue = refl
  todo_wrongs todo.LeaveCompletion = h.completion.wrong
  todo_wrongs todo.LeaveNothing = h.nothing.wrong
  todo_wrongs (todo.Back locals frame) = refl
  todo_wrongs (todo.Superclass class) = h.nothing.wrong
  todo_wrongs (todo.Initialiser class) = h.nothing.wrong
  todo_wrongs (todo.Catch catches) = h.completion.wrong
  todo_wrongs (todo.Finally stmts) = h.completion.wrong

waits_coherent : (P : TypedProgram) (ns : List Node) (d : ℕ) (x : Waiting) (k : Rest) → Coherent (waits P ns d x k)
waits_coherent P ns d (w.Value x) k = value_waits_coherent (behind_value P ns d x k)
waits_coherent P ns d (w.Values x) k = values_wait_coherent (behind_values P ns d x k)
waits_coherent P ns d (w.Nothing x) k = nothing_waits_coherent (behind_nothing P ns d x k)
waits_coherent P ns d (w.Target x) k = target_waits_coherent (waits P ns d (w.Target x) k).target
waits_coherent P ns d (w.Completion x) k = completion_waits_coherent (behind_completion P ns d x k)
waits_coherent P ns d (w.Turn x) k = turn_waits_coherent (waits P ns d (w.Turn x) k).turn
waits_coherent P ns d (w.Numbered x) k = numbered_waits_coherent (waits P ns d (w.Numbered x) k).numbered

pub left_coherent : (P : TypedProgram) (ns : List Node) (d : ℕ) (x : Todo) (k : Rest) → Coherent (left_to_do P ns d x k)
left_coherent P ns d (todo.Begin x) k = nothing_waits_coherent (begun P ns d x k)
left_coherent P ns d (todo.Wait x) k = waits_coherent P ns d x k
left_coherent P ns d todo.LeaveValue k = value_waits_coherent (left_to_do P ns d todo.LeaveValue k).value
left_coherent P ns d todo.LeaveCompletion k = completion_waits_coherent (left_to_do P ns d todo.LeaveCompletion k).completion
left_coherent P ns d todo.LeaveNothing k = nothing_waits_coherent (left_to_do P ns d todo.LeaveNothing k).nothing
left_coherent P ns d (todo.Back locals frame) k = value_waits_coherent (left_to_do P ns d (todo.Back locals frame) k).value
left_coherent P ns d (todo.Superclass class) k = nothing_waits_coherent (left_to_do P ns d (todo.Superclass class) k).nothing
left_coherent P ns d (todo.Initialiser class) k = nothing_waits_coherent (left_to_do P ns d (todo.Initialiser class) k).nothing
left_coherent P ns d (todo.Catch catches) k = completion_waits_coherent (left_to_do P ns d (todo.Catch catches) k).completion
left_coherent P ns d (todo.Finally stmts) k = completion_waits_coherent (left_to_do P ns d (todo.Finally stmts) k).completion

pub all_coherent : (P : TypedProgram) (k : Rest) (es : List Entry) → Coherent k → Coherent (all_to_do P k es)
all_coherent P k [] c = c
all_coherent P k (x ∷ es) c = all_coherent P (entry_to_do P x k) es (left_coherent P (nodes_of P x.level.method) x.level.depth x.todo k)

pub end_coherent : Coherent at_the_end
end_coherent = value_waits_coherent (λ o. o)

-- the last entry comes first
pub all_more : (P : TypedProgram) (k : Rest) (es : List Entry) (x : Entry) → all_to_do P k (es ++ x ∷ []) ≡ entry_to_do P x (all_to_do P k es)
all_more P k [] x = refl
all_more P k (y ∷ es) x = all_more P (entry_to_do P y k) es x
