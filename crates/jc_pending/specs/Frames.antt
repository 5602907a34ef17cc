-- What is left to do, as what it makes of an outcome: each entry takes the outcome of what runs above it, and what it makes of that
-- goes to the entries below it.
use Rattle.std.specs.Prelude.{ℕ, List, [], ◌∷◌}
use Rattle.jc_types.specs.declared.ids.ClassId.{ClassId}
use Rattle.jc_running.specs.declared.value.Value.{Value}
use Rattle.jc_running.specs.declared.value.Completion.{Completion}
use Rattle.jc_running.specs.declared.value.Turn.{Turn}
use Rattle.jc_running.specs.declared.value.Readiness.TheVariants.{Ready as IsReady, Failed}
use Rattle.jc_running.specs.Outcomes.{Out, on_both, give, throw, wrong, bind, behind, leave, instead}
use Rattle.jc_heaps.specs.States.{back_in}
use Rattle.jc_typed.specs.declared.nodes.Node.{Node}
use Rattle.jc_typed.specs.declared.program.TypedProgram.{TypedProgram}
use Rattle.jc_typed.specs.Parts.{catches_of}
use Rattle.jc_meaning.specs.declared.target.Target.{Target}
use Rattle.jc_meaning.specs.Kept.{TypedState, TypedRun}
use Rattle.jc_meaning.specs.Statements as s
use Rattle.jc_meaning.specs.Classes as classes
use Rattle.jc_pending.specs.Level as l
use Rattle.jc_pending.specs.Values as a
use Rattle.jc_pending.specs.Statements as b
use Rattle.jc_pending.specs.Loops as c
use Rattle.jc_pending.specs.declared.todo.Task.{Task}
use Rattle.jc_pending.specs.declared.todo.Task.TheVariants as t
use Rattle.jc_pending.specs.declared.todo.ForValue.{ForValue}
use Rattle.jc_pending.specs.declared.todo.ForValue.TheVariants as v
use Rattle.jc_pending.specs.declared.todo.ForValues.{ForValues}
use Rattle.jc_pending.specs.declared.todo.ForValues.TheVariants as m
use Rattle.jc_pending.specs.declared.todo.ForNothing.{ForNothing}
use Rattle.jc_pending.specs.declared.todo.ForNothing.TheVariants as n
use Rattle.jc_pending.specs.declared.todo.ForCompletion.{ForCompletion}
use Rattle.jc_pending.specs.declared.todo.ForCompletion.TheVariants as q
use Rattle.jc_pending.specs.declared.todo.Waiting.{Waiting}
use Rattle.jc_pending.specs.declared.todo.Waiting.TheVariants as w
use Rattle.jc_pending.specs.declared.todo.Todo.{Todo}
use Rattle.jc_pending.specs.declared.todo.Todo.TheVariants as todo
use Rattle.jc_pending.specs.declared.todo.Entry.{Entry}

-- what a run's end makes of an outcome, by what the outcome gives
abbrev pub Ends : Type 0 → Type 0
Ends A = Out TypedState A → Out TypedState Value

-- what is left to do, for each sort of thing that can be given to it
pub record Rest : Type 0 where
  pub value : Ends Value
  pub values : Ends (List Value)
  pub nothing : Ends (Unit {0})
  pub target : Ends Target
  pub completion : Ends Completion
  pub turn : Ends (Turn (Unit {0}))
  pub numbered : Ends (Turn ℕ)

-- something else than what is waited for is given by no computation of the meaning
abbrev pub unfit : {A B : Type 0} → Out TypedState A → Out TypedState B
unfit o = on_both o (λ a. wrong) throw

-- what waits for one thing
abbrev pub value_waits : Ends Value → Rest
value_waits f = record { value = f; values = λ o. f (unfit o); nothing = λ o. f (unfit o); target = λ o. f (unfit o); completion = λ o. f (unfit o); turn = λ o. f (unfit o); numbered = λ o. f (unfit o) }

abbrev pub values_wait : Ends (List Value) → Rest
values_wait f = record { value = λ o. f (unfit o); values = f; nothing = λ o. f (unfit o); target = λ o. f (unfit o); completion = λ o. f (unfit o); turn = λ o. f (unfit o); numbered = λ o. f (unfit o) }

abbrev pub nothing_waits : Ends (Unit {0}) → Rest
nothing_waits f = record { value = λ o. f (unfit o); values = λ o. f (unfit o); nothing = f; target = λ o. f (unfit o); completion = λ o. f (unfit o); turn = λ o. f (unfit o); numbered = λ o. f (unfit o) }

abbrev pub target_waits : Ends Target → Rest
target_waits f = record { value = λ o. f (unfit o); values = λ o. f (unfit o); nothing = λ o. f (unfit o); target = f; completion = λ o. f (unfit o); turn = λ o. f (unfit o); numbered = λ o. f (unfit o) }

-- a completion of a statement, a turn of a loop, and a turn that counts the elements of an array
abbrev pub completion_waits : Ends Completion → Rest
completion_waits f = record { value = λ o. f (unfit o); values = λ o. f (unfit o); nothing = λ o. f (unfit o); target = λ o. f (unfit o); completion = f; turn = λ o. f (unfit o); numbered = λ o. f (unfit o) }

abbrev pub turn_waits : Ends (Turn (Unit {0})) → Rest
turn_waits f = record { value = λ o. f (unfit o); values = λ o. f (unfit o); nothing = λ o. f (unfit o); target = λ o. f (unfit o); completion = λ o. f (unfit o); turn = f; numbered = λ o. f (unfit o) }

abbrev pub numbered_waits : Ends (Turn ℕ) → Rest
numbered_waits f = record { value = λ o. f (unfit o); values = λ o. f (unfit o); nothing = λ o. f (unfit o); target = λ o. f (unfit o); completion = λ o. f (unfit o); turn = λ o. f (unfit o); numbered = f }

-- a computation with what is given, and then the rest
abbrev pub goes_on : {A B : Type 0} → (A → TypedRun B) → Ends B → Ends A
goes_on f rest o = rest (on_both o f throw)

module _ (P : TypedProgram) (ns : List Node) (d : ℕ) where
  -- a computation on its own, by what it gives
  abbrev pub begun : Task → Rest → Ends (Unit {0})
  begun (t.Value x) k = goes_on (λ n. a.value_task P ns d x) k.value
  begun (t.Values x) k = goes_on (λ n. a.values_task P ns d x) k.values
  begun (t.Nothing x) k = goes_on (λ n. a.nothing_task P ns d x) k.nothing
  begun (t.Target x) k = goes_on (λ n. a.target_task P ns d x) k.target
  begun (t.Completion x) k = goes_on (λ n. b.completion_task P ns d x) k.completion
  begun (t.Turn x) k = goes_on (λ n. c.turn_task P ns d x) k.turn
  begun (t.Numbered x) k = goes_on (λ n. c.numbered_task P ns d x) k.numbered

  -- what follows a value
  abbrev pub behind_value : ForValue → Rest → Ends Value
  behind_value (v.ToValue x) k = goes_on (a.value_to_value P ns d x) k.value
  behind_value (v.ToValues x) k = goes_on (a.value_to_values P ns d x) k.values
  behind_value (v.ToNothing x) k = goes_on (a.value_to_nothing P ns d x) k.nothing
  behind_value (v.ToTarget x) k = goes_on (a.value_to_target P ns d x) k.target
  behind_value (v.ToCompletion x) k = goes_on (b.value_to_completion P ns d x) k.completion
  behind_value (v.ToTurn x) k = goes_on (c.value_to_turn P ns d x) k.turn

  -- what follows the values of operands
  abbrev pub behind_values : ForValues → Rest → Ends (List Value)
  behind_values (m.ToValue x) k = goes_on (a.values_to_value P ns d x) k.value
  behind_values (m.ToValues x) k = goes_on (a.values_to_values P ns d x) k.values
  behind_values (m.ToNothing x) k = goes_on (a.values_to_nothing P ns d x) k.nothing
  behind_values (m.ToTarget x) k = goes_on (a.values_to_target P ns d x) k.target
  behind_values (m.ToCompletion x) k = goes_on (b.values_to_completion P ns d x) k.completion

  -- what follows what gives nothing
  abbrev pub behind_nothing : ForNothing → Rest → Ends (Unit {0})
  behind_nothing (n.ToValue x) k = goes_on (λ n. a.nothing_to_value P ns d x) k.value
  behind_nothing (n.ToNothing x) k = goes_on (λ n. a.nothing_to_nothing P ns d x) k.nothing
  behind_nothing (n.ToCompletion x) k = goes_on (λ n. b.nothing_to_completion P ns d x) k.completion
  behind_nothing (n.ToTurn x) k = goes_on (λ n. c.nothing_to_turn P ns d x) k.turn
  behind_nothing (n.ToNumbered x) k = goes_on (λ n. c.nothing_to_numbered P ns d x) k.numbered

  -- what follows a completion
  abbrev pub behind_completion : ForCompletion → Rest → Ends Completion
  behind_completion (q.ToValue x) k = goes_on (a.completion_to_value P ns d x) k.value
  behind_completion (q.ToCompletion x) k = goes_on (b.completion_to_completion P ns d x) k.completion
  behind_completion (q.ToTurn x) k = goes_on (c.completion_to_turn P ns d x) k.turn
  behind_completion (q.ToNumbered x) k = goes_on (c.completion_to_numbered P ns d x) k.numbered

  -- what waits for one thing, and then for what it gives itself
  abbrev pub waits : Waiting → Rest → Rest
  waits (w.Value x) k = value_waits (behind_value x k)
  waits (w.Values x) k = values_wait (behind_values x k)
  waits (w.Nothing x) k = nothing_waits (behind_nothing x k)
  waits (w.Target x) k = target_waits (goes_on (a.target_to_value P ns d x) k.value)
  waits (w.Completion x) k = completion_waits (behind_completion x k)
  waits (w.Turn x) k = turn_waits (goes_on (c.turn_to_completion P ns d x) k.completion)
  waits (w.Numbered x) k = numbered_waits (goes_on (c.numbered_to_completion P ns d x) k.completion)

  -- a class whose superclass is ready initialises itself; where the superclass threw, it has failed (JLS 12.4.2)
  abbrev pub behind_superclass : ClassId → Ends (Unit {0}) → Ends (Unit {0})
  behind_superclass class rest o =
      rest (on_both o (λ n. l.own_initialiser P d class) (λ address. behind (classes.set_readiness class Failed) (throw address)))

  -- .. and it is ready, or its own initialiser threw
  abbrev pub behind_initialiser : ClassId → Ends (Unit {0}) → Ends (Unit {0})
  behind_initialiser class rest o =
      rest (on_both o (λ n. classes.set_readiness class IsReady) (λ address. behind (classes.set_readiness class Failed) (classes.as_error P address)))

  -- the clauses of a `try` (JLS 14.20.1), and its finally block (JLS 14.20.2)
  abbrev pub behind_try : ℕ → Ends Completion → Ends Completion
  behind_try catches rest o = rest (on_both o give (s.catch P (l.inner P d) (l.run P d) d (catches_of ns catches)))

  -- the statements of a finally block stand in reverse order
  abbrev pub behind_finally : List ℕ → Ends Completion → Ends Completion
  behind_finally back rest o =
      rest (on_both o (λ c. bind (l.run_all P d (l.stmts_back ns back)) (λ e. instead e (give c)))
      (λ address. bind (l.run_all P d (l.stmts_back ns back)) (λ e. instead e (throw address))))

  -- what one entry makes of an outcome, before the rest: it begins, waits, leaves a node or a method, or takes a throw
  abbrev pub left_to_do : Todo → Rest → Rest
  left_to_do (todo.Begin x) k = nothing_waits (begun x k)
  left_to_do (todo.Wait x) k = waits x k
  left_to_do todo.LeaveValue k = value_waits (λ o. k.value (leave o))
  left_to_do todo.LeaveCompletion k = completion_waits (λ o. k.completion (leave o))
  left_to_do todo.LeaveNothing k = nothing_waits (λ o. k.nothing (leave o))
  left_to_do (todo.Back locals frame) k = value_waits (λ o. k.value (back_in locals frame o))
  left_to_do (todo.Superclass class) k = nothing_waits (behind_superclass class k.nothing)
  left_to_do (todo.Initialiser class) k = nothing_waits (behind_initialiser class k.nothing)
  left_to_do (todo.Catch catches) k = completion_waits (behind_try catches k.completion)
  left_to_do (todo.Finally back) k = completion_waits (behind_finally back k.completion)

-- an entry over the nodes of its method
abbrev pub entry_to_do : TypedProgram → Entry → Rest → Rest
entry_to_do P entry k = left_to_do P (l.nodes_of P entry.level.method) entry.level.depth entry.todo k

-- all that is left to do, the last of which comes first
abbrev pub all_to_do : TypedProgram → Rest → List Entry → Rest
all_to_do P k [] = k
all_to_do P k (entry ∷ entries) = all_to_do P (entry_to_do P entry k) entries

-- a run ends with a value
abbrev pub at_the_end : Rest
at_the_end = value_waits (λ o. o)
