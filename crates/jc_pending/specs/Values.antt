-- What each point stands for that has to do with values (JLS 12.4, 15), over the nodes of a method and the meaning at a depth.
use Rattle.std.specs.Prelude.{ℕ, suc, ◌-◌, pos, Bool, true, false, List, [], ◌∷◌, ◌++◌, slice_get, slice_set, if◌then◌else◌}
use Rattle.jc_rules.specs.declared.rule.Place.{Place}
use Rattle.jc_types.specs.declared.ids.MethodId.{MethodId}
use Rattle.jc_types.specs.declared.form.Ty.{Ty}
use Rattle.jc_types.specs.declared.constant.Op.{Op}
use Rattle.jc_types.specs.Accessors.{result_of}
use Rattle.jc_running.specs.declared.value.Value.{Value}
use Rattle.jc_running.specs.declared.value.Value.TheVariants.{Address, Whole}
use Rattle.jc_running.specs.declared.value.Completion.{Completion}
use Rattle.jc_running.specs.Outcomes.{give, bind, behind}
use Rattle.jc_heaps.specs.States.{look, change, set_local, in_frame}
use Rattle.jc_heaps.specs.Numbers.{truth, operated, stepped}
use Rattle.jc_heaps.specs.Making.{given}
use Rattle.jc_typed.specs.declared.nodes.Node.{Node}
use Rattle.jc_typed.specs.declared.expressions.Joint.{Joint}
use Rattle.jc_typed.specs.declared.expressions.Printed.{Printed}
use Rattle.jc_typed.specs.declared.program.TypedProgram.{TypedProgram}
use Rattle.jc_typed.specs.Trees.{Form}
use Rattle.jc_typed.specs.Parts.{parts, type_of, types_of, constant_of, steps_of, step_over, captures_of, ops_of, expr_of, form_over, operand_of, operands_of, links_of, variable_of, declared_of}
use Rattle.jc_meaning.specs.declared.target.Target.{Target}
use Rattle.jc_meaning.specs.declared.target.Target.TheVariants.{ToStatic, ToField, ToElement}
use Rattle.jc_meaning.specs.Kept.{TypedRun, kept_by, typed_keeping, closed, closed_all}
use Rattle.jc_meaning.specs.Programs.{method_class, initialiser_of}
use Rattle.jc_meaning.specs.Expressions as e
use Rattle.jc_meaning.specs.Statements as s
use Rattle.jc_meaning.specs.Calls as c
use Rattle.jc_meaning.specs.Classes as k
use Rattle.jc_meaning.specs.Steps as t
use Rattle.jc_pending.specs.Level as l
use Rattle.jc_pending.specs.declared.expressions.ExpressionTask.{ExpressionTask}
use Rattle.jc_pending.specs.declared.expressions.ExpressionTask.TheVariants as x
use Rattle.jc_pending.specs.declared.expressions.ValueTask.{ValueTask}
use Rattle.jc_pending.specs.declared.expressions.ValueTask.TheVariants as v
use Rattle.jc_pending.specs.declared.expressions.ValueToValue.{ValueToValue}
use Rattle.jc_pending.specs.declared.expressions.ValueToValue.TheVariants as vv
use Rattle.jc_pending.specs.declared.expressions.UseTodo.{UseTodo}
use Rattle.jc_pending.specs.declared.expressions.UseTodo.TheVariants as u
use Rattle.jc_pending.specs.declared.expressions.JoinTodo.{JoinTodo}
use Rattle.jc_pending.specs.declared.expressions.JoinTodo.TheVariants as j
use Rattle.jc_pending.specs.declared.expressions.ChangeTodo.{ChangeTodo}
use Rattle.jc_pending.specs.declared.expressions.ChangeTodo.TheVariants as h
use Rattle.jc_pending.specs.declared.expressions.ListTodo.{ListTodo}
use Rattle.jc_pending.specs.declared.expressions.ListTodo.TheVariants as i
use Rattle.jc_pending.specs.declared.expressions.ValuesTask.{ValuesTask}
use Rattle.jc_pending.specs.declared.expressions.ValuesTask.TheVariants as vs
use Rattle.jc_pending.specs.declared.expressions.ValuesToValues.{ValuesToValues}
use Rattle.jc_pending.specs.declared.expressions.ValuesToValues.TheVariants as ll
use Rattle.jc_pending.specs.declared.expressions.ValueToValues.{ValueToValues}
use Rattle.jc_pending.specs.declared.expressions.ValueToValues.TheVariants as vl
use Rattle.jc_pending.specs.declared.expressions.TargetTask.{TargetTask}
use Rattle.jc_pending.specs.declared.expressions.TargetTask.TheVariants as ts
use Rattle.jc_pending.specs.declared.expressions.ValueToTarget.{ValueToTarget}
use Rattle.jc_pending.specs.declared.expressions.ValueToTarget.TheVariants as vt
use Rattle.jc_pending.specs.declared.expressions.ValuesToTarget.{ValuesToTarget}
use Rattle.jc_pending.specs.declared.expressions.ValuesToTarget.TheVariants as lt
use Rattle.jc_pending.specs.declared.expressions.TargetToValue.{TargetToValue}
use Rattle.jc_pending.specs.declared.expressions.TargetToValue.TheVariants as tv
use Rattle.jc_pending.specs.declared.expressions.NothingTask.{NothingTask}
use Rattle.jc_pending.specs.declared.expressions.NothingTask.TheVariants as n
use Rattle.jc_pending.specs.declared.calls.CallTask.{CallTask}
use Rattle.jc_pending.specs.declared.calls.CallTask.TheVariants as call
use Rattle.jc_pending.specs.declared.calls.ClassTask.{ClassTask}
use Rattle.jc_pending.specs.declared.calls.ClassTask.TheVariants as class
use Rattle.jc_pending.specs.declared.calls.NothingToValue.{NothingToValue}
use Rattle.jc_pending.specs.declared.calls.NothingToValue.TheVariants as nv
use Rattle.jc_pending.specs.declared.calls.ValuesToValue.{ValuesToValue}
use Rattle.jc_pending.specs.declared.calls.ValuesToValue.TheVariants as lv
use Rattle.jc_pending.specs.declared.calls.NothingToNothing.{NothingToNothing}
use Rattle.jc_pending.specs.declared.calls.NothingToNothing.TheVariants as nn
use Rattle.jc_pending.specs.declared.statements.CompletionToValue.{CompletionToValue}
use Rattle.jc_pending.specs.declared.statements.CompletionToValue.TheVariants as cv
use Rattle.jc_pending.specs.declared.statements.ValueToNothing.{ValueToNothing}
use Rattle.jc_pending.specs.declared.statements.ValueToNothing.TheVariants as vn
use Rattle.jc_pending.specs.declared.statements.ValuesToNothing.{ValuesToNothing}
use Rattle.jc_pending.specs.declared.statements.ValuesToNothing.TheVariants as ln

module _ (P : TypedProgram) (ns : List Node) (d : ℕ) where
  -- operands, steps and operators by their places, over the meaning at the depth
  abbrev value_of : ℕ → TypedRun Value
  value_of at = e.value_of P (l.inner P d) (operand_of ns at)

  abbrev values : ℕ → TypedRun (List Value)
  values at = e.values P (l.inner P d) (operands_of ns at)

  abbrev steps : ℕ → Value → TypedRun Value
  steps at = l.steps P d (steps_of ns at)

  abbrev joined : Joint → Value → ℕ → TypedRun Value
  joined joint w right = e.joined P (l.inner P d) joint w (value_of right)

  abbrev assigned : Target → Value → TypedRun Value
  assigned = e.assigned P (l.inner P d)

  abbrev text_of : Printed → Value → TypedRun Value
  text_of = e.text_of P (l.inner P d)

  -- the test of a `for`
  abbrev pub test_of : ℕ → TypedRun Value
  test_of test = bind (values test) (λ vs. give (s.true_or P (l.inner P d) (l.run P d) d vs))

  -- a task that gives a value: an expression as a node or inside of it, or a part of one
  abbrev pub expression_task : ExpressionTask → TypedRun Value
  expression_task (x.Expr at) = (l.inner P d).expr (expr_of ns at)
  expression_task (x.Act at) = e.expr_act P (l.inner P d) (expr_of ns at)
  expression_task (x.Form place ty form) = e.form_of P (l.inner P d) place (type_of ns ty) (form_over (parts ns) form)
  expression_task (x.Operand at) = value_of at
  expression_task (x.Steps ss v) = steps ss v
  expression_task (x.Chain first links) = e.chain P (l.inner P d) (value_of first) (links_of ns links)
  expression_task (x.Joined joint left right) = joined joint left right
  expression_task (x.Text as_it v) = text_of as_it v
  expression_task (x.Read target) = e.read_target P (l.inner P d) target
  expression_task (x.Static f) = e.get_static P (l.inner P d) f
  expression_task (x.Test test) = test_of test

  -- a call, from one of the points on that it passes
  abbrev pub call_task : CallTask → TypedRun Value
  call_task (call.With kind m receiver args types) = e.call_with P (l.inner P d) kind m receiver args types
  call_task (call.Static m args types) = c.call_static P (l.body P d) m args types
  call_task (call.Direct m receiver args types) = c.call_direct P (l.body P d) m receiver args types
  call_task (call.Virtual m receiver args types) = c.call_virtual P (l.body P d) m receiver args types
  call_task (call.Run m locals frame) = in_frame locals frame (bind (l.body P d m) (c.answer_of P m))
  call_task (call.Answer m) = bind (l.body P d m) (c.answer_of P m)
  call_task (call.Ready m args types) = behind (l.ready P d (method_class P.table m)) (c.call_static P (l.body P d) m args types)

  -- each task that gives a value; lists of operands stand in reverse order
  abbrev pub value_task : ValueTask → TypedRun Value
  value_task (v.Expression t) = expression_task t
  value_task (v.Call t) = call_task t
  value_task (v.AllTrue back) = e.all_true P (l.inner P d) (l.operands_back ns back)
  value_task (v.AnyTrue back) = e.any_true P (l.inner P d) (l.operands_back ns back)
  value_task (v.FillWith a at back) = e.fill_with P (l.inner P d) a at (l.operands_back ns back)

  -- what follows a value that something is done with where it stands
  abbrev pub use_value : UseTodo → Value → TypedRun Value
  use_value (u.Noted place ty captures form) v =
      behind (e.capture P (l.inner P d) v (captures_of ns captures)) (e.noted P (l.inner P d) (e.is_noted P (l.inner P d) (form_over (parts ns) form)) place (type_of ns ty) v)
  use_value (u.Step step) v = t.step P (l.body P d) (l.ready P d) (step_over (parts ns) step) v
  use_value (u.Steps ss) v = steps ss v
  use_value (u.Field f) v = e.get_field P (l.inner P d) f v
  use_value (u.Index index) v = bind (value_of index) (e.get_element P (l.inner P d) v)
  use_value (u.Element array) v = e.get_element P (l.inner P d) array v
  use_value u.Length v = e.length_of P (l.inner P d) v
  use_value (u.Prefix ops) v = e.prefixes P (l.inner P d) (ops_of ns ops) v
  use_value (u.InstanceOf to) v = e.instance_of P (l.inner P d) to v
  use_value (u.Branches first second from up_to) v =
      behind (e.forget P (l.inner P d) from (up_to - from)) (e.if_true P (l.inner P d) v (value_of first) (value_of second))
  use_value (u.Assign target) v = assigned target v
  use_value (u.Store target ss) v = e.stored P (l.inner P d) target (steps_of ns ss) v
  use_value (u.Instead given) v = give given

  -- what follows an operand of an operator, or the string of one of string `+`
  abbrev pub join_value : JoinTodo → Value → TypedRun Value
  join_value (j.Link joint left right) v = bind (steps left v) (λ w. joined joint w right)
  join_value (j.Joining joint right) v = joined joint v right
  join_value (j.Operate op left) v = given (typed_keeping P.table) P.table P.known (operated op left v)
  join_value j.TextAgain v = behind (l.ready P d P.known.string) (l.call_static P d P.known.printing.of_object (v ∷ []))
  join_value (j.ConcatRight as_it right) v =
      bind (value_of right) (λ w. bind (text_of as_it w) (λ t. l.call_direct P d P.known.printing.concat v (t ∷ [])))
  join_value (j.ConcatText as_it left) v = bind (text_of as_it v) (λ t. l.call_direct P d P.known.printing.concat left (t ∷ []))
  join_value (j.Concat left) v = l.call_direct P d P.known.printing.concat left (v ∷ [])

  -- behind the value of `v` in `v op= e`, with its conversion, and with the value of the operator
  abbrev compound_into : ℕ → Target → Value → TypedRun Value
  compound_into into target z = bind (steps into z) (assigned target)

  abbrev compound_join : Joint → ℕ → ℕ → Target → Value → TypedRun Value
  compound_join joint right into target w = bind (joined joint w right) (compound_into into target)

  abbrev compound_note : Place → Ty → Joint → ℕ → ℕ → ℕ → Target → Value → TypedRun Value
  compound_note place ty joint left right into target v =
      bind (e.note P (l.inner P d) place ty v) (λ x. bind (steps left x) (compound_join joint right into target))

  -- .. and of `v` in `v++` and the like
  abbrev step_write : Bool → Target → Value → Value → TypedRun Value
  step_write is_prefix target before v = behind (e.write_target P (l.inner P d) target v) (give (if is_prefix then v else before))

  abbrev step_by : Op → ℕ → Bool → Target → Value → Value → TypedRun Value
  step_by op into is_prefix target before w =
      bind (given (typed_keeping P.table) P.table P.known (stepped op w)) (λ z. bind (steps into z) (step_write is_prefix target before))

  abbrev step_note : Place → Ty → Op → ℕ → ℕ → Bool → Target → Value → TypedRun Value
  step_note place ty op from into is_prefix target v =
      bind (e.note P (l.inner P d) place ty v) (λ x. bind (steps from x) (step_by op into is_prefix target v))

  -- what follows a value in a compound assignment, in `++` or in `--`
  abbrev pub change_value : ChangeTodo → Value → TypedRun Value
  change_value (h.CompoundNote place ty joint left right into target) v = compound_note place (type_of ns ty) joint left right into target v
  change_value (h.CompoundJoin joint right into target) v = compound_join joint right into target v
  change_value (h.CompoundInto into target) v = compound_into into target v
  change_value (h.StepNote place ty op from into is_prefix target) v = step_note place (type_of ns ty) op from into is_prefix target v
  change_value (h.StepBy op into is_prefix target before) v = step_by op into is_prefix target before v
  change_value (h.StepWrite is_prefix target before) v = step_write is_prefix target before v

  -- what follows an operand of `&&` and `||`, and an element of an array that is filled
  abbrev pub list_value : ListTodo → Value → TypedRun Value
  list_value (i.AllTrue back) v =
      e.if_true P (l.inner P d) v (e.all_true P (l.inner P d) (l.operands_back ns back)) (give (truth false))
  list_value (i.AnyTrue back) v =
      e.if_true P (l.inner P d) v (give (truth true)) (e.any_true P (l.inner P d) (l.operands_back ns back))
  list_value (i.FillWith a at back) v =
      behind (e.set_element P (l.inner P d) (Address a) (Whole (pos at)) v) (e.fill_with P (l.inner P d) a (suc at) (l.operands_back ns back))

  -- what follows a value and gives a value; behind a selected body its result is checked
  abbrev pub value_to_value : ValueToValue → Value → TypedRun Value
  value_to_value (vv.Use t) v = use_value t v
  value_to_value (vv.Join t) v = join_value t v
  value_to_value (vv.Change t) v = change_value t v
  value_to_value (vv.List t) v = list_value t v
  value_to_value (vv.Answered m own) v = c.answered P (result_of P.table m) (result_of P.table own) v

  -- the values of operands, and what appends a further one to them
  abbrev pub values_task : ValuesTask → TypedRun (List Value)
  values_task (vs.Operands at) = values at

  abbrev pub values_to_values : ValuesToValues → List Value → TypedRun (List Value)
  values_to_values (ll.Last last) vs = bind (value_of last) (λ v. give (vs ++ v ∷ []))

  abbrev pub value_to_values : ValueToValues → Value → TypedRun (List Value)
  value_to_values (vl.Append vs) v = give (vs ++ v ∷ [])

  -- the parts of a variable, and what follows the values of these parts
  abbrev pub target_task : TargetTask → TypedRun Target
  target_task (ts.Variable at) = e.target_of P (l.inner P d) (variable_of ns at)

  abbrev pub value_to_target : ValueToTarget → Value → TypedRun Target
  value_to_target (vt.Field f) v = give (ToField v f)
  value_to_target (vt.Index index) v = bind (value_of index) (λ i. give (ToElement v i))
  value_to_target (vt.Element array) v = give (ToElement array v)

  abbrev pub values_to_target : ValuesToTarget → List Value → TypedRun Target
  values_to_target (lt.Static f) vs = give (ToStatic f)

  -- what follows the parts of a variable that is assigned or changed
  abbrev pub target_to_value : TargetToValue → Target → TypedRun Value
  target_to_value (tv.Assign value store) t = bind (value_of value) (e.stored P (l.inner P d) t (steps_of ns store))
  target_to_value (tv.Compound place ty joint left right into) t =
      bind (e.read_target P (l.inner P d) t) (compound_note place (type_of ns ty) joint left right into t)
  target_to_value (tv.Step place ty op from into is_prefix) t =
      bind (e.read_target P (l.inner P d) t) (step_note place (type_of ns ty) op from into is_prefix t)

  -- the use of a class, from one of the points of its initialisation on (JLS 12.4.2)
  abbrev pub class_task : ClassTask → TypedRun (Unit {0})
  class_task (class.Ready of_it) = l.ready P d of_it
  class_task (class.First of_it) = l.first_use P d of_it
  class_task (class.Initialise of_it) = k.initialise P (l.body P d) (l.ready P d) of_it
  class_task (class.Superclass of_it) = k.superclass_first P (l.ready P d) of_it
  class_task (class.Initialiser of_it) = k.run_initialiser P (l.body P d) (initialiser_of P.table of_it)

  -- a task that gives nothing: a store, a declaration, an update, or the use of a class
  abbrev pub nothing_task : NothingTask → TypedRun (Unit {0})
  nothing_task (n.Write target v) = e.write_target P (l.inner P d) target v
  nothing_task (n.Store target ss v) = bind (steps ss v) (e.write_target P (l.inner P d) target)
  nothing_task (n.SetStatic f v) = e.set_static P (l.inner P d) f v
  nothing_task (n.Declare declared) = s.declare P (l.inner P d) (l.run P d) d (declared_of ns declared)
  nothing_task (n.Take place ty captures ss at v) =
      s.take_element P (l.inner P d) (l.run P d) d place (type_of ns ty) (captures_of ns captures) (steps_of ns ss) at v
  nothing_task (n.Update update) = behind (values update) (give tt)
  nothing_task (n.Class t) = class_task t

  -- behind the arguments of a creation the object gets its type, and the constructor runs (JLS 15.9.4)
  abbrev construct : ℕ → MethodId → ℕ → List Value → TypedRun Value
  construct ty m a vs =
      bind (closed (type_of ns ty)) (λ t.
      behind (e.set_type P (l.inner P d) a (method_class P.table m) (kept_by P.table t))
      (behind (l.call_direct P d m (Address a) vs) (give (Address a))))

  -- what follows a class that is ready, or a store
  abbrev pub nothing_to_value : NothingToValue → TypedRun Value
  nothing_to_value (nv.Static f) = look (λ state. slice_get state.statics f.0)
  nothing_to_value (nv.Text as_it v) =
      bind (l.call_static P d (e.printer_of P (l.inner P d) P.known.printing as_it) (v ∷ []))
      (λ t. behind (l.ready P d P.known.string) (l.call_static P d P.known.printing.of_object (t ∷ [])))
  nothing_to_value (nv.Give v) = give v
  nothing_to_value (nv.Create ty m args) =
      bind (e.new_object P (l.inner P d) (method_class P.table m)) (λ a. bind (values args) (construct ty m a))
  nothing_to_value (nv.Call m args types) = c.call_static P (l.body P d) m args types

  -- what follows the values of operands and gives a value
  abbrev pub values_to_value : ValuesToValue → List Value → TypedRun Value
  values_to_value (lv.Constant value) vs = e.constant_value P (l.inner P d) (constant_of ns value)
  values_to_value (lv.Static f) vs = e.get_static P (l.inner P d) f
  values_to_value (lv.Args kind m type_args args) vs =
      bind (values args) (λ ws. bind (closed_all (types_of ns type_args)) (e.call_with P (l.inner P d) kind m vs ws))
  values_to_value (lv.Call kind m type_args receiver) vs =
      bind (closed_all (types_of ns type_args)) (e.call_with P (l.inner P d) kind m receiver vs)
  values_to_value (lv.Construct ty m a) vs = construct ty m a vs
  values_to_value (lv.NewArray ty) vs =
      bind (e.lengths_of P (l.inner P d) vs) (λ ns'. bind (closed (type_of ns ty)) (λ t. e.arrays P (l.inner P d) t ns'))
  values_to_value lv.Test vs = give (s.true_or P (l.inner P d) (l.run P d) d vs)

  -- what follows a body: its result
  abbrev pub completion_to_value : CompletionToValue → Completion → TypedRun Value
  completion_to_value (cv.Answer m) done = c.answer_of P m done

  -- what follows a class that is ready, or the declarations before the last one
  abbrev pub nothing_to_nothing : NothingToNothing → TypedRun (Unit {0})
  nothing_to_nothing (nn.PutStatic f v) = change (λ state. record state { statics = slice_set state.statics f.0 v })
  nothing_to_nothing (nn.DeclareLast n value) = bind (values value) (s.set_first P (l.inner P d) (l.run P d) d n)

  -- what follows a value or values that go into a variable, or are dropped
  abbrev pub value_to_nothing : ValueToNothing → Value → TypedRun (Unit {0})
  value_to_nothing vn.Drop v = give tt
  value_to_nothing (vn.SetLocal n) v = set_local n v
  value_to_nothing (vn.Write target) v = e.write_target P (l.inner P d) target v

  abbrev pub values_to_nothing : ValuesToNothing → List Value → TypedRun (Unit {0})
  values_to_nothing ln.Drop vs = give tt
  values_to_nothing (ln.SetFirst n) vs = s.set_first P (l.inner P d) (l.run P d) d n vs
