-- What statements do (JLS 14).
use Rattle.std.specs.Prelude.{ℕ, suc, ◌==◌, ℤ, pos, Bool, true, false, List, [], ◌∷◌, drop, Option, Some, None, if◌then◌else◌, int_lt}
use Rattle.jc_types.specs.declared.ids.FieldId.{FieldId}
use Rattle.jc_types.specs.declared.form.Ty.{Ty}
use Rattle.jc_types.specs.declared.erased.Erased.{Erased}
use Rattle.jc_running.specs.declared.value.Value.{Value}
use Rattle.jc_running.specs.declared.value.Value.TheVariants.{Whole, Address, Null}
use Rattle.jc_running.specs.declared.value.Completion.{Completion}
use Rattle.jc_running.specs.declared.value.Completion.TheVariants.{Normal, Broke, Continued, Returned}
use Rattle.jc_running.specs.declared.value.Turn.{Turn}
use Rattle.jc_running.specs.declared.value.Turn.TheVariants.{Again, Last}
use Rattle.jc_running.specs.Outcomes.{give, throw, wrong, both_ways, bind, behind, next, instead, broken, turns}
use Rattle.jc_heaps.specs.States.{some_or_wrong, local, set_local, object_at}
use Rattle.jc_heaps.specs.Numbers.{int_eq, whole_of}
use Rattle.jc_heaps.specs.Classes.{is_of}
use Rattle.jc_heaps.specs.Layout.{is_static}
use Rattle.jc_heaps.specs.Making.{Keeping, address_of}
use Rattle.jc_erased.specs.declared.program.ErasedProgram.{ErasedProgram}
use Rattle.jc_typed.specs.Trees.{Case, Step, Declared, NoDeclared, MoreDeclared, Stmt, stmt, StmtForm, Empty, Block, Locals, Effect, If, Labelled, While, Do, For, ForArray, ForIterable, Switch, Return, Break, Continue, Throw, Try, Construct, Initialise, Arms, NoArms, MoreArms, Catches, NoCatches, MoreCatches}
use Rattle.jc_erased.specs.Programs.{ErasedRun, erased_keeping, erased_type}
use Rattle.jc_meaning.specs.Programs.{stmt_list}
use Rattle.jc_erased.specs.Calls.{call_virtual, call_direct}
use Rattle.jc_erased.specs.Steps.{steps}
use Rattle.jc_erased.specs.Expressions.{Inner, value_of, values, choose, if_true, set_field, set_static, get_element, length_of}

module _ (P : ErasedProgram) (r : Inner) (run : Stmt → ErasedRun Completion) (k : ℕ) where
  abbrev keeping : Keeping Erased
  keeping = erased_keeping

  -- one statement after the other (JLS 14.2)
  abbrev pub run_all : List Stmt → ErasedRun Completion
  run_all [] = give Normal
  run_all (s ∷ ss) = bind (run s) (λ c. next c (run_all ss))

  -- a declared variable gets the value of its initialiser, if it has one (JLS 14.4.4), and else stays as it is
  abbrev pub set_first : ℕ → List Value → ErasedRun (Unit {0})
  set_first n [] = give tt
  set_first n (v ∷ vs) = set_local n v

  -- the declared variables of a statement, from the first one on
  abbrev pub declare : Declared → ErasedRun (Unit {0})
  declare NoDeclared = give tt
  declare (MoreDeclared before place n value) = behind (declare before) (bind (values P r value) (set_first n))

  -- tests of an `if` from the first one on, and what follows where none holds (JLS 14.9)
  abbrev pub if_any : Arms → ErasedRun Completion → ErasedRun Completion
  if_any NoArms other = other
  if_any (MoreArms before test body) other =
      if_any before (bind (value_of P r test) (λ v. if_true P r v (run body) other))

  -- a turn of a loop ends with its body: a `break` of the loop ends it, a `continue` of it goes on (JLS 14.12.1, 14.16)
  abbrev pub after_body : {I : Type 0} → ℕ → Completion → ErasedRun (Turn I) → ErasedRun (Turn I)
  after_body own Normal go_on = go_on
  after_body own (Broke t) go_on = if t == own then give (Last Normal) else give (Last (Broke t))
  after_body own (Continued t) go_on = if t == own then go_on else give (Last (Continued t))
  after_body own (Returned v) go_on = give (Last (Returned v))

  -- another turn, and the end of a loop whose test doesn't hold
  abbrev pub again : ErasedRun (Turn (Unit {0}))
  again = give (Again tt)

  abbrev pub ended : {I : Type 0} → ErasedRun (Turn I)
  ended = give (Last Normal)

  -- a turn of `while` and `for`, with the test first and the update last, and one of `do`, with the test last (JLS 14.12 to 14.14)
  abbrev pub while_turn : ℕ → ErasedRun Value → ErasedRun Completion → ErasedRun (Unit {0}) → ErasedRun (Turn (Unit {0}))
  while_turn own test body update =
      bind test (λ v. if_true P r v (bind body (λ c. after_body own c (behind update again))) ended)

  abbrev pub do_turn : ℕ → ErasedRun Completion → ErasedRun Value → ErasedRun (Turn (Unit {0}))
  do_turn own body test = bind body (λ c. after_body own c (bind test (λ v. if_true P r v again ended)))

  -- turns whose number is bounded by the depth
  abbrev pub loop : (Unit {0} → ErasedRun (Turn (Unit {0}))) → ErasedRun Completion
  loop turn = turns k turn tt

  -- a test that isn't written holds (JLS 14.14.1.2)
  abbrev pub true_or : List Value → Value
  true_or [] = Whole (pos 1)
  true_or (v ∷ vs) = v

  -- An element goes into the variable of an enhanced `for` as it is converted (JLS 14.14.2)
  abbrev pub take_element : List Step → ℕ → Value → ErasedRun (Unit {0})
  take_element ss n v = bind (steps P r.body r.ready ss v) (set_local n)

  -- whether an index is less than the length of the array
  abbrev pub is_before : ℕ → Value → ErasedRun Bool
  is_before i (Whole n) = give (int_lt (pos i) n)
  is_before i _ = wrong

  -- a turn of an enhanced `for` at an index of an array, and one over an iterator (JLS 14.14.2); the length is read at each turn
  abbrev pub array_turn : ℕ → Value → (Value → ErasedRun (Unit {0})) → ErasedRun Completion → ℕ → ErasedRun (Turn ℕ)
  array_turn own array take body i =
      bind (length_of P r array) (λ n.
      bind (is_before i n) (λ more.
      choose P r more
      (bind (get_element P r array (Whole (pos i))) (λ v.
      behind (take v) (bind body (λ c. after_body own c (give (Again (suc i)))))))
      ended))

  abbrev pub iterator_turn : ℕ → Value → (Value → ErasedRun (Unit {0})) → ErasedRun Completion → ErasedRun (Turn (Unit {0}))
  iterator_turn own iterator take body =
      bind (call_virtual P r.body P.known.iterating.has_next iterator []) (λ more.
      if_true P r more
      (bind (call_virtual P r.body P.known.iterating.next iterator []) (λ v.
      behind (take v) (bind body (λ c. after_body own c again))))
      ended)

  -- how many statements of a `switch` stand before the label of a number, or else before `default`, if there is one (JLS 14.11)
  abbrev pub is_key : ℤ → Option ℤ → Bool
  is_key n (Some key) = int_eq n key
  is_key n None = false

  abbrev pub labelled : ℤ → List Case → Option ℕ
  labelled n [] = None
  labelled n (c ∷ cs) = if is_key n c.key then Some c.skips else labelled n cs

  abbrev pub is_default : Option ℤ → Bool
  is_default (Some key) = false
  is_default None = true

  abbrev pub default_in : List Case → Option ℕ
  default_in [] = None
  default_in (c ∷ cs) = if is_default c.key then Some c.skips else default_in cs

  abbrev pub or_else : Option ℕ → Option ℕ → Option ℕ
  or_else (Some n) other = Some n
  or_else None other = other

  -- the statements behind the label; none where there is no label
  abbrev pub run_from : List Stmt → Option ℕ → ErasedRun Completion
  run_from ss None = give Normal
  run_from ss (Some n) = run_all (drop n ss)

  abbrev pub switched : List Case → List Stmt → ℤ → ErasedRun Completion
  switched cases ss n = run_from ss (or_else (labelled n cases) (default_in cases))

  -- the value behind `return`
  abbrev pub value_or_null : List Value → Value
  value_or_null [] = Null
  value_or_null (v ∷ vs) = v

  -- The first catch clause one of whose alternatives the exception is of, with the exception in its variable (JLS 14.20.1)
  abbrev pub is_any_of : Erased → List Ty → Bool
  is_any_of e [] = false
  is_any_of e (t ∷ ts) = if is_of P.table e (erased_type P t) then true else is_any_of e ts

  -- the clauses from the first one on; where none takes the exception, `other` is done
  abbrev pub caught : Catches → ℕ → Erased → ErasedRun Completion → ErasedRun Completion
  caught NoCatches a e other = other
  caught (MoreCatches before place n types body) a e other =
      caught before a e (if is_any_of e types then behind (set_local n (Address a)) (run body) else other)

  abbrev pub catch : Catches → ℕ → ErasedRun Completion
  catch catches a = bind (object_at a) (λ o. caught catches a (o.kept) (throw a))

  -- a block with its catch clauses
  abbrev pub try : Stmt → Catches → ErasedRun Completion
  try body catches = both_ways (run body) give (catch catches)

  -- A finally block runs behind the rest, however that ended; what it completes with comes in place of that, unless it completes
  -- normally (JLS 14.20.2)
  abbrev pub finally : ErasedRun Completion → List Stmt → ErasedRun Completion
  finally m [] = m
  finally m (s ∷ ss) =
      both_ways m (λ c. bind (run_all (s ∷ ss)) (λ d. instead d (give c)))
      (λ a. bind (run_all (s ∷ ss)) (λ d. instead d (throw a)))

  -- a field's initialiser sets the static field, or that of this object
  abbrev pub initialise : FieldId → Value → ErasedRun (Unit {0})
  initialise f v = if is_static P.table f then set_static P r f v else bind (local 0) (λ o. set_field P r f o v)

  -- a computation whose value is dropped, so that it completes normally
  abbrev pub normally : {A : Type 0} → ErasedRun A → ErasedRun Completion
  normally m = behind m (give Normal)

  -- what a statement does, by its kind
  abbrev pub form_act : StmtForm → ErasedRun Completion
  form_act Empty = give Normal
  form_act (Block ss) = run_all (stmt_list ss)
  form_act (Locals declared) = normally (declare declared)
  form_act (Effect of_it) = normally (value_of P r of_it)
  form_act (If arms other) = if_any arms (run_all (stmt_list other))
  form_act (Labelled target body) = bind (run body) (λ c. give (broken target c))
  form_act (While target test body) = loop (λ i. while_turn target (value_of P r test) (run body) (give tt))
  form_act (Do target body test) = loop (λ i. do_turn target (run body) (value_of P r test))
  form_act (For target declared before test update body) =
      behind (declare declared) (behind (values P r before)
      (loop (λ i. while_turn target (bind (values P r test) (λ vs. give (true_or vs))) (run body) (behind (values P r update) (give tt)))))
  form_act (ForArray target of_it ty captures ss n body) =
      bind (value_of P r of_it) (λ array. turns k (array_turn target array (take_element ss n) (run body)) 0)
  form_act (ForIterable target of_it ty captures ss n body) =
      bind (value_of P r of_it) (λ v.
      bind (call_virtual P r.body P.known.iterating.iterator v []) (λ iterator.
      loop (λ i. iterator_turn target iterator (take_element ss n) (run body))))
  form_act (Switch target of_it cases ss) =
      bind (value_of P r of_it) (λ v. bind (some_or_wrong (whole_of v)) (λ n.
      bind (switched cases (stmt_list ss) n) (λ c. give (broken target c))))
  form_act (Return value) = bind (values P r value) (λ vs. give (Returned (value_or_null vs)))
  form_act (Break target) = give (Broke target)
  form_act (Continue target) = give (Continued target)
  form_act (Throw of_it) = bind (value_of P r of_it) (λ v. bind (address_of keeping P.table P.known v) throw)
  form_act (Try body catches last copies) = finally (try body catches) (stmt_list last)
  form_act (Construct m args phase thrown is_raw) =
      bind (values P r args) (λ vs. bind (local 0) (λ o. normally (call_direct P r.body m o vs)))
  form_act (Initialise f value) = bind (value_of P r value) (λ v. normally (initialise f v))

  abbrev pub stmt_act : Stmt → ErasedRun Completion
  stmt_act (stmt place form) = form_act form
