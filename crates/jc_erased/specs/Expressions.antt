-- What expressions do (JLS 15).
use Rattle.std.specs.Prelude.{ℕ, zero, suc, pos, Bool, true, false, List, [], ◌∷◌, length, replicate, slice_get, slice_set, if◌then◌else◌, int_lt, unsigned_abs}
use Rattle.jc_types.specs.declared.ids.ClassId.{ClassId}
use Rattle.jc_types.specs.declared.ids.FieldId.{FieldId}
use Rattle.jc_types.specs.declared.ids.MethodId.{MethodId}
use Rattle.jc_types.specs.declared.form.Ty.{Ty}
use Rattle.jc_types.specs.declared.constant.Constant.{Constant}
use Rattle.jc_types.specs.declared.constant.Constant.TheVariants as constant
use Rattle.jc_types.specs.declared.constant.Op.{Op}
use Rattle.jc_types.specs.declared.erased.Erased.{Erased}
use Rattle.jc_types.specs.declared.erased.Base.TheVariants as base
use Rattle.jc_types.specs.Erasing.{plain}
use Rattle.jc_types.specs.declared.table.Table.{Table}
use Rattle.jc_running.specs.declared.value.Value.{Value}
use Rattle.jc_running.specs.declared.value.Value.TheVariants.{Whole, Address, Null as NullValue}
use Rattle.jc_running.specs.Outcomes.{give, wrong, bind, behind}
use Rattle.jc_heaps.specs.States.{look, change, some_or_wrong, local, set_local, object_at, set_part}
use Rattle.jc_heaps.specs.Numbers.{truth, number_as, operated, prefixed, stepped, boolean_of, whole_of}
use Rattle.jc_heaps.specs.Classes.{element_of}
use Rattle.jc_heaps.specs.Layout.{field_class, slot_of, default_erased, new_fields}
use Rattle.jc_heaps.specs.Making.{Keeping, make, raise, constant_string, address_of, place_of, passes, store, given}
use Rattle.jc_typed.specs.declared.expressions.CallKind.{CallKind}
use Rattle.jc_typed.specs.declared.expressions.CallKind.TheVariants.{Static, Virtual, Direct}
use Rattle.jc_typed.specs.declared.expressions.Joint.{Joint}
use Rattle.jc_typed.specs.declared.expressions.Joint.TheVariants.{Operator, Concat}
use Rattle.jc_typed.specs.declared.expressions.Printed.{Printed}
use Rattle.jc_typed.specs.declared.expressions.Printed.TheVariants as printed
use Rattle.jc_typed.specs.declared.program.Printing.{Printing}
use Rattle.jc_erased.specs.declared.program.ErasedProgram.{ErasedProgram}
use Rattle.jc_typed.specs.Trees.{Step, Expr, NoExpr, expr, Operand, NoOperand, operand, Form, Fixed, Null, Local, This, StaticField, Field, Element, Length, Prefix, Chain, AllOf, AnyOf, InstanceOf, Conditional, Assign, Compound, Change, Call, New, NewArray, ArrayOf, Cast, Variable, LocalVariable, StaticVariable, FieldVariable, ElementVariable, Operands, Links, NoLinks, MoreLinks}
use Rattle.jc_meaning.specs.declared.target.Target.{Target}
use Rattle.jc_meaning.specs.declared.target.Target.TheVariants.{ToLocal, ToStatic, ToField, ToElement}
use Rattle.jc_meaning.specs.Programs.{operand_list, method_class}
use Rattle.jc_erased.specs.Programs.{ErasedRun, erased_keeping, erased_type}
use Rattle.jc_erased.specs.Calls.{Bodies, call_static, call_direct, call_virtual}
use Rattle.jc_erased.specs.Steps.{Ready, steps}

-- What a form's parts do, one level down: expressions, bodies of methods, and the initialisation of classes
pub record Inner : Type 0 where
  pub expr : Expr → ErasedRun Value
  pub body : Bodies
  pub ready : Ready

module _ (P : ErasedProgram) (r : Inner) where
  abbrev T : Table
  T = P.table

  abbrev keeping : Keeping Erased
  keeping = erased_keeping

  -- an expression, and then what is done with its value where it stands
  abbrev pub value_of : Operand → ErasedRun Value
  value_of NoOperand = wrong
  value_of (operand place of_it ss) = bind (r.expr of_it) (steps P r.body r.ready ss)

  -- from left to right (JLS 15.7.1, 15.12.4.2)
  abbrev pub values_of : List Operand → ErasedRun (List Value)
  values_of [] = give []
  values_of (o ∷ os) = bind (value_of o) (λ v. bind (values_of os) (λ vs. give (v ∷ vs)))

  -- the same of a list of operands as a tree holds it
  abbrev pub values : Operands → ErasedRun (List Value)
  values os = values_of (operand_list os)

  -- the first computation where the boolean is true, and else the second; a value that is a long or a reference is wrong
  abbrev pub choose : {A : Type 0} → Bool → ErasedRun A → ErasedRun A → ErasedRun A
  choose true m n = m
  choose false m n = n

  abbrev pub if_true : {A : Type 0} → Value → ErasedRun A → ErasedRun A → ErasedRun A
  if_true v m n = bind (some_or_wrong (boolean_of v)) (λ b. choose b m n)

  -- A constant (JLS 15.28): equal strings are one object
  abbrev pub constant_value : Constant → ErasedRun Value
  constant_value (constant.Whole n of_it) = give (number_as of_it n)
  constant_value (constant.Text units) = constant_string keeping T P.known units

  -- A static field, whose class is initialised first (JLS 12.4.1)
  abbrev pub get_static : FieldId → ErasedRun Value
  get_static f = behind (r.ready (field_class T f)) (look (λ s. slice_get s.statics f.0))

  -- .. and its change
  abbrev pub set_static : FieldId → Value → ErasedRun (Unit {0})
  set_static f v = behind (r.ready (field_class T f)) (change (λ s. record s { statics = slice_set s.statics f.0 v }))

  -- A field of an object; null throws (JLS 15.11.1)
  abbrev pub get_field : FieldId → Value → ErasedRun Value
  get_field f v =
      bind (address_of keeping T P.known v) (λ a.
      bind (object_at a) (λ o.
      bind (some_or_wrong (slot_of T f)) (λ slot. some_or_wrong (slice_get o.parts slot))))

  -- .. and its change
  abbrev pub set_field : FieldId → Value → Value → ErasedRun (Unit {0})
  set_field f of_it v =
      bind (address_of keeping T P.known of_it) (λ a.
      bind (some_or_wrong (slot_of T f)) (λ slot. set_part a slot v))

  -- An element; null throws, and so does a place outside of the array (JLS 15.13.1)
  abbrev pub get_element : Value → Value → ErasedRun Value
  get_element array index =
      bind (address_of keeping T P.known array) (λ a.
      bind (object_at a) (λ o.
      bind (place_of keeping T P.known o index) (λ n. some_or_wrong (slice_get o.parts n))))

  -- .. and its change, which tests that an array of references can have the value (JLS 10.5)
  abbrev pub set_element : Value → Value → Value → ErasedRun (Unit {0})
  set_element array index v =
      bind (address_of keeping T P.known array) (λ a.
      bind (object_at a) (λ o.
      bind (place_of keeping T P.known o index) (λ n. store keeping T P.known a o n v)))

  -- the length of an array; null throws (JLS 10.7, 15.11.1)
  abbrev pub length_of : Value → ErasedRun Value
  length_of array =
      bind (address_of keeping T P.known array) (λ a.
      bind (object_at a) (λ o. give (Whole (pos (length o.parts)))))

  -- Prefix operators, the innermost first (JLS 15.15)
  abbrev pub prefixes : List Op → Value → ErasedRun Value
  prefixes [] v = give v
  prefixes (op ∷ ops) v = bind (prefixes ops v) (λ w. given keeping T P.known (prefixed op w))

  -- An operand of string `+` as a string (JLS 5.1.11, 15.18.1): `String.valueOf` of it, and `String.valueOf` of what that gives, so
  -- that no null is left
  abbrev pub printer_of : Printing → Printed → MethodId
  printer_of p printed.Boolean = p.of_boolean
  printer_of p printed.Char = p.of_char
  printer_of p printed.Int = p.of_int
  printer_of p printed.Long = p.of_long
  printer_of p printed.Reference = p.of_object

  -- by the two calls, for each of which String is initialised first
  abbrev pub text_of : Printed → Value → ErasedRun Value
  text_of as_it v =
      behind (r.ready P.known.string)
      (bind (call_static P r.body (printer_of P.known.printing as_it) (v ∷ []))
      (λ t. behind (r.ready P.known.string) (call_static P r.body P.known.printing.of_object (t ∷ []))))

  -- One operator: the left value is there, the right one comes next. The string of the left operand of string `+` is made before
  -- the right operand is evaluated
  abbrev pub joined : Joint → Value → ErasedRun Value → ErasedRun Value
  joined (Operator op) v right = bind right (λ w. given keeping T P.known (operated op v w))
  joined (Concat left_as right_as) v right =
      bind (text_of left_as v) (λ s.
      bind right (λ w.
      bind (text_of right_as w) (λ t. call_direct P r.body P.known.printing.concat s (t ∷ []))))

  -- A chain of operators groups to the left (JLS 15.7.3)
  abbrev pub chain : ErasedRun Value → Links → ErasedRun Value
  chain first NoLinks = first
  chain first (MoreLinks before joint left right) =
      bind (chain first before) (λ v. bind (steps P r.body r.ready left v) (λ w. joined joint w (value_of right)))

  -- `&&` and `||` evaluate an operand only where those before it don't tell the value (JLS 15.23, 15.24)
  abbrev pub all_true : List Operand → ErasedRun Value
  all_true [] = give (truth true)
  all_true (o ∷ os) = bind (value_of o) (λ v. if_true v (all_true os) (give (truth false)))

  abbrev pub any_true : List Operand → ErasedRun Value
  any_true [] = give (truth false)
  any_true (o ∷ os) = bind (value_of o) (λ v. if_true v (give (truth true)) (any_true os))

  -- `instanceof`: null is an instance of nothing (JLS 15.20.2)
  abbrev pub instance_of : Erased → Value → ErasedRun Value
  instance_of to NullValue = give (truth false)
  instance_of to v = bind (passes keeping T to v) (λ b. give (truth b))

  -- the parts of a variable, from left to right (JLS 15.26.1)
  abbrev pub target_of : Variable → ErasedRun Target
  target_of (LocalVariable place n) = give (ToLocal n)
  target_of (StaticVariable place before f is_simple) = behind (values before) (give (ToStatic f))
  target_of (FieldVariable place of_it f is_raw) = bind (value_of of_it) (λ v. give (ToField v f))
  target_of (ElementVariable place array index) = bind (value_of array) (λ a. bind (value_of index) (λ i. give (ToElement a i)))

  -- the value that a variable has, and another value for it
  abbrev pub read_target : Target → ErasedRun Value
  read_target (ToLocal n) = local n
  read_target (ToStatic f) = get_static f
  read_target (ToField of_it f) = get_field f of_it
  read_target (ToElement array index) = get_element array index

  abbrev pub write_target : Target → Value → ErasedRun (Unit {0})
  write_target (ToLocal n) v = set_local n v
  write_target (ToStatic f) v = set_static f v
  write_target (ToField of_it f) v = set_field f of_it v
  write_target (ToElement array index) v = set_element array index v

  -- an assignment's value is what was stored; where guards stand at the store, the value is what goes into them
  abbrev pub assigned : Target → Value → ErasedRun Value
  assigned t v = behind (write_target t v) (give v)

  abbrev pub stored : Target → List Step → Value → ErasedRun Value
  stored t guards v = behind (bind (steps P r.body r.ready guards v) (write_target t)) (give v)

  -- `++` and `--`: the value before the change, or behind it
  abbrev pub changed : Target → List Step → Bool → Value → Value → ErasedRun Value
  changed t into is_prefix before w =
      bind (steps P r.body r.ready into w) (λ v. behind (write_target t v) (give (if is_prefix then v else before)))

  -- what a call of a method does with a receiver and arguments
  abbrev pub first_value : List Value → ErasedRun Value
  first_value [] = wrong
  first_value (v ∷ vs) = give v

  -- a static call initialises the class first (JLS 12.4.1); for the others the first value of the receiver is the object
  abbrev pub call_with : CallKind → MethodId → List Value → List Value → ErasedRun Value
  call_with Static m receiver args = behind (r.ready (method_class T m)) (call_static P r.body m args)
  call_with Virtual m receiver args = bind (first_value receiver) (λ v. call_virtual P r.body m v args)
  call_with Direct m receiver args = bind (first_value receiver) (λ v. call_direct P r.body m v args)

  -- A creation: the class is initialised, the object made, the arguments evaluated, and the constructor run (JLS 12.5, 15.9.4)
  abbrev pub new_object : ClassId → ErasedRun ℕ
  new_object k = make (record { kept = plain (base.Class k); parts = new_fields T k })

  abbrev pub create : MethodId → Operands → ErasedRun Value
  create m args =
      behind (r.ready (method_class T m))
      (bind (new_object (method_class T m)) (λ a.
      bind (values args) (λ vs.
      behind (call_direct P r.body m (Address a) vs) (give (Address a)))))

  -- a new array of an array type, with that many elements as new
  abbrev pub new_array : Erased → ℕ → ErasedRun ℕ
  new_array e n = make (record { kept = e; parts = replicate n (default_erased (element_of e)) })

  -- An array of several lengths is made outer first, and then each of its elements from left to right (JLS 15.10.1)
  abbrev pub fill : ℕ → ℕ → ℕ → ErasedRun Value → ErasedRun (Unit {0})
  fill a at zero m = give tt
  fill a at (suc n) m = behind (bind m (set_part a at)) (fill a (suc at) n m)

  -- .. by the lengths that are left; with the last one the elements are as new
  abbrev pub arrays : Erased → List ℕ → ErasedRun Value
  arrays e [] = give NullValue
  arrays e (n ∷ []) = bind (new_array e n) (λ a. give (Address a))
  arrays e (n ∷ m ∷ ns) =
      bind (new_array e n) (λ a. behind (fill a 0 n (arrays (element_of e) (m ∷ ns))) (give (Address a)))

  -- the lengths, all of which are tested before an array is made
  abbrev pub lengths_of : List Value → ErasedRun (List ℕ)
  lengths_of [] = give []
  lengths_of (v ∷ vs) =
      bind (some_or_wrong (whole_of v)) (λ n.
      choose (int_lt n (pos 0)) (raise keeping T P.known.thrown.negative_size)
      (bind (lengths_of vs) (λ ns. give (unsigned_abs n ∷ ns))))

  -- The elements of an array that is there already, each stored before the next one is evaluated (JLS 10.6, 15.12.4.2)
  abbrev pub fill_with : ℕ → ℕ → List Operand → ErasedRun Value
  fill_with a at [] = give (Address a)
  fill_with a at (o ∷ os) =
      bind (value_of o) (λ v. behind (set_element (Address a) (Whole (pos at)) v) (fill_with a (suc at) os))

  -- what a form does, by its kind; `ty` is the static type of the expression
  abbrev pub form_of : Ty → Form → ErasedRun Value
  form_of ty (Fixed before value named casts) = behind (values before) (constant_value value)
  form_of ty Null = give NullValue
  form_of ty (Local n) = local n
  form_of ty This = local 0
  form_of ty (StaticField before f is_simple) = behind (values before) (get_static f)
  form_of ty (Field of_it f) = bind (value_of of_it) (get_field f)
  form_of ty (Element array index) = bind (value_of array) (λ a. bind (value_of index) (get_element a))
  form_of ty (Length array) = bind (value_of array) length_of
  form_of ty (Prefix ops of_it) = bind (value_of of_it) (prefixes ops)
  form_of ty (Chain first links) = chain (value_of first) links
  form_of ty (AllOf os from up_to) = all_true (operand_list os)
  form_of ty (AnyOf os from up_to) = any_true (operand_list os)
  form_of ty (InstanceOf of_it to) = bind (value_of of_it) (instance_of to)
  form_of ty (Conditional test first second from up_to) = bind (value_of test) (λ v. if_true v (value_of first) (value_of second))
  form_of ty (Assign variable value store) =
      bind (target_of variable) (λ t. bind (value_of value) (stored t store))
  form_of ty (Compound variable joint left right into) =
      bind (target_of variable) (λ t.
      bind (read_target t) (λ v.
      bind (steps P r.body r.ready left v) (λ w.
      bind (joined joint w (value_of right)) (λ z.
      bind (steps P r.body r.ready into z) (assigned t)))))
  form_of ty (Change variable op from into is_prefix) =
      bind (target_of variable) (λ t.
      bind (read_target t) (λ v.
      bind (steps P r.body r.ready from v) (λ w.
      bind (given keeping T P.known (stepped op w)) (changed t into is_prefix v))))
  form_of ty (Call kind receiver m type_args args phase thrown is_raw) =
      bind (values receiver) (λ to. bind (values args) (call_with kind m to))
  form_of ty (New m args phase thrown is_raw) = create m args
  form_of ty (NewArray lengths) =
      bind (values lengths) (λ vs. bind (lengths_of vs) (arrays (erased_type P ty)))
  form_of ty (ArrayOf elements) =
      bind (new_array (erased_type P ty) (length (operand_list elements))) (λ a. fill_with a 0 (operand_list elements))
  form_of ty (Cast of_it to ss is_below) = bind (value_of of_it) (steps P r.body r.ready ss)

  -- An expression is what its form gives
  abbrev pub expr_act : Expr → ErasedRun Value
  expr_act NoExpr = wrong
  expr_act (expr place ty captures form) = form_of ty form
