-- Expressions are smooth in their units where their parts are.
use Rattle.std.proofs.Common.{ℕ, zero, suc, List, [], ◌∷◌, refl}
use Rattle.std.specs.Prelude.{pos, Bool, true, false, length, slice_get, int_lt}
use Rattle.jc_types.specs.declared.form.Ty.{Ty}
use Rattle.jc_types.specs.declared.ids.ClassId.{ClassId}
use Rattle.jc_types.specs.declared.ids.FieldId.{FieldId}
use Rattle.jc_types.specs.declared.ids.MethodId.{MethodId}
use Rattle.jc_types.specs.declared.constant.Constant.{Constant}
use Rattle.jc_types.specs.declared.constant.Constant.TheVariants as constant
use Rattle.jc_types.specs.declared.constant.Op.{Op}
use Rattle.jc_types.specs.declared.erased.Erased.{Erased}
use Rattle.jc_running.specs.declared.value.Value.{Value}
use Rattle.jc_running.specs.declared.value.Value.TheVariants.{Whole, Long, Address, Null as NullValue}
use Rattle.jc_running.specs.Outcomes.{give, wrong, bind}
use Rattle.jc_running.proofs.Smooth.{Smooth}
use Rattle.jc_heaps.specs.declared.state.Object.{Object}
use Rattle.jc_heaps.specs.States.{shown_of, object_at}
use Rattle.jc_heaps.specs.declared.given.Given.{Given}
use Rattle.jc_heaps.specs.Numbers.{truth, operated, prefixed, stepped, boolean_of, whole_of}
use Rattle.jc_heaps.specs.Classes.{element_of}
use Rattle.jc_heaps.specs.Layout.{slot_of, field_class}
use Rattle.jc_heaps.specs.Making.{raise, address_of, place_of, passes, given}
use Rattle.jc_heaps.proofs.Plain.{seq, soft}
use Rattle.jc_heaps.proofs.SmoothHeaps as h
use Rattle.jc_typed.specs.declared.expressions.CallKind.{CallKind}
use Rattle.jc_typed.specs.declared.expressions.CallKind.TheVariants.{Static, Virtual, Direct}
use Rattle.jc_typed.specs.declared.expressions.Joint.{Joint}
use Rattle.jc_typed.specs.declared.expressions.Joint.TheVariants.{Operator, Concat}
use Rattle.jc_typed.specs.declared.expressions.Printed.{Printed}
use Rattle.jc_erased.specs.declared.program.ErasedProgram.{ErasedProgram}
use Rattle.jc_typed.specs.Trees.{Step, Expr, NoExpr, expr, Operand, NoOperand, operand, Form, Fixed, Null, Local, This, StaticField, Field, Element, Length, Prefix, Chain, AllOf, AnyOf, InstanceOf, Conditional, Assign, Compound, Change, Call, New, NewArray, ArrayOf, Cast, Variable, LocalVariable, StaticVariable, FieldVariable, ElementVariable, Operands, Links, NoLinks, MoreLinks}
use Rattle.jc_heaps.specs.Erases.{ErasedState}
use Rattle.jc_erased.specs.Programs.{ErasedRun, erased_keeping, erased_type}
use Rattle.jc_meaning.specs.Programs.{operand_list, method_class}
use Rattle.jc_erased.specs.Calls.{call_static, call_direct, call_virtual}
use Rattle.jc_erased.specs.Steps.{steps}
use Rattle.jc_meaning.specs.declared.target.Target.{Target}
use Rattle.jc_meaning.specs.declared.target.Target.TheVariants.{ToLocal, ToStatic, ToField, ToElement}
use Rattle.jc_erased.specs.Expressions.{Inner, value_of, values_of, values, choose, if_true, constant_value, get_static, set_static, get_field, set_field, get_element, set_element, length_of, prefixes, printer_of, text_of, joined, chain, all_true, any_true, instance_of, target_of, read_target, write_target, assigned, stored, changed, first_value, call_with, create, new_array, fill, arrays, lengths_of, fill_with, form_of, expr_act}
use Rattle.jc_erased.proofs.SmoothCalls as c

-- two levels, one with more room than the other
pub record Levels (D : ℕ) (r r' : Inner) : Type 0 where
  pub exprs : (e : Expr) → Smooth ErasedState shown_of D 1 (r.expr e) (r'.expr e)
  pub bodies : (m : MethodId) → Smooth ErasedState shown_of D 1 (r.body m) (r'.body m)
  pub readies : (k : ClassId) → Smooth ErasedState shown_of D 0 (r.ready k) (r'.ready k)

module _ (D : ℕ) where
  abbrev Steady : {A : Type 0} → ErasedRun A → ErasedRun A → Type 0
  Steady m m' = Smooth ErasedState shown_of D 0 m m'

  andso : {A B : Type 0} {m m' : ErasedRun A} {f f' : A → ErasedRun B} → Steady m m' → ((a : A) → Steady (f a) (f' a)) → Steady (bind m f) (bind m' f')
  andso sm sf = seq ErasedState shown_of D sm sf

  gives : {A : Type 0} (a : A) → Steady (give a) (give a)
  gives a = h.gives Erased (Unit {0}) (Unit {0}) D a

  wrongs : {A : Type 0} → Steady {A = A} wrong wrong
  wrongs = h.wrongs Erased (Unit {0}) (Unit {0}) D

  module _ (P : ErasedProgram) (r r' : Inner) (L : Levels D r r') where
    pub stepping : (ss : List Step) (v : Value) → Steady (steps P r.body r.ready ss v) (steps P r'.body r'.ready ss v)
    stepping ss v = c.all_steps D P r.body r'.body L.bodies r.ready r'.ready L.readies ss v

    statics : (m : MethodId) (vs : List Value) → Steady (call_static P r.body m vs) (call_static P r'.body m vs)
    statics m vs = c.calls_static D P r.body r'.body L.bodies m vs

    pub directs : (m : MethodId) (v : Value) (vs : List Value) → Steady (call_direct P r.body m v vs) (call_direct P r'.body m v vs)
    directs m v vs = c.calls_direct D P r.body r'.body L.bodies m v vs

    pub virtuals : (m : MethodId) (v : Value) (vs : List Value) → Steady (call_virtual P r.body m v vs) (call_virtual P r'.body m v vs)
    virtuals m v vs = c.calls_virtual D P r.body r'.body L.bodies m v vs

    pub value_s : (o : Operand) → Steady (value_of P r o) (value_of P r' o)
    value_s NoOperand = wrongs
    value_s (operand place e ss) = andso (soft ErasedState shown_of D (L.exprs e)) (stepping ss)

    list_s : (os : List Operand) → Steady (values_of P r os) (values_of P r' os)
    list_s [] = gives []
    list_s (o ∷ os) = andso (value_s o) (λ v. andso (list_s os) (λ vs. gives (v ∷ vs)))

    pub values_s : (os : Operands) → Steady (values P r os) (values P r' os)
    values_s os = list_s (operand_list os)

    pub choose_s : {A : Type 0} (b : Bool) {m m' n n' : ErasedRun A} → Steady m m' → Steady n n' → Steady (choose P r b m n) (choose P r' b m' n')
    choose_s true sm sn = sm
    choose_s false sm sn = sn

    pub if_s : {A : Type 0} (v : Value) {m m' n n' : ErasedRun A} → Steady m m' → Steady n n' → Steady (if_true P r v m n) (if_true P r' v m' n')
    if_s v sm sn = andso (h.somes Erased (Unit {0}) (Unit {0}) D (boolean_of v)) (λ b. choose_s b sm sn)

    constant_s : (x : Constant) → Steady (constant_value P r x) (constant_value P r' x)
    constant_s (constant.Whole n p) = gives _
    constant_s (constant.Text units) = h.constants Erased (Unit {0}) (Unit {0}) D erased_keeping P.table P.known units

    get_static_s : (f : FieldId) → Steady (get_static P r f) (get_static P r' f)
    get_static_s f = andso (L.readies (field_class P.table f)) (λ _. h.looks Erased (Unit {0}) (Unit {0}) D _)

    pub set_static_s : (f : FieldId) (v : Value) → Steady (set_static P r f v) (set_static P r' f v)
    set_static_s f v = andso (L.readies (field_class P.table f)) (λ _. h.changes Erased (Unit {0}) (Unit {0}) D _ (λ s. refl))

    pub address_s : (v : Value) → Steady (address_of erased_keeping P.table P.known v) (address_of erased_keeping P.table P.known v)
    address_s v = h.addresses Erased (Unit {0}) (Unit {0}) D erased_keeping P.table P.known v

    object_s : (a : ℕ) → Steady (object_at a) (object_at a)
    object_s a = h.objects Erased (Unit {0}) (Unit {0}) D a

    get_field_s : (f : FieldId) (v : Value) → Steady (get_field P r f v) (get_field P r' f v)
    get_field_s f v = andso (address_s v) (λ a. andso (object_s a) (λ o. andso (h.somes Erased (Unit {0}) (Unit {0}) D (slot_of P.table f)) (λ slot. h.somes Erased (Unit {0}) (Unit {0}) D (slice_get o.parts slot))))

    pub set_field_s : (f : FieldId) (o v : Value) → Steady (set_field P r f o v) (set_field P r' f o v)
    set_field_s f o v = andso (address_s o) (λ a. andso (h.somes Erased (Unit {0}) (Unit {0}) D (slot_of P.table f)) (λ slot. h.sets_part Erased (Unit {0}) (Unit {0}) D a slot v))

    place_s : (o : Object Erased) (i : Value) → Steady (place_of erased_keeping P.table P.known o i) (place_of erased_keeping P.table P.known o i)
    place_s o i = h.places Erased (Unit {0}) (Unit {0}) D erased_keeping P.table P.known o i

    pub get_element_s : (v i : Value) → Steady (get_element P r v i) (get_element P r' v i)
    get_element_s v i = andso (address_s v) (λ a. andso (object_s a) (λ o. andso (place_s o i) (λ n. h.somes Erased (Unit {0}) (Unit {0}) D (slice_get o.parts n))))

    set_element_s : (v i w : Value) → Steady (set_element P r v i w) (set_element P r' v i w)
    set_element_s v i w = andso (address_s v) (λ a. andso (object_s a) (λ o. andso (place_s o i) (λ n. h.stores Erased (Unit {0}) (Unit {0}) D erased_keeping P.table P.known a o n w)))

    pub length_s : (v : Value) → Steady (length_of P r v) (length_of P r' v)
    length_s v = andso (address_s v) (λ a. andso (object_s a) (λ o. gives _))

    given_s : (g : Given) → Steady (given erased_keeping P.table P.known g) (given erased_keeping P.table P.known g)
    given_s g = h.givens Erased (Unit {0}) (Unit {0}) D erased_keeping P.table P.known g

    prefix_s : (ops : List Op) (v : Value) → Steady (prefixes P r ops v) (prefixes P r' ops v)
    prefix_s [] v = gives v
    prefix_s (op ∷ ops) v = andso (prefix_s ops v) (λ w. given_s (prefixed op w))

    text_s : (p : Printed) (v : Value) → Steady (text_of P r p v) (text_of P r' p v)
    text_s p v = andso (L.readies P.known.string) (λ _. andso (statics (printer_of P r P.known.printing p) (v ∷ [])) (λ t. andso (L.readies P.known.string) (λ _. statics P.known.printing.of_object (t ∷ []))))

    joined_s : (j : Joint) (v : Value) {m m' : ErasedRun Value} → Steady m m' → Steady (joined P r j v m) (joined P r' j v m')
    joined_s (Operator op) v sm = andso sm (λ w. given_s (operated op v w))
    joined_s (Concat left right) v sm = andso (text_s left v) (λ s. andso sm (λ w. andso (text_s right w) (λ t. directs P.known.printing.concat s (t ∷ []))))

    chain_s : {m m' : ErasedRun Value} → Steady m m' → (links : Links) → Steady (chain P r m links) (chain P r' m' links)
    chain_s sm NoLinks = sm
    chain_s sm (MoreLinks before joint left right) = andso (chain_s sm before) (λ v. andso (stepping left v) (λ w. joined_s joint w (value_s right)))

    all_s : (os : List Operand) → Steady (all_true P r os) (all_true P r' os)
    all_s [] = gives _
    all_s (o ∷ os) = andso (value_s o) (λ v. if_s v (all_s os) (gives _))

    any_s : (os : List Operand) → Steady (any_true P r os) (any_true P r' os)
    any_s [] = gives _
    any_s (o ∷ os) = andso (value_s o) (λ v. if_s v (gives _) (any_s os))

    test_s : (to : Erased) (v : Value) → Steady (passes erased_keeping P.table to v) (passes erased_keeping P.table to v)
    test_s to v = h.tests Erased (Unit {0}) (Unit {0}) D erased_keeping P.table P.known to v

    instance_s : (to : Erased) (v : Value) → Steady (instance_of P r to v) (instance_of P r' to v)
    instance_s to NullValue = gives _
    instance_s to (Whole n) = andso (test_s to (Whole n)) (λ b. gives (truth b))
    instance_s to (Long n) = andso (test_s to (Long n)) (λ b. gives (truth b))
    instance_s to (Address a) = andso (test_s to (Address a)) (λ b. gives (truth b))

    target_s : (v : Variable) → Steady (target_of P r v) (target_of P r' v)
    target_s (LocalVariable place n) = gives _
    target_s (StaticVariable place before f is_simple) = andso (values_s before) (λ _. gives _)
    target_s (FieldVariable place o f is_raw) = andso (value_s o) (λ v. gives _)
    target_s (ElementVariable place array index) = andso (value_s array) (λ a. andso (value_s index) (λ i. gives _))

    read_s : (t : Target) → Steady (read_target P r t) (read_target P r' t)
    read_s (ToLocal n) = h.looks Erased (Unit {0}) (Unit {0}) D _
    read_s (ToStatic f) = get_static_s f
    read_s (ToField o f) = get_field_s f o
    read_s (ToElement array index) = get_element_s array index

    write_s : (t : Target) (v : Value) → Steady (write_target P r t v) (write_target P r' t v)
    write_s (ToLocal n) v = h.sets_local Erased (Unit {0}) (Unit {0}) D n v
    write_s (ToStatic f) v = set_static_s f v
    write_s (ToField o f) v = set_field_s f o v
    write_s (ToElement array index) v = set_element_s array index v

    assigned_s : (t : Target) (v : Value) → Steady (assigned P r t v) (assigned P r' t v)
    assigned_s t v = andso (write_s t v) (λ _. gives v)

    stored_s : (t : Target) (guards : List Step) (v : Value) → Steady (stored P r t guards v) (stored P r' t guards v)
    stored_s t guards v = andso (andso (stepping guards v) (write_s t)) (λ _. gives v)

    changed_s : (t : Target) (into : List Step) (b : Bool) (before w : Value) → Steady (changed P r t into b before w) (changed P r' t into b before w)
    changed_s t into b before w = andso (stepping into w) (λ v. andso (write_s t v) (λ _. gives _))

    first_s : (vs : List Value) → Steady (first_value P r vs) (first_value P r' vs)
    first_s [] = wrongs
    first_s (v ∷ vs) = gives v

    call_s : (kind : CallKind) (m : MethodId) (to vs : List Value) → Steady (call_with P r kind m to vs) (call_with P r' kind m to vs)
    call_s Static m to vs = andso (L.readies (method_class P.table m)) (λ _. statics m vs)
    call_s Virtual m to vs = andso (first_s to) (λ v. virtuals m v vs)
    call_s Direct m to vs = andso (first_s to) (λ v. directs m v vs)

    create_s : (m : MethodId) (args : Operands) → Steady (create P r m args) (create P r' m args)
    create_s m args =
        andso (L.readies (method_class P.table m)) (λ _.
        andso (h.makes Erased (Unit {0}) (Unit {0}) D _) (λ a.
        andso (values_s args) (λ vs. andso (directs m (Address a) vs) (λ _. gives (Address a)))))

    new_array_s : (x : Erased) (n : ℕ) → Steady (new_array P r x n) (new_array P r' x n)
    new_array_s x n = h.makes Erased (Unit {0}) (Unit {0}) D _

    fill_s : (a at n : ℕ) {m m' : ErasedRun Value} → Steady m m' → Steady (fill P r a at n m) (fill P r' a at n m')
    fill_s a at zero sm = gives tt
    fill_s a at (suc n) sm = andso (andso sm (λ v. h.sets_part Erased (Unit {0}) (Unit {0}) D a at v)) (λ _. fill_s a (suc at) n sm)

    arrays_s : (t : Erased) (ns : List ℕ) → Steady (arrays P r t ns) (arrays P r' t ns)
    arrays_s t [] = gives _
    arrays_s t (n ∷ []) = andso (new_array_s t n) (λ a. gives (Address a))
    arrays_s t (n ∷ m ∷ ns) = andso (new_array_s t n) (λ a. andso (fill_s a 0 n (arrays_s (element_of t) (m ∷ ns))) (λ _. gives (Address a)))

    raise_s : {A : Type 0} (k : ClassId) → Steady {A = A} (raise erased_keeping P.table k) (raise erased_keeping P.table k)
    raise_s k = h.raises Erased (Unit {0}) (Unit {0}) D erased_keeping P.table P.known k

    lengths_s : (vs : List Value) → Steady (lengths_of P r vs) (lengths_of P r' vs)
    lengths_s [] = gives []
    lengths_s (v ∷ vs) = andso (h.somes Erased (Unit {0}) (Unit {0}) D (whole_of v)) (λ n. choose_s (int_lt n (pos 0)) (raise_s P.known.thrown.negative_size) (andso (lengths_s vs) (λ ns. gives _)))

    fill_with_s : (a at : ℕ) (os : List Operand) → Steady (fill_with P r a at os) (fill_with P r' a at os)
    fill_with_s a at [] = gives _
    fill_with_s a at (o ∷ os) = andso (value_s o) (λ v. andso (set_element_s (Address a) (Whole (pos at)) v) (λ _. fill_with_s a (suc at) os))

    form_s : (ty : Ty) (f : Form) → Steady (form_of P r ty f) (form_of P r' ty f)
    form_s ty (Fixed before value named casts) = andso (values_s before) (λ _. constant_s value)
    form_s ty Null = gives _
    form_s ty (Local n) = h.looks Erased (Unit {0}) (Unit {0}) D _
    form_s ty This = h.looks Erased (Unit {0}) (Unit {0}) D _
    form_s ty (StaticField before f is_simple) = andso (values_s before) (λ _. get_static_s f)
    form_s ty (Field o f) = andso (value_s o) (get_field_s f)
    form_s ty (Element array index) = andso (value_s array) (λ a. andso (value_s index) (get_element_s a))
    form_s ty (Length array) = andso (value_s array) length_s
    form_s ty (Prefix ops o) = andso (value_s o) (prefix_s ops)
    form_s ty (Chain first links) = chain_s (value_s first) links
    form_s ty (AllOf os from up_to) = all_s (operand_list os)
    form_s ty (AnyOf os from up_to) = any_s (operand_list os)
    form_s ty (InstanceOf o to) = andso (value_s o) (instance_s to)
    form_s ty (Conditional test x other from up_to) = andso (value_s test) (λ v. if_s v (value_s x) (value_s other))
    form_s ty (Assign variable value store) = andso (target_s variable) (λ t. andso (value_s value) (stored_s t store))
    form_s ty (Compound variable joint left right into) =
        andso (target_s variable) (λ t. andso (read_s t) (λ v. andso (stepping left v) (λ w.
        andso (joined_s joint w (value_s right)) (λ z. andso (stepping into z) (assigned_s t)))))
    form_s ty (Change variable op from into b) =
        andso (target_s variable) (λ t. andso (read_s t) (λ v. andso (stepping from v) (λ w.
        andso (given_s (stepped op w)) (changed_s t into b v))))
    form_s ty (Call kind to m ts args phase thrown is_raw) = andso (values_s to) (λ o. andso (values_s args) (call_s kind m o))
    form_s ty (New m args phase thrown is_raw) = create_s m args
    form_s ty (NewArray lengths) = andso (values_s lengths) (λ vs. andso (lengths_s vs) (arrays_s (erased_type P ty)))
    form_s ty (ArrayOf elements) = andso (new_array_s (erased_type P ty) (length (operand_list elements))) (λ a. fill_with_s a 0 (operand_list elements))
    form_s ty (Cast o to ss b) = andso (value_s o) (stepping ss)

    pub expr_s : (e : Expr) → Steady (expr_act P r e) (expr_act P r' e)
    expr_s NoExpr = wrongs
    expr_s (expr place ty captures form) = form_s ty form
