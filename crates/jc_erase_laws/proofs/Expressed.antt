-- Expressions are alike where their parts are.
use Rattle.std.proofs.Common.{◌≡◌, ℕ, zero, suc, ◌≤◌, List, [], ◌∷◌, map, refl, sym, ap, ◌∙◌, subst}
use Rattle.std.specs.Prelude.{pos, Bool, true, false, ◌-◌, length, slice_get, slice_set, int_lt, replicate}
use Rattle.jc_rules.specs.declared.rule.Place.{Place}
use Rattle.jc_types.specs.declared.form.Ty.{Ty, out-Ty}
use Rattle.jc_types.specs.declared.form.Ty.TheVariants.{Raw}
use Rattle.jc_types.specs.declared.ids.ClassId.{ClassId}
use Rattle.jc_types.specs.declared.ids.FieldId.{FieldId}
use Rattle.jc_types.specs.declared.ids.MethodId.{MethodId}
use Rattle.jc_types.specs.declared.constant.Constant.{Constant}
use Rattle.jc_types.specs.declared.constant.Constant.TheVariants as constant
use Rattle.jc_types.specs.declared.constant.Op.{Op}
use Rattle.jc_types.specs.declared.erased.Base.{Base}
use Rattle.jc_types.specs.declared.erased.Base.TheVariants as base
use Rattle.jc_types.specs.declared.erased.Erased.{Erased}
use Rattle.jc_types.specs.declared.table.Table.{Table}
use Rattle.jc_types.specs.Erasing.{erasure, plain}
use Rattle.jc_running.specs.declared.value.Value.{Value}
use Rattle.jc_running.specs.declared.value.Value.TheVariants.{Whole, Long, Address, Null as NullValue}
use Rattle.jc_running.specs.Outcomes.{Out, Val, Thrown, Exited, Going, Wrong, give, wrong, throw, on_both, bind, behind}
use Rattle.jc_heaps.specs.declared.given.Given.{Given}
use Rattle.jc_heaps.specs.Classes.{element_of}
use Rattle.jc_heaps.specs.Erases.{ErasedState, erase_out, erase_state}
use Rattle.jc_heaps.specs.Layout.{default_erased, field_class, new_fields, slot_of}
use Rattle.jc_heaps.specs.Making.{address_of, given, make}
use Rattle.jc_heaps.specs.Numbers.{boolean_of, converted, operated, prefixed, stepped, truth, whole_of}
use Rattle.jc_typed.specs.declared.expressions.CallKind.{CallKind}
use Rattle.jc_typed.specs.declared.expressions.CallKind.TheVariants.{Static, Virtual, Direct}
use Rattle.jc_typed.specs.declared.expressions.Joint.{Joint}
use Rattle.jc_typed.specs.declared.expressions.Joint.TheVariants.{Operator, Concat}
use Rattle.jc_typed.specs.declared.expressions.Printed.{Printed}
use Rattle.jc_typed.specs.declared.expressions.Printed.TheVariants as printed
use Rattle.jc_typed.specs.declared.lists.Capture.{Capture}
use Rattle.jc_typed.specs.declared.program.TypedProgram.{TypedProgram}
use Rattle.jc_typed.specs.Trees.{Step, Widen, Narrow, BoxUp, Unbox, Up, Test, Expr, NoExpr, expr, Operand, NoOperand, operand, Form, Fixed, Null, Local, This, StaticField, Field, Element, Length, Prefix, Chain, AllOf, AnyOf, InstanceOf, Conditional, Assign, Compound, Change, Call, New, NewArray, ArrayOf, Cast, Variable, LocalVariable, StaticVariable, FieldVariable, ElementVariable, Operands, NoOperands, MoreOperands, Links, NoLinks, MoreLinks}
use Rattle.jc_meaning.specs.declared.target.Target.{Target}
use Rattle.jc_meaning.specs.declared.target.Target.TheVariants.{ToLocal, ToStatic, ToField, ToElement}
use Rattle.jc_meaning.specs.Calls as tc
use Rattle.jc_meaning.specs.Expressions as t
use Rattle.jc_meaning.specs.Kept.{TypedRun, TypedState, closed, closed_all, closed_in, kept_array, kept_by, typed_keeping}
use Rattle.jc_meaning.specs.Programs.{method_class, operand_list, operands_before}
use Rattle.jc_meaning.specs.Steps as ts
use Rattle.jc_right.specs.Firm.{FirmLayer, IsOfClass}
use Rattle.jc_erased.specs.declared.program.ErasedProgram.{ErasedProgram}
use Rattle.jc_erased.specs.Calls as ec
use Rattle.jc_erased.specs.Expressions as e
use Rattle.jc_erased.specs.Programs.{ErasedRun, erased_keeping}
use Rattle.jc_erased.specs.Steps as es
use Rattle.jc_erase_spec.proofs.Calls.{over}
use Rattle.jc_erase_spec.proofs.Keeps as k
use Rattle.jc_erase_trees.specs.Trees.{become_step, become_steps, become_expr, become_operand, become_form, become_variable, become_operands, become_links}
use Rattle.jc_erase_laws.specs.Firm.{FirmExpr, FirmForm, FirmLinks, FirmOperand, FirmOperands, FirmVariable}
use Rattle.jc_erase_laws.proofs.Called as c
use Rattle.jc_erase_laws.proofs.Called.{Premises}
use Rattle.jc_erase_laws.proofs.Made as made
use Rattle.jc_erase_laws.proofs.Types as types
use Rattle.jc_erase_laws.proofs.Types.{HasBase, IsArray, IsLowered, less}

-- what becomes of types keeps bases and arrays
pub record Good (g : Ty → Ty) : Type 0 where
  pub bases : (b : Base) (t : Ty) → HasBase b t → HasBase b (g t)
  pub arrays : (b : Base) (n : ℕ) (t : Ty) → suc n ≤ 255 → IsArray b n t → IsArray b n (g t)

-- expressions, bodies and classes of one level are alike
pub record Levels (P : TypedProgram) (r : t.Inner) (r' : e.Inner) : Type 0 where
  pub exprs : (g : Ty → Ty) → Good g → (x : Expr) → FirmExpr P.table x → k.Alike P.table (r.expr x) (r'.expr (become_expr g x))
  pub bodies : (m : MethodId) → k.Alike P.table (r.body m) (r'.body m)
  pub readies : (x : ClassId) → k.Alike P.table (r.ready x) (r'.ready x)

-- ---- lists of operands from the first one on
abbrev FirmList : Table → List Operand → Type 0
FirmList T [] = Unit {0}
FirmList T (o ∷ os) = FirmOperand T o × FirmList T os

firm_before : (T : Table) (os : Operands) (more : List Operand) → FirmOperands T os → FirmList T more → FirmList T (operands_before os more)
firm_before T NoOperands more h hs = hs
firm_before T (MoreOperands before last) more h hs = firm_before T before (last ∷ more) h.0 (h.1, hs)

before_becomes : (g : Ty → Ty) (os : Operands) (more : List Operand) → operands_before (become_operands g os) (map (become_operand g) more) ≡ map (become_operand g) (operands_before os more)
before_becomes g NoOperands more = refl
before_becomes g (MoreOperands before last) more = before_becomes g before (last ∷ more)

pub list_becomes : (g : Ty → Ty) (os : Operands) → operand_list (become_operands g os) ≡ map (become_operand g) (operand_list os)
list_becomes g os = before_becomes g os []

count_becomes : (g : Ty → Ty) (os : List Operand) → length (map (become_operand g) os) ≡ length os
count_becomes g [] = refl
count_becomes g (o ∷ os) = ap suc (count_becomes g os)

module _ (P : TypedProgram) (F : ErasedProgram) (H : Premises P F) where
  abbrev T : Table
  T = P.table

  abbrev E : ErasedProgram
  E = over P F

  abbrev Alike : {A : Type 0} → TypedRun A → ErasedRun A → Type 0
  Alike m m' = k.Alike P.table m m'

  andso : {A B : Type 0} {m : TypedRun A} {m' : ErasedRun A} {f : A → TypedRun B} {f' : A → ErasedRun B} → Alike m m' → ((a : A) → Alike (f a) (f' a)) → Alike (bind m f) (bind m' f')
  andso em ef = k.andso P.table em ef

  gives : {A : Type 0} (a : A) → Alike (give a) (give a)
  gives a = k.gives P.table a

  wrongs : {A : Type 0} → Alike {A = A} wrong wrong
  wrongs = k.wrongs P.table

  -- what the typed run does silently before the rest
  pub first_silent : {A B : Type 0} {m : TypedRun A} (a : A) {f : A → TypedRun B} {m' : ErasedRun B} → Alike m (give a) → ((x : A) → Alike (f x) m') → Alike (bind m f) m'
  first_silent a {m' = m'} em ef = andso {m' = give a} {f' = λ x. m'} em ef

  -- .. where what it gives is a closed type
  with_type : {B : Type 0} (x : Ty) (f : Ty → TypedRun B) {m' : ErasedRun B} → ((s : TypedState) → Alike (f (closed_in s x)) m') → Alike (bind (closed x) f) m'
  with_type x f ef = record { same = λ u s. (ef s).same u s }

  with_types : {B : Type 0} (xs : List Ty) (f : List Ty → TypedRun B) {m' : ErasedRun B} → ((ts : List Ty) → Alike (f ts) m') → Alike (bind (closed_all xs) f) m'
  with_types xs f ef = record { same = λ u s. (ef (map (closed_in s) xs)).same u s }

  -- .. and what it does silently behind the rest
  right_unit : {A : Type 0} (o : Out ErasedState A) → on_both o (λ a. give a) throw ≡ o
  right_unit (Val a u s) = refl
  right_unit (Thrown a u s) = refl
  right_unit (Exited code s) = refl
  right_unit (Going s) = refl
  right_unit Wrong = refl

  last_silent : {A : Type 0} {m : TypedRun A} {m' : ErasedRun A} {f : A → TypedRun A} → Alike m m' → ((a : A) → Alike (f a) (give a)) → Alike (bind m f) m'
  last_silent {m' = m'} em ef = record { same = λ u s. (andso {f' = λ a. give a} em ef).same u s ∙ right_unit (m' u _) }

  module _ (r : t.Inner) (r' : e.Inner) (L : Levels P r r') (g : Ty → Ty) (G : Good g) where
    statics : (m : MethodId) (vs : List Value) (ts : List Ty) → Alike (tc.call_static P r.body m vs ts) (ec.call_static E r'.body m vs)
    statics m vs ts = c.statics P F H r.body r'.body L.bodies m vs ts

    pub directs : (m : MethodId) (v : Value) (vs : List Value) (ts : List Ty) → Alike (tc.call_direct P r.body m v vs ts) (ec.call_direct E r'.body m v vs)
    directs m v vs ts = c.directs P F H r.body r'.body L.bodies m v vs ts

    pub virtuals : (m : MethodId) (v : Value) (vs : List Value) (ts : List Ty) → Alike (tc.call_virtual P r.body m v vs ts) (ec.call_virtual E r'.body m v vs)
    virtuals m v vs ts = c.virtuals P F H r.body r'.body L.bodies m v vs ts

    step_s : (s : Step) (v : Value) → Alike (ts.step P r.body r.ready s v) (es.step E r'.body r'.ready (become_step g s) v)
    step_s (Widen to) v = made.somes T (converted to v)
    step_s (Narrow to) v = made.somes T (converted to v)
    step_s (BoxUp of_it) v = let box = ts.box_of P.known.boxes of_it in andso (L.readies box.class) (λ _. statics box.make (v ∷ []) [])
    step_s (Unbox to) v = directs (ts.box_of P.known.boxes to).value v [] []
    step_s (Up to unchecked) v = gives v
    step_s (Test check to) v = made.checks T P.known check to v

    pub stepping : (ss : List Step) (v : Value) → Alike (ts.steps P r.body r.ready ss v) (es.steps E r'.body r'.ready (become_steps g ss) v)
    stepping [] v = gives v
    stepping (s ∷ ss) v = andso (step_s s v) (stepping ss)

    pub value_s : (o : Operand) → FirmOperand T o → Alike (t.value_of P r o) (e.value_of E r' (become_operand g o))
    value_s NoOperand h = wrongs
    value_s (operand place x ss) h = andso (L.exprs g G x h) (stepping ss)

    list_s : (os : List Operand) → FirmList T os → Alike (t.values_of P r os) (e.values_of E r' (map (become_operand g) os))
    list_s [] h = gives []
    list_s (o ∷ os) h = andso (value_s o h.0) (λ v. andso (list_s os h.1) (λ vs. gives (v ∷ vs)))

    -- a list of operands as a tree holds it
    by_list : {A : Type 0} (os : Operands) {m : TypedRun A} (f : List Operand → ErasedRun A) → Alike m (f (map (become_operand g) (operand_list os))) → Alike m (f (operand_list (become_operands g os)))
    by_list os {m = m} f em = subst (λ xs. Alike m (f xs)) (sym (list_becomes g os)) em

    firm_list : (os : Operands) → FirmOperands T os → FirmList T (operand_list os)
    firm_list os h = firm_before T os [] h tt

    pub values_s : (os : Operands) → FirmOperands T os → Alike (t.values P r os) (e.values E r' (become_operands g os))
    values_s os h = by_list os (e.values_of E r') (list_s (operand_list os) (firm_list os h))

    pub choose_s : {A : Type 0} (b : Bool) {m n : TypedRun A} {m' n' : ErasedRun A} → Alike m m' → Alike n n' → Alike (t.choose P r b m n) (e.choose E r' b m' n')
    choose_s true em en = em
    choose_s false em en = en

    pub if_s : {A : Type 0} (v : Value) {m n : TypedRun A} {m' n' : ErasedRun A} → Alike m m' → Alike n n' → Alike (t.if_true P r v m n) (e.if_true E r' v m' n')
    if_s v em en = andso (made.somes T (boolean_of v)) (λ b. choose_s b em en)

    constant_s : (x : Constant) → Alike (t.constant_value P r x) (e.constant_value E r' x)
    constant_s (constant.Whole n p) = gives _
    constant_s (constant.Text units) = made.constants T P.known units

    get_static_s : (f : FieldId) → Alike (t.get_static P r f) (e.get_static E r' f)
    get_static_s f = andso (L.readies (field_class T f)) (λ _. made.looks T (λ s. slice_get s.statics f.0) (λ s. slice_get s.statics f.0) (λ s. refl))

    pub set_static_s : (f : FieldId) (v : Value) → Alike (t.set_static P r f v) (e.set_static E r' f v)
    set_static_s f v = andso (L.readies (field_class T f)) (λ _. made.changes T (λ s. record s { statics = slice_set s.statics f.0 v }) (λ s. record s { statics = slice_set s.statics f.0 v }) (λ s. refl))

    pub address_s : (v : Value) → Alike (address_of (typed_keeping T) T P.known v) (address_of erased_keeping T P.known v)
    address_s v = k.addresses T P.known v

    get_field_s : (f : FieldId) (v : Value) → Alike (t.get_field P r f v) (e.get_field E r' f v)
    get_field_s f v = andso (address_s v) (λ a. k.objects T a (λ o. andso (made.somes T (slot_of T f)) (λ slot. made.somes T (slice_get o.parts slot))))

    pub set_field_s : (f : FieldId) (o v : Value) → Alike (t.set_field P r f o v) (e.set_field E r' f o v)
    set_field_s f o v = andso (address_s o) (λ a. andso (made.somes T (slot_of T f)) (λ slot. k.sets_part T a slot v))

    pub get_element_s : (v i : Value) → Alike (t.get_element P r v i) (e.get_element E r' v i)
    get_element_s v i = andso (address_s v) (λ a. k.objects T a (λ o. andso (made.places T P.known o i) (λ n. made.somes T (slice_get o.parts n))))

    set_element_s : (v i w : Value) → Alike (t.set_element P r v i w) (e.set_element E r' v i w)
    set_element_s v i w = andso (address_s v) (λ a. k.objects T a (λ o. andso (made.places T P.known o i) (λ n. made.stores T P.known a o n w)))

    pub length_s : (v : Value) → Alike (t.length_of P r v) (e.length_of E r' v)
    length_s v = andso (address_s v) (λ a. k.objects T a (λ o. gives _))

    given_s : (x : Given) → Alike (given (typed_keeping T) T P.known x) (given erased_keeping T P.known x)
    given_s x = made.givens T P.known x

    prefix_s : (ops : List Op) (v : Value) → Alike (t.prefixes P r ops v) (e.prefixes E r' ops v)
    prefix_s [] v = gives v
    prefix_s (op ∷ ops) v = andso (prefix_s ops v) (λ w. given_s (prefixed op w))

    printer_same : (p : Printed) → t.printer_of P r P.known.printing p ≡ e.printer_of E r' P.known.printing p
    printer_same printed.Boolean = refl
    printer_same printed.Char = refl
    printer_same printed.Int = refl
    printer_same printed.Long = refl
    printer_same printed.Reference = refl

    printed_s : (p : Printed) (v : Value) → Alike (tc.call_static P r.body (t.printer_of P r P.known.printing p) (v ∷ []) []) (ec.call_static E r'.body (e.printer_of E r' P.known.printing p) (v ∷ []))
    printed_s p v = subst (λ m. Alike (tc.call_static P r.body (t.printer_of P r P.known.printing p) (v ∷ []) []) (ec.call_static E r'.body m (v ∷ []))) (printer_same p) (statics (t.printer_of P r P.known.printing p) (v ∷ []) [])

    text_s : (p : Printed) (v : Value) → Alike (t.text_of P r p v) (e.text_of E r' p v)
    text_s p v = andso (L.readies P.known.string) (λ _. andso (printed_s p v) (λ w. andso (L.readies P.known.string) (λ _. statics P.known.printing.of_object (w ∷ []) [])))

    joined_s : (j : Joint) (v : Value) {m : TypedRun Value} {m' : ErasedRun Value} → Alike m m' → Alike (t.joined P r j v m) (e.joined E r' j v m')
    joined_s (Operator op) v em = andso em (λ w. given_s (operated op v w))
    joined_s (Concat left right) v em = andso (text_s left v) (λ s. andso em (λ w. andso (text_s right w) (λ x. directs P.known.printing.concat s (x ∷ []) [])))

    chain_s : {m : TypedRun Value} {m' : ErasedRun Value} → Alike m m' → (links : Links) → FirmLinks T links → Alike (t.chain P r m links) (e.chain E r' m' (become_links g links))
    chain_s em NoLinks h = em
    chain_s em (MoreLinks before joint left right) h = andso (chain_s em before h.0) (λ v. andso (stepping left v) (λ w. joined_s joint w (value_s right h.1)))

    all_s : (os : List Operand) → FirmList T os → Alike (t.all_true P r os) (e.all_true E r' (map (become_operand g) os))
    all_s [] h = gives _
    all_s (o ∷ os) h = andso (value_s o h.0) (λ v. if_s v (all_s os h.1) (gives _))

    any_s : (os : List Operand) → FirmList T os → Alike (t.any_true P r os) (e.any_true E r' (map (become_operand g) os))
    any_s [] h = gives _
    any_s (o ∷ os) h = andso (value_s o h.0) (λ v. if_s v (gives _) (any_s os h.1))

    instance_s : (to : Erased) (v : Value) → Alike (t.instance_of P r to v) (e.instance_of E r' to v)
    instance_s to NullValue = gives _
    instance_s to (Whole n) = andso (made.tests T P.known to (Whole n)) (λ b. gives (truth b))
    instance_s to (Long n) = andso (made.tests T P.known to (Long n)) (λ b. gives (truth b))
    instance_s to (Address a) = andso (made.tests T P.known to (Address a)) (λ b. gives (truth b))

    target_s : (x : Variable) → FirmVariable T x → Alike (t.target_of P r x) (e.target_of E r' (become_variable g x))
    target_s (LocalVariable place n) h = gives _
    target_s (StaticVariable place before f is_simple) h = andso (values_s before h) (λ _. gives _)
    target_s (FieldVariable place o f is_raw) h = andso (value_s o h) (λ v. gives _)
    target_s (ElementVariable place array index) h = andso (value_s array h.0) (λ a. andso (value_s index h.1) (λ i. gives _))

    read_s : (x : Target) → Alike (t.read_target P r x) (e.read_target E r' x)
    read_s (ToLocal n) = made.locals T n
    read_s (ToStatic f) = get_static_s f
    read_s (ToField o f) = get_field_s f o
    read_s (ToElement array index) = get_element_s array index

    write_s : (x : Target) (v : Value) → Alike (t.write_target P r x v) (e.write_target E r' x v)
    write_s (ToLocal n) v = made.sets_local T n v
    write_s (ToStatic f) v = set_static_s f v
    write_s (ToField o f) v = set_field_s f o v
    write_s (ToElement array index) v = set_element_s array index v

    assigned_s : (x : Target) (v : Value) → Alike (t.assigned P r x v) (e.assigned E r' x v)
    assigned_s x v = andso (write_s x v) (λ _. gives v)

    stored_s : (x : Target) (guards : List Step) (v : Value) → Alike (t.stored P r x guards v) (e.stored E r' x (become_steps g guards) v)
    stored_s x guards v = andso (andso (stepping guards v) (write_s x)) (λ _. gives v)

    changed_s : (x : Target) (into : List Step) (b : Bool) (before w : Value) → Alike (t.changed P r x into b before w) (e.changed E r' x (become_steps g into) b before w)
    changed_s x into b before w = andso (stepping into w) (λ v. andso (write_s x v) (λ _. gives _))

    pub notes : (place : Place) (ty : Ty) (v : Value) → Alike (t.note P r place ty v) (give v)
    notes place ty v = record { same = λ u s. refl }

    -- what follows a note gets the value
    pub noted_first : {A : Type 0} (place : Place) (ty : Ty) (v : Value) {f : Value → TypedRun A} {f' : Value → ErasedRun A} → ((w : Value) → Alike (f w) (f' w)) → Alike (bind (t.note P r place ty v) f) (f' v)
    noted_first place ty v {f = f} {f' = f'} ef = andso {m' = give v} {f' = f'} (notes place ty v) ef

    first_s : (vs : List Value) → Alike (t.first_value P r vs) (e.first_value E r' vs)
    first_s [] = wrongs
    first_s (v ∷ vs) = gives v

    call_s : (kind : CallKind) (m : MethodId) (to vs : List Value) (ts : List Ty) → Alike (t.call_with P r kind m to vs ts) (e.call_with E r' kind m to vs)
    call_s Static m to vs ts = andso (L.readies (method_class T m)) (λ _. statics m vs ts)
    call_s Virtual m to vs ts = andso (first_s to) (λ v. virtuals m v vs ts)
    call_s Direct m to vs ts = andso (first_s to) (λ v. directs m v vs ts)

    create_s : (ty : Ty) (m : MethodId) (args : Operands) → IsOfClass T m ty → FirmOperands T args → Alike (t.create P r ty m args) (e.create E r' m (become_operands g args))
    create_s ty m args h hs =
        let x = method_class T m in
        andso (L.readies x) (λ _.
        andso (k.makes T (Raw x) (plain (base.Class x)) (new_fields T x) (types.erasure_base T [] (base.Class x) (Raw x) (types.raw_has x))) (λ a.
        andso (values_s args hs) (λ vs. with_type ty
        (λ y. behind (t.set_type P r a x (kept_by T y)) (behind (tc.call_direct P r.body m (Address a) vs []) (give (Address a)))) (λ s.
        first_silent tt {f = λ _. behind (tc.call_direct P r.body m (Address a) vs []) (give (Address a))} (made.is_born T a x (kept_by T (closed_in s ty)) (types.kept_by_base T (base.Class x) (closed_in s ty) (types.close_base s.frame.variables s.frame.captured (base.Class x) ty (types.class_base x ty h)))) (λ _.
        andso (directs m (Address a) vs []) (λ _. gives (Address a)))))))

    new_array_s : (b : Base) (n : ℕ) (x : Ty) → n ≤ 255 → IsLowered b n x → (count : ℕ) → Alike (t.new_array P r x count) (e.new_array E r' (record { base = b; dims = n }) count)
    new_array_s b n x small h count =
        let typed = t.new_array P r x count in
        let erased : Erased = record { base = b; dims = n } in
        subst (λ y. Alike typed (make (record { kept = erased; parts = replicate count (default_erased (element_of y)) }))) (types.erasure_lowered T b n x small h)
        (k.makes T (kept_array T x) erased (replicate count (default_erased (element_of (erasure T [] x)))) (types.erasure_lowered T b n (kept_array T x) small (types.kept_lowered T b n x h)))

    fill_s : (a at n : ℕ) {m : TypedRun Value} {m' : ErasedRun Value} → Alike m m' → Alike (t.fill P r a at n m) (e.fill E r' a at n m')
    fill_s a at zero em = gives tt
    fill_s a at (suc n) em = andso (andso em (λ v. k.sets_part T a at v)) (λ _. fill_s a (suc at) n em)

    arrays_s : (b : Base) (n : ℕ) (x : Ty) → n ≤ 255 → IsLowered b n x → (ns : List ℕ) → Alike (t.arrays P r x ns) (e.arrays E r' (record { base = b; dims = n }) ns)
    arrays_s b n x small h [] = gives _
    arrays_s b n x small h (count ∷ []) = andso (new_array_s b n x small h count) (λ a. gives (Address a))
    arrays_s b n x small h (count ∷ i ∷ ns) =
        andso (new_array_s b n x small h count) (λ a.
        andso (fill_s a 0 count
        (subst (λ y. Alike (t.arrays P r (t.element_type P r x) (i ∷ ns)) (e.arrays E r' y (i ∷ ns))) (sym (types.element_erased b n))
        (arrays_s b (less n) (t.element_type P r x) (types.still_small n small) (types.element_lowered (t.or_same P r) (λ y z. refl) (λ y. refl) b n x h) (i ∷ ns))))
        (λ _. gives (Address a)))

    lengths_s : (vs : List Value) → Alike (t.lengths_of P r vs) (e.lengths_of E r' vs)
    lengths_s [] = gives []
    lengths_s (v ∷ vs) = andso (made.somes T (whole_of v)) (λ n. choose_s (int_lt n (pos 0)) (k.raises T P.known.thrown.negative_size) (andso (lengths_s vs) (λ ns. gives _)))

    fill_with_s : (a at : ℕ) (os : List Operand) → FirmList T os → Alike (t.fill_with P r a at os) (e.fill_with E r' a at (map (become_operand g) os))
    fill_with_s a at [] h = gives _
    fill_with_s a at (o ∷ os) h = andso (value_s o h.0) (λ v. andso (set_element_s (Address a) (Whole (pos at)) v) (λ _. fill_with_s a (suc at) os h.1))

    -- the erasure of an array type that became another is that of the array type
    array_erased : (x : Ty) (h : FirmLayer (out-Ty x)) → erasure T [] (g x) ≡ record { base = (types.firm_array x h).base; dims = suc (types.firm_array x h).dims }
    array_erased x h = let a = types.firm_array x h in types.erasure_array T [] a.base a.dims (g x) a.small (G.arrays a.base a.dims x a.small a.is)

    new_arrays_s : (x : Ty) (h : FirmLayer (out-Ty x)) (ns : List ℕ) → Alike (bind (closed x) (λ y. t.arrays P r y ns)) (e.arrays E r' (erasure T [] (g x)) ns)
    new_arrays_s x h ns =
        let a = types.firm_array x h in
        subst (λ y. Alike (bind (closed x) (λ y. t.arrays P r y ns)) (e.arrays E r' y ns)) (sym (array_erased x h))
        (with_type x (λ y. t.arrays P r y ns) (λ s. arrays_s a.base (suc a.dims) (closed_in s x) a.small (types.close_array s.frame.variables s.frame.captured a.base a.dims x a.is) ns))

    filled_s : (x : Ty) (h : FirmLayer (out-Ty x)) (os : List Operand) → FirmList T os →
        Alike (bind (closed x) (λ y. bind (t.new_array P r y (length os)) (λ a. t.fill_with P r a 0 os))) (bind (e.new_array E r' (erasure T [] (g x)) (length (map (become_operand g) os))) (λ a. e.fill_with E r' a 0 (map (become_operand g) os)))
    filled_s x h os hs =
        let a = types.firm_array x h in
        let typed = bind (closed x) (λ y. bind (t.new_array P r y (length os)) (λ a. t.fill_with P r a 0 os)) in
        subst (λ y. Alike typed (bind (e.new_array E r' y (length (map (become_operand g) os))) (λ a. e.fill_with E r' a 0 (map (become_operand g) os)))) (sym (array_erased x h))
        (subst (λ n. Alike typed (bind (e.new_array E r' (record { base = a.base; dims = suc a.dims }) n) (λ a. e.fill_with E r' a 0 (map (become_operand g) os)))) (sym (count_becomes g os))
        (with_type x (λ y. bind (t.new_array P r y (length os)) (λ a. t.fill_with P r a 0 os)) (λ s. andso (new_array_s a.base (suc a.dims) (closed_in s x) a.small (types.close_array s.frame.variables s.frame.captured a.base a.dims x a.is) (length os)) (λ a. fill_with_s a 0 os hs))))

    forgets : (from n : ℕ) (u : ℕ) (s : TypedState) → erase_out (erasure T []) (t.forget P r from n u s) ≡ give tt u (erase_state (erasure T []) s)
    forgets from zero u s = refl
    forgets from (suc n) u s = forgets (suc from) n u _

    forget_s : (from n : ℕ) → Alike (t.forget P r from n) (give tt)
    forget_s from n = record { same = forgets from n }

    captured : (v : Value) (cs : List Capture) (u : ℕ) (s : TypedState) → erase_out (erasure T []) (t.capture P r v cs u s) ≡ give tt u (erase_state (erasure T []) s)
    captured v [] u s = refl
    captured v (x ∷ cs) u s = captured v cs u _

    pub capture_s : (v : Value) (cs : List Capture) → Alike (t.capture P r v cs) (give tt)
    capture_s v cs = record { same = captured v cs }

    noted_s : (b : Bool) (place : Place) (ty : Ty) (v : Value) → Alike (t.noted P r b place ty v) (give v)
    noted_s true place ty v = notes place ty v
    noted_s false place ty v = gives v

    form_s : (place : Place) (x : Ty) (f : Form) → FirmForm T x f → Alike (t.form_of P r place x f) (e.form_of E r' (g x) (become_form g f))
    form_s place x (Fixed before value named casts) h = andso (values_s before h) (λ _. constant_s value)
    form_s place x Null h = gives _
    form_s place x (Local n) h = made.locals T n
    form_s place x This h = made.locals T 0
    form_s place x (StaticField before f is_simple) h = andso (values_s before h) (λ _. get_static_s f)
    form_s place x (Field o f) h = andso (value_s o h) (get_field_s f)
    form_s place x (Element array index) h = andso (value_s array h.0) (λ a. andso (value_s index h.1) (get_element_s a))
    form_s place x (Length array) h = andso (value_s array h) length_s
    form_s place x (Prefix ops o) h = andso (value_s o h) (prefix_s ops)
    form_s place x (Chain first links) h = chain_s (value_s first h.0) links h.1
    form_s place x (AllOf os from up_to) h = first_silent tt (forget_s from (up_to - from)) (λ _. by_list os (e.all_true E r') (all_s (operand_list os) (firm_list os h)))
    form_s place x (AnyOf os from up_to) h = first_silent tt (forget_s from (up_to - from)) (λ _. by_list os (e.any_true E r') (any_s (operand_list os) (firm_list os h)))
    form_s place x (InstanceOf o to) h = andso (value_s o h) (instance_s to)
    form_s place x (Conditional test first other from up_to) h =
        andso (value_s test h.0) (λ v. first_silent tt (forget_s from (up_to - from)) (λ _. if_s v (value_s first h.1) (value_s other h.2)))
    form_s place x (Assign variable value store) h = andso (target_s variable h.0) (λ y. andso (value_s value h.1) (stored_s y store))
    form_s place x (Compound variable joint left right into) h =
        andso (target_s variable h.0) (λ y. andso (read_s y) (λ v.
        noted_first place x v
        {f' = λ w. bind (es.steps E r'.body r'.ready (become_steps g left) w) (λ z. bind (e.joined E r' joint z (e.value_of E r' (become_operand g right))) (λ i. bind (es.steps E r'.body r'.ready (become_steps g into) i) (e.assigned E r' y)))}
        (λ w. andso (stepping left w) (λ z. andso (joined_s joint z (value_s right h.1)) (λ i. andso (stepping into i) (assigned_s y))))))
    form_s place x (Change variable op from into b) h =
        andso (target_s variable h) (λ y. andso (read_s y) (λ v.
        noted_first place x v
        {f' = λ w. bind (es.steps E r'.body r'.ready (become_steps g from) w) (λ z. bind (given erased_keeping T P.known (stepped op z)) (e.changed E r' y (become_steps g into) b v))}
        (λ w. andso (stepping from w) (λ z. andso (given_s (stepped op z)) (changed_s y into b v)))))
    form_s place x (Call kind to m ts args phase thrown is_raw) h =
        andso (values_s to h.0) (λ o. andso (values_s args h.1) (λ vs. with_types ts (t.call_with P r kind m o vs) (λ xs. call_s kind m o vs xs)))
    form_s place x (New m args phase thrown is_raw) h = create_s x m args h.0 h.1
    form_s place x (NewArray lengths) h = andso (values_s lengths h.1) (λ vs. andso (lengths_s vs) (new_arrays_s x h.0))
    form_s place x (ArrayOf elements) h =
        by_list elements (λ os. bind (e.new_array E r' (erasure T [] (g x)) (length os)) (λ a. e.fill_with E r' a 0 os)) (filled_s x h.0 (operand_list elements) (firm_list elements h.1))
    form_s place x (Cast o to ss b) h = andso (value_s o h) (stepping ss)

    pub expr_s : (x : Expr) → FirmExpr T x → Alike (t.expr_act P r x) (e.expr_act E r' (become_expr g x))
    expr_s NoExpr h = wrongs
    expr_s (expr place x captures form) h =
        last_silent (form_s place x form h) (λ v. first_silent tt (capture_s v captures) (λ _. noted_s (t.is_noted P r form) place x v))
