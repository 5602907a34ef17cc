-- The items of a body, gone through from left to right: the locals in scope, the captured variables, the broken rules, and an answer for each item that asks for one
-- (JLS 6.3, 14).
use Rattle.std.specs.Prelude.{ℕ, ◌+◌, ◌||◌, ◌&&◌, not, Bool, true, false, ℤ, pos, List, [], ◌∷◌, ◌++◌, length, map, take, Option, Some, None, is_none, if◌then◌else◌, codes}
use Rattle.std.specs.Str.{bytes_eq}
use Rattle.jc_rules.specs.declared.rule.Place.{Place}
use Rattle.jc_rules.specs.declared.rule.Refusal.{Refusal}
use Rattle.jc_tree.specs.declared.expression.Expr.{Expr}
use Rattle.jc_tree.specs.declared.types.ClassTree.{ClassTree}
use Rattle.jc_types.specs.declared.constant.Constant.{Constant}
use Rattle.jc_types.specs.declared.constant.Constant.TheVariants.{Whole, Text}
use Rattle.jc_types.specs.declared.environment.Bounds.{Bounds}
use Rattle.jc_types.specs.declared.form.Arg.{Arg}
use Rattle.jc_types.specs.declared.form.Primitive.{Primitive}
use Rattle.jc_types.specs.declared.form.Primitive.TheVariants.{Boolean}
use Rattle.jc_types.specs.declared.form.Ty.{Ty}
use Rattle.jc_types.specs.declared.form.Ty.TheVariants.{Class, NullTy, Prim}
use Rattle.jc_types.specs.declared.table.Table.{Table}
use Rattle.jc_types.specs.Accessors.{class_named}
use Rattle.jc_types.specs.Arrays.{element}
use Rattle.jc_types.specs.Erasing.{erasure, object}
use Rattle.jc_types.specs.Reifying.{arguments}
use Rattle.jc_judge.specs.declared.question.Answer.{Answer as Asked}
use Rattle.jc_judge.specs.declared.question.Answer.TheVariants as asked
use Rattle.jc_judge.specs.Deciding.{answer_of}
use Rattle.jc_judge.specs.Kinds.{class_of, is_boolean, is_long, is_primitive}
use Rattle.jc_judge.specs.Views.{exacts, view}
use Rattle.jc_heaps.specs.Numbers.{int_eq}
use Rattle.jc_lub.specs.Lubs.{lub}
use Rattle.jc_lub.specs.Uncaptured.{object as object_type}
use Rattle.jc_repair.specs.Repairing.{repaired}
use Rattle.jc_overriding.specs.Viewing.{with_dims}
use Rattle.jc_convert.specs.declared.answer.Converts.{Converts}
use Rattle.jc_convert.specs.Converting.{assignment, invocation}
use Rattle.jc_typed.specs.declared.lists.Capture.{Capture}
use Rattle.jc_typed.specs.declared.program.Local.{Local}
use Rattle.jc_typed.specs.Trees.{Expr as Tree, NoExpr, expr, Step, Unbox, Operand, NoOperand, operand, Named}
use Rattle.jc_exprs_nodes_spec.specs.Told.{Told, Fine, Broken, Out, Run, fine, by_rule, breaking, breaks, typed, onward, provided, unless}
use Rattle.jc_exprs_nodes_spec.specs.Typeds.{Typed, Known, Kind, Settled, capturing, settled, type_of, known_of, known_in, constant_of, plain, bare, stepped, converted, steps_by, read_guard, use_guard, unconverted}
use Rattle.jc_exprs_parts_spec.specs.Assigning.{exact_primitive}
use Rattle.jc_exprs_parts_spec.specs.Constants.{constant_as}
use Rattle.jc_exprs_parts_spec.specs.Fields.{is_open_type}
use Rattle.jc_exprs_parts_spec.specs.Names.{array_operand, class_erased}
use Rattle.jc_exprs_spec.specs.Typing.{effect, initialised, typing}
use Rattle.jc_exprs_parts_spec.specs.Worlds.{World, LocalIn, at, written, written_class}
use Rattle.jc_stmts_spec.specs.Plans.{Item, Enter, Leave, Declare, Fill, Ask, Label, Each, Caught, Parameter, Fault, Want, Effect, Truth, Result, Nowhere, Selector, Thrown}

-- ---- answers

-- what an enhanced `for` goes over: whether that is an array, and an element's type, captured variables and steps into the variable
pub record Elements : Type 0 where
  pub is_array : Bool
  pub of_it : Operand
  pub ty : Ty
  pub captures : List Capture
  pub steps : List Step

-- the operand of an expression, the place and number of a local, the constant of a label, the elements of an enhanced `for`, or the types of a catch clause
pub data Answer : Type 0 where
  AnOperand : Operand → Answer
  ALocal : Place → ℕ → Answer
  AKey : ℤ → List Named → Answer
  AnEach : Elements → Answer
  SomeTypes : List Ty → Answer

-- ---- the state

-- a scope: how many locals were in scope before it, and of a `switch` the type of its selector and the constants of its labels so far
pub record Scope : Type 0 where
  pub size : ℕ
  pub selector : Option Ty
  pub keys : List ℤ

-- `locals` are those in scope, `all` those of the method so far by their numbers; `caught` are the types of the catch clause that was met last
pub record Course : Type 0 where
  pub locals : List LocalIn
  pub all : List Local
  pub scopes : List Scope
  pub caught : List Ty
  pub env : List Bounds
  pub broken : List Refusal
  pub answers : List Answer

abbrev pub no_scope : Scope
no_scope = record { size = 0; selector = None; keys = [] }

abbrev pub top_of : List Scope → Scope
top_of [] = no_scope
top_of (s ∷ ss) = s

abbrev pub below_top : List Scope → List Scope
below_top [] = []
below_top (s ∷ ss) = ss

-- ---- locals (JLS 14.4): 616 where one of the name is in scope

abbrev pub is_declared : List ℕ → List LocalIn → Bool
is_declared n [] = false
is_declared n (l ∷ ls) = bytes_eq n l.name || is_declared n ls

abbrev pub local_in_scope : List ℕ → ℕ → Ty → Bool → LocalIn
local_in_scope name number ty is_final = record { name = name; number = number; ty = ty; is_final = is_final; constant = None }

abbrev pub declared : Place → List ℕ → Ty → Bool → Course → Course
declared place name ty is_final c =
    record c {
      locals = c.locals ++ local_in_scope name (length c.all) ty is_final ∷ [];
      all = c.all ++ record { place = place; name = name; ty = ty; is_final = is_final } ∷ [];
      broken = c.broken ++ unless (not (is_declared name c.locals)) 616 place;
      answers = c.answers ++ ALocal place (length c.all) ∷ [];
    }

abbrev pub last_type : List LocalIn → Ty
last_type [] = NullTy
last_type (l ∷ []) = l.ty
last_type (l ∷ m ∷ ls) = last_type (m ∷ ls)

-- a final local of a primitive type or of type String that is initialised with a constant is a constant variable (JLS 4.12.4)
abbrev pub constant_from : Table → Ty → Option Known → Option Constant
constant_from T t None = None
constant_from T t (Some k) = constant_as T t k.value

abbrev pub known_in_tree : Tree → Option Known
known_in_tree NoExpr = None
known_in_tree (expr place ty captures form) = known_in form

abbrev pub known_in_operand : Option Operand → Option Known
known_in_operand None = None
known_in_operand (Some NoOperand) = None
known_in_operand (Some (operand start e ss)) = known_in_tree e

abbrev pub with_constant : Table → Option Known → LocalIn → LocalIn
with_constant T k l = record l { constant = if l.is_final then constant_from T l.ty k else None }

abbrev pub last_with : Table → Option Known → List LocalIn → List LocalIn
last_with T k [] = []
last_with T k (l ∷ []) = with_constant T k l ∷ []
last_with T k (l ∷ m ∷ ls) = l ∷ last_with T k (m ∷ ls)

-- ---- what expressions are wanted for

-- an answer of what is told
abbrev pub answers_of : {A : Type 0} → (A → Answer) → Told A → List Answer
answers_of f (Fine a) = f a ∷ []
answers_of f (Broken b bs) = []

-- a condition (JLS 14.9, 14.12 to 14.14): 607 where it isn't boolean after unboxing
abbrev pub converted_by : Table → List Bounds → ℕ → Typed → Converts → Run Operand
converted_by T env rule t c = provided (unconverted rule t.start c) (fine (converted T env t c))

abbrev pub truth : Table → Typed → Run Operand
truth T t env = converted_by T env 607 t (invocation T env (type_of t) (Prim Boolean)) env

-- the value of a `return` goes to the result by assignment (JLS 14.17)
abbrev pub returned : Table → Ty → Typed → Run Operand
returned T to t env = converted_by T env 607 t (assignment T env (type_of t) (constant_of t) to) env

-- the selector of a `switch` (JLS 14.11): char, byte, short, int, or exactly the class of one (614)
abbrev pub is_selector : Option Primitive → Bool
is_selector None = false
is_selector (Some p) = not (is_boolean p) && not (is_long p)

abbrev pub selector_steps : Ty → Option Primitive → List Step
selector_steps t None = []
selector_steps t (Some p) = if is_primitive t then [] else Unbox p ∷ []

abbrev pub selected : Table → Typed → Run Operand
selected T t =
    provided (unless (is_selector (exact_primitive T (type_of t))) 614 t.place)
    (fine (stepped t (selector_steps (type_of t) (exact_primitive T (type_of t)))))

-- what is thrown is a Throwable (JLS 14.18): 625 at the statement
abbrev pub throwable : Table → Ty
throwable T = Class (class_named T (codes "java.lang.Throwable")) []

abbrev pub not_below : ℕ → Place → Asked → List Refusal
not_below rule place asked.Yes = []
not_below rule place asked.No = breaking rule place ∷ []
not_below rule place asked.Deep = breaking 606 place ∷ []

abbrev pub thrown_by : Table → List Bounds → Place → Typed → List Refusal
thrown_by T env place t = not_below 625 place (answer_of T 64 env (type_of t) (throwable T))

abbrev pub thrown : Table → Place → Typed → Run Operand
thrown T place t env =
    provided (thrown_by T env place t) (fine (stepped t (use_guard T env (type_of t) (erasure T env (throwable T))))) env

abbrev pub result_target : Option Ty → Ty
result_target (Some t) = t
result_target None = NullTy

-- an expression for what it is wanted; `result` is the type of the method's result
abbrev pub wanted : World → Option Ty → Expr → Want → Run Operand
wanted W result e Effect = onward (effect W e) (λ t. fine (bare t))
wanted W result e Truth = onward (typing W None e) (truth W.table)
wanted W result e Result = onward (typing W result e) (returned W.table (result_target result))
wanted W result e Nowhere = onward (typing W None e) (λ t. fine (plain t))
wanted W result e Selector = onward (typing W None e) (selected W.table)
wanted W result e (Thrown n) = onward (typing W None e) (thrown W.table (at W n))

-- ---- labels of a `switch` (JLS 14.11): 614 at one that is no constant, or stands there twice; 607 at a constant that doesn't go to the selector's type by assignment

pub record Key : Type 0 where
  pub value : ℤ
  pub named : List Named

abbrev pub is_key : ℤ → List ℤ → Bool
is_key n [] = false
is_key n (m ∷ ms) = int_eq n m || is_key n ms

abbrev pub label_converts : Table → List Bounds → Typed → Option Ty → List Refusal
label_converts T env t None = []
label_converts T env t (Some to) = unconverted 607 t.start (assignment T env (type_of t) (constant_of t) to)

abbrev pub number_of : Constant → ℤ
number_of (Whole n p) = n
number_of (Text units) = pos 0

abbrev pub is_number_twice : List ℤ → Constant → Bool
is_number_twice keys (Whole n p) = is_key n keys
is_number_twice keys (Text units) = false

abbrev pub label_by : Table → List Bounds → Place → Scope → Typed → Option Known → Run Key
label_by T env place s t None = by_rule 614 place
label_by T env place s t (Some k) =
    provided (label_converts T env t s.selector ++ unless (not (is_number_twice s.keys k.value)) 614 place)
    (fine (record { value = number_of k.value; named = k.named }))

abbrev pub label_of : Table → Place → Scope → Typed → Run Key
label_of T place s t env = label_by T env place s t (known_of t) env

-- ---- enhanced `for` (JLS 14.14.2): 617 over what is neither an array nor an Iterable, 607 where an element doesn't go into the variable by assignment

abbrev pub iterable : Table → Ty → Option Ty
iterable T t = view T (class_named T (codes "java.lang.Iterable")) t

abbrev pub first_exact : List Ty → Ty
first_exact [] = object_type
first_exact (t ∷ ts) = t

-- X of Iterable<X>, and Object of the raw type
abbrev pub iterated_by : Option (List Arg) → Ty
iterated_by None = object_type
iterated_by (Some args) = first_exact (exacts args)

abbrev pub iterated : Table → Ty → Ty
iterated T v = iterated_by (arguments T v)

-- an element of this type, captured, goes into a variable; what `next()` gives is tested for the type that it is read as
abbrev pub each_by : Table → List Bounds → Typed → Bool → Operand → Ty → List Step → Kind → Converts → Run Elements
each_by T env t is_array of_it to guards k c =
    provided (unconverted 607 t.start c)
    (fine (record { is_array = is_array; of_it = of_it; ty = k.ty; captures = k.captures; steps = guards ++ steps_by T env k.ty c }))

abbrev pub each_into : Table → Typed → Bool → Operand → Ty → List Step → Kind → Run Elements
each_into T t is_array of_it to guards k env = each_by T env t is_array of_it to guards k (assignment T env k.ty None to) env

abbrev pub each_of : Table → Typed → Bool → Operand → Ty → List Step → Ty → Run Elements
each_of T t is_array of_it to guards x = onward (capturing T t.place x) (each_into T t is_array of_it to guards)

abbrev pub iterable_operand : Table → List Bounds → Settled → Operand
iterable_operand T env s = stepped s.it (use_guard T env (type_of s.it) (class_erased (class_named T (codes "java.lang.Iterable"))))

-- .. whose method `iterator` is called: 618 where the type may not be named there (JLS 6.6.1)
abbrev pub each_iterable : World → List Bounds → Settled → Ty → Option Ty → Run Elements
each_iterable W env s to None = by_rule 617 s.it.place
each_iterable W env s to (Some v) =
    provided (unless (is_open_type W s.ty) 618 s.it.place)
    (each_of W.table s.it false (iterable_operand W.table env s) to (read_guard W.table env object (iterated W.table v)) (iterated W.table v))

abbrev pub each_settled : World → List Bounds → Settled → Ty → Option Ty → Run Elements
each_settled W env s to (Some x) = each_of W.table s.it true (array_operand W.table env s) to [] x
each_settled W env s to None = each_iterable W env s to (iterable W.table s.ty)

abbrev pub each_type : World → Ty → Settled → Run Elements
each_type W to s env = each_settled W env s to (element s.ty) env

abbrev pub each : World → Expr → Ty → Run Elements
each W e to = onward (onward (typing W None e) (settled W.table)) (each_type W to)

-- ---- catch clauses (JLS 14.20): 625 at a clause one of whose types is no class below Throwable, or is below another one of them

abbrev pub is_class_type : Ty → Bool
is_class_type t = not (is_none (class_of t))

abbrev pub all_classes : List Ty → Bool
all_classes [] = true
all_classes (t ∷ ts) = is_class_type t && all_classes ts

abbrev pub all_throwable : Table → Place → List Ty → List Refusal
all_throwable T place [] = []
all_throwable T place (t ∷ ts) = not_below 625 place (answer_of T 64 [] t (throwable T)) ++ all_throwable T place ts

abbrev pub not_above : Place → Asked → List Refusal
not_above place asked.Yes = breaking 625 place ∷ []
not_above place asked.No = []
not_above place asked.Deep = breaking 606 place ∷ []

abbrev pub unrelated_to : Table → Place → Ty → List Ty → List Refusal
unrelated_to T place t [] = []
unrelated_to T place t (u ∷ us) = not_above place (answer_of T 64 [] t u) ++ not_above place (answer_of T 64 [] u t) ++ unrelated_to T place t us

abbrev pub all_unrelated : Table → Place → List Ty → List Refusal
all_unrelated T place [] = []
all_unrelated T place (t ∷ ts) = unrelated_to T place t ts ++ all_unrelated T place ts

abbrev pub caught_breaks : Table → Place → List Ty → List Refusal
caught_breaks T place ts = unless (all_classes ts) 625 place ++ all_throwable T place ts ++ all_unrelated T place ts

-- the type of the parameter: the one type, or the lub of all, repaired
abbrev pub caught_type : Table → List Bounds → List Ty → Ty
caught_type T env [] = NullTy
caught_type T env (t ∷ []) = t
caught_type T env (t ∷ u ∷ ts) = repaired T env (lub T env (t ∷ u ∷ ts))

-- ---- item by item

-- behind what is told of an item, with its answer
abbrev pub behind : {A : Type 0} → (A → Answer) → Out A → Course → Course
behind f o c = record c { env = o.env; broken = c.broken ++ breaks o.told; answers = c.answers ++ answers_of f o.told }

abbrev pub entered : Course → Course
entered c = record c { scopes = record { size = length c.locals; selector = None; keys = [] } ∷ c.scopes }

abbrev pub left : Course → Course
left c = record c { locals = take (top_of c.scopes).size c.locals; scopes = below_top c.scopes }

-- the initialiser of the local that was declared last
abbrev pub filled_by : Table → Out Operand → Course → Course
filled_by T o c = let d = behind (λ x. AnOperand x) o c in record d { locals = last_with T (known_in_operand (typed o.told)) d.locals }

-- a `switch` keeps the type of its selector
abbrev pub selector_type : Option Operand → Option Ty
selector_type None = None
selector_type (Some NoOperand) = None
selector_type (Some (operand start NoExpr ss)) = None
selector_type (Some (operand start (expr place ty captures form) ss)) = Some ty

abbrev pub keeping : Option Operand → Course → Course
keeping o c = record c { scopes = record (top_of c.scopes) { selector = selector_type o } ∷ below_top c.scopes }

abbrev pub asked_for : Want → Out Operand → Course → Course
asked_for Selector o c = keeping (typed o.told) (behind (λ x. AnOperand x) o c)
asked_for w o c = behind (λ x. AnOperand x) o c

-- .. and the constants of its labels
abbrev pub keys_of : Option Key → List ℤ
keys_of None = []
keys_of (Some k) = k.value ∷ []

abbrev pub labelled : Out Key → Course → Course
labelled o c =
    let d = behind (λ (k : Key). AKey k.value k.named) o c in
    record d { scopes = record (top_of d.scopes) { keys = (top_of d.scopes).keys ++ keys_of (typed o.told) } ∷ below_top d.scopes }

abbrev pub types_caught : World → ClassTree → List ClassTree → List Ty
types_caught W first more = map (written_class W) (first ∷ more)

-- in a world whose locals are those in scope
abbrev pub item_on : (List LocalIn → World) → Option Ty → Course → Item → Course
item_on W result c Enter = entered c
item_on W result c Leave = left c
item_on W result c (Declare name ty dims is_final) =
    declared (at (W c.locals) name.at) name.text (with_dims dims (written (W c.locals) ty)) is_final c
item_on W result c (Fill i) = filled_by (W c.locals).table (initialised (W c.locals) (last_type c.locals) i c.env) c
item_on W result c (Ask e w) = asked_for w (wanted (W c.locals) result e w c.env) c
item_on W result c (Label n e) =
    labelled (onward (typing (W c.locals) None e) (label_of (W c.locals).table (at (W c.locals) n) (top_of c.scopes)) c.env) c
item_on W result c (Each e ty dims) = behind (λ x. AnEach x) (each (W c.locals) e (with_dims dims (written (W c.locals) ty)) c.env) c
item_on W result c (Caught n first more) =
    record c {
      caught = types_caught (W c.locals) first more;
      broken = c.broken ++ caught_breaks (W c.locals).table (at (W c.locals) n) (types_caught (W c.locals) first more);
      answers = c.answers ++ SomeTypes (types_caught (W c.locals) first more) ∷ [];
    }
item_on W result c (Parameter name is_final) =
    declared (at (W c.locals) name.at) name.text (caught_type (W c.locals).table c.env c.caught) is_final c
item_on W result c (Fault rule n) = record c { broken = c.broken ++ breaking rule (at (W c.locals) n) ∷ [] }

abbrev pub items_on : (List LocalIn → World) → Option Ty → Course → List Item → Course
items_on W result c [] = c
items_on W result c (i ∷ is) = items_on W result (item_on W result c i) is
