-- Calls of methods (JLS 15.12), and what they share with creations: arguments, and the member that is chosen.
use Rattle.std.specs.Prelude.{ℕ, ◌||◌, ◌&&◌, not, Bool, true, false, List, [], ◌∷◌, ◌++◌, map, drop, Option, Some, None, if◌then◌else◌}
use Rattle.jc_rules.specs.declared.rule.Place.{Place}
use Rattle.jc_rules.specs.declared.rule.Refusal.{Refusal}
use Rattle.jc_tree.specs.declared.types.TypeArg.{TypeArg}
use Rattle.jc_types.specs.declared.conversion.Phase.{Phase}
use Rattle.jc_types.specs.declared.conversion.Phase.TheVariants as phase
use Rattle.jc_types.specs.declared.environment.Bounds.{Bounds}
use Rattle.jc_types.specs.declared.erased.Base.{Base}
use Rattle.jc_types.specs.declared.erased.Base.TheVariants as base
use Rattle.jc_types.specs.declared.erased.Erased.{Erased}
use Rattle.jc_types.specs.declared.form.Arg.{Arg-F, out-Arg}
use Rattle.jc_types.specs.declared.form.Ty.{Ty}
use Rattle.jc_types.specs.declared.form.Ty.TheVariants.{NullTy}
use Rattle.jc_types.specs.declared.ids.ClassId.{ClassId}
use Rattle.jc_types.specs.declared.ids.MethodId.{MethodId}
use Rattle.jc_types.specs.declared.table.Table.{Table}
use Rattle.jc_types.specs.Accessors.{params_of, result_of}
use Rattle.jc_types.specs.Arrays.{element}
use Rattle.jc_types.specs.Erasing.{erasure}
use Rattle.jc_types.specs.Sameness.{same}
use Rattle.jc_judge.specs.Kinds.{ArgLayer, is_primitive}
use Rattle.jc_overriding.specs.declared.view.MethodView.{MethodView}
use Rattle.jc_overriding.specs.Viewing.{erased_type, is_static, own_type}
use Rattle.jc_overriding.specs.Overriding.{access_of, is_abstract, members, owner}
use Rattle.jc_convert.specs.Converting.{invocation}
use Rattle.jc_resolve.specs.declared.choice.Choice.{Choice}
use Rattle.jc_resolve.specs.declared.choice.Choice.TheVariants as choice
use Rattle.jc_resolve.specs.declared.choice.Chosen.{Chosen}
use Rattle.jc_resolve.specs.declared.site.CallSite.{CallSite}
use Rattle.jc_resolve.specs.Choosing.{resolved}
use Rattle.jc_resolve_sites.specs.Sites.{apart_site}
use Rattle.jc_typed.specs.declared.expressions.CallKind.{CallKind}
use Rattle.jc_typed.specs.declared.expressions.CallKind.TheVariants as kind
use Rattle.jc_typed.specs.Trees.{Step, Up, Operand, operand, Operands, NoOperands, MoreOperands, ArrayOf, Call}
use Rattle.jc_exprs_nodes_spec.specs.Told.{Run, fine, by_rule, breaking, onward, provided, unless}
use Rattle.jc_exprs_nodes_spec.specs.Typeds.{Typed, Settled, node, type_of, tree, captured, plain, stepped, one_operand, steps_by, read_guard, use_guard, settled}
use Rattle.jc_exprs_parts_spec.specs.Fields.{is_open_class, is_private, is_raw_as, may_name_method}
use Rattle.jc_exprs_parts_spec.specs.Senses.{Sense, OfClass}
use Rattle.jc_exprs_parts_spec.specs.Worlds.{World, named_class, round, this_type, written_arg}
use Rattle.jc_exprs_parts_spec.specs.Names.{Meaning, Value, Other, class_erased, instance_breaks, super_type, this_at}

-- ---- explicit type arguments (JLS 15.12): types, no wildcards and no primitive types (623)

abbrev pub exact_or_null : ArgLayer → Ty
exact_or_null (Arg-F.Exact t) = t
exact_or_null _ = NullTy

abbrev pub is_type_at : ArgLayer → Bool
is_type_at (Arg-F.Exact t) = not (is_primitive t)
is_type_at _ = false

abbrev pub explicit_types : World → List TypeArg → List Ty
explicit_types W args = map (λ a. exact_or_null (out-Arg (written_arg W a))) args

abbrev pub all_types : World → List TypeArg → Bool
all_types W [] = true
all_types W (a ∷ args) = is_type_at (out-Arg (written_arg W a)) && all_types W args

-- ---- arguments (JLS 15.12.2, 15.12.4.2): each is converted to its parameter's type, and used as one of the declared parameter's erased type

abbrev pub types_of : List Typed → List Ty
types_of ts = map (λ (t : Typed). type_of t) ts

abbrev pub erasures_of : Table → List Ty → List Erased
erasures_of T ts = map (λ t. erasure T [] t) ts

abbrev pub passed_to : Table → List Bounds → Typed → Ty → List Step
passed_to T env t p = steps_by T env (type_of t) (invocation T env (type_of t) p)

abbrev pub passed : Table → List Bounds → Operands → List Typed → List Ty → List Erased → Operands
passed T env before [] ps es = before
passed T env before (t ∷ ts) [] es = passed T env (MoreOperands before (plain t)) ts [] es
passed T env before (t ∷ ts) (p ∷ ps) [] = passed T env (MoreOperands before (stepped t (passed_to T env t p))) ts ps []
passed T env before (t ∷ ts) (p ∷ ps) (e ∷ es) =
    passed T env (MoreOperands before (stepped t (passed_to T env t p ++ use_guard T env p e))) ts ps es

-- In a call by variable arity what is left goes into one array: its element type is erased, and its elements go up to the parameter's element type
-- (JLS 15.12.4.2)
abbrev pub elements_to : Table → List Bounds → Operands → List Typed → Ty → Operands
elements_to T env before [] p = before
elements_to T env before (t ∷ ts) p = elements_to T env (MoreOperands before (stepped t (passed_to T env t p))) ts p

abbrev pub or_same : Ty → Option Ty → Ty
or_same t None = t
or_same t (Some u) = u

abbrev pub up_to_param : Ty → Ty → List Step
up_to_param s p = if same s p then [] else Up p false ∷ []

abbrev pub array_type : Table → List Bounds → Ty → Ty
array_type T env p = erased_type T (erasure T env p)

abbrev pub packed_array : Table → List Bounds → Place → List Typed → Ty → List Step → Operand
packed_array T env place ts p guards =
    operand place (tree (node place (array_type T env p) (ArrayOf (elements_to T env NoOperands ts (or_same p (element p)))))) (up_to_param (array_type T env p) p ++ guards)

abbrev pub guards_of : Table → List Bounds → Ty → List Erased → List Step
guards_of T env p [] = []
guards_of T env p (e ∷ es) = use_guard T env p e

abbrev pub packed : Table → List Bounds → Place → Operands → List Typed → List Ty → List Erased → Operands
packed T env place before ts [] es = passed T env before ts [] es
packed T env place before ts (p ∷ []) es = MoreOperands before (packed_array T env place ts p (guards_of T env p es))
packed T env place before [] (p ∷ q ∷ ps) es = before
packed T env place before (t ∷ ts) (p ∷ q ∷ ps) es =
    packed T env place (MoreOperands before (stepped t (passed_to T env t p ++ guards_of T env p es))) ts (q ∷ ps) (drop 1 es)

abbrev pub arguments_in : Table → List Bounds → Place → Phase → List Typed → List Ty → List Erased → Operands
arguments_in T env place phase.VariableArity ts ps es = packed T env place NoOperands ts ps es
arguments_in T env place _ ts ps es = passed T env NoOperands ts ps es

-- the arguments of a chosen member
abbrev pub arguments : Table → List Bounds → Place → List Typed → Chosen → Operands
arguments T env place ts c = arguments_in T env place c.phase ts c.params (erasures_of T (params_of T c.member.id))

-- ---- which members there are, and which of them is meant

-- of the members of a type those that may be named there (JLS 15.12.2.1)
abbrev pub accessible : World → Ty → List MethodView → List MethodView
accessible W t [] = []
accessible W t (m ∷ ms) = if may_name_method W t m.id then m ∷ accessible W t ms else accessible W t ms

abbrev pub site : List MethodView → List Ty → List Typed → Option Ty → CallSite
site ms explicit ts target = record { members = ms; explicit = explicit; args = types_of ts; target = target }

-- 603 where there is none, 618 where none may be named
abbrev pub members_breaks : Place → List MethodView → List MethodView → List Refusal
members_breaks place [] open_ones = breaking 603 place ∷ []
members_breaks place (m ∷ ms) [] = breaking 618 place ∷ []
members_breaks place (m ∷ ms) (n ∷ ns) = []

-- 604, 605, 606
abbrev pub choice_breaks : Place → Choice → List Refusal
choice_breaks place (choice.Chosen c) = []
choice_breaks place choice.NoMember = breaking 603 place ∷ []
choice_breaks place choice.NoneApplicable = breaking 604 place ∷ []
choice_breaks place (choice.Ambiguous a b) = breaking 605 place ∷ []
choice_breaks place choice.Deep = breaking 606 place ∷ []

-- what is made of the chosen member
abbrev pub by_choice : {A : Type 0} → Place → Choice → (Chosen → Run A) → Run A
by_choice place (choice.Chosen c) f = f c
by_choice place c f = provided (choice_breaks place c) (by_rule 604 place)

-- A call by variable arity makes an array: where the class of its elements may not be named there, the member isn't applicable by it (JLS 15.12.2.4)
abbrev pub is_open_base : World → Base → Bool
is_open_base W (base.Class k) = is_open_class W (Some k)
is_open_base W b = true

abbrev pub is_open_array : World → List Bounds → List Ty → Bool
is_open_array W env [] = true
is_open_array W env (p ∷ []) = is_open_base W (erasure W.table env p).base
is_open_array W env (p ∷ q ∷ ps) = is_open_array W env (q ∷ ps)

abbrev pub may_pass : World → List Bounds → Phase → List Ty → Bool
may_pass W env phase.VariableArity ps = is_open_array W env ps
may_pass W env _ ps = true

abbrev pub open_choice : World → List Bounds → Choice → Choice
open_choice W env (choice.Chosen c) = if may_pass W env c.phase c.params then choice.Chosen c else choice.NoneApplicable
open_choice W env c = c

-- a choice among the members of a type that may be named there, by the arguments, explicit type arguments and a target
abbrev pub choice_of : World → List Bounds → Ty → List MethodView → List Ty → List Typed → Option Ty → Choice
choice_of W env t ms explicit ts target = open_choice W env (resolved W.table env (apart_site W.table t (site ms explicit ts target)))

-- it is asked where there is such a member, and nothing else is broken before
abbrev pub chosen_among : {A : Type 0} → World → Place → Ty → List Refusal → List MethodView → List Ty → List Typed → Option Ty → (Chosen → Run A) → List Bounds → Run A
chosen_among W place t broken ms explicit ts target f env =
    provided (broken ++ members_breaks place ms (accessible W t ms)) (by_choice place (choice_of W env t (accessible W t ms) explicit ts target) f)

unfoldable pub choosing : {A : Type 0} → World → Place → Ty → List Refusal → List MethodView → List Ty → List Typed → Option Ty → (Chosen → Run A) → Run A
choosing W place t broken ms explicit ts target f env = chosen_among W place t broken ms explicit ts target f env env

-- ---- the call (JLS 15.12.3)

-- what stands before a call: a value whose settled type has the method; the instance of the place, of its own class or through `super`; or a class
pub data Receiver : Type 0 where
  OnValue : Settled → Receiver
  OnThis : Place → Receiver
  OnSuper : Place → Ty → Receiver
  OnClass : ClassId → Receiver
  OnOuter : ClassId → Receiver

-- the type whose members are asked
abbrev pub searched : World → Receiver → Ty
searched W (OnValue s) = s.ty
searched W (OnThis place) = this_type W
searched W (OnSuper place t) = t
searched W (OnClass k) = named_class W.table k
searched W (OnOuter k) = own_type W.table k

-- .. those of a variable or an intersection by its bounds, and so without the private ones (JLS 4.4, 4.9)
abbrev pub without_private : Table → List MethodView → List MethodView
without_private T [] = []
without_private T (m ∷ ms) = if is_private (access_of T m.id) then without_private T ms else m ∷ without_private T ms

abbrev pub methods_by : World → Bool → Ty → List ℕ → List MethodView
methods_by W true t n = without_private W.table (members W.table t n)
methods_by W false t n = members W.table t n

abbrev pub methods_of : World → Receiver → List ℕ → List MethodView
methods_of W (OnValue s) n = methods_by W s.by_bounds s.ty n
methods_of W r n = members W.table (searched W r) n

abbrev pub is_super : Receiver → Bool
is_super (OnSuper place t) = true
is_super _ = false

abbrev pub kind_of : Bool → Bool → CallKind
kind_of true is_direct = kind.Static
kind_of false true = kind.Direct
kind_of false false = kind.Virtual

abbrev pub call_kind : Table → Receiver → MethodId → CallKind
call_kind T r m = kind_of (is_static T m) (is_super r || is_private (access_of T m))

-- an object on which an instance method is called, as one of the method's class
abbrev pub object_for : Table → List Bounds → Typed → MethodId → Operands
object_for T env t m = one_operand (stepped t (use_guard T env (type_of t) (class_erased (owner T m))))

abbrev pub object_operand : World → List Bounds → Receiver → MethodId → Operands
object_operand W env (OnValue s) m = object_for W.table env s.it m
object_operand W env (OnThis place) m = object_for W.table env (this_at W place) m
object_operand W env (OnSuper place t) m = object_for W.table env (this_at W place) m
object_operand W env (OnClass k) m = NoOperands
object_operand W env (OnOuter k) m = NoOperands

-- before a static method a value is evaluated and dropped
abbrev pub dropped_operand : Receiver → Operands
dropped_operand (OnValue s) = one_operand (plain s.it)
dropped_operand _ = NoOperands

abbrev pub receiver_operands : World → List Bounds → Receiver → MethodId → Bool → Operands
receiver_operands W env r m true = dropped_operand r
receiver_operands W env r m false = object_operand W env r m

-- an instance method wants an instance: 611 through a class, or in a static place, and 620 before there is one
abbrev pub receiver_breaks : World → Place → Receiver → Bool → List Refusal
receiver_breaks W place r true = []
receiver_breaks W place (OnValue s) false = []
receiver_breaks W place (OnThis at) false = instance_breaks W.here place
receiver_breaks W place (OnSuper at t) false = []
receiver_breaks W place (OnClass k) false = breaking 611 place ∷ []
receiver_breaks W place (OnOuter k) false = breaking 611 place ∷ []

-- 621: an abstract method through `super`
abbrev pub super_breaks : Place → Bool → Bool → List Refusal
super_breaks place true true = breaking 621 place ∷ []
super_breaks place _ _ = []

-- the receiver's view as the method's class is raw; static methods are as they are declared
abbrev pub is_raw_call : World → Receiver → MethodId → Bool
is_raw_call W r m = not (is_static W.table m) && is_raw_as W.table (searched W r) (owner W.table m)

abbrev pub result_erasure : Table → MethodId → Option Ty → Erased
result_erasure T m None = erasure T [] NullTy
result_erasure T m (Some t) = erasure T [] t

-- a result that is read as one of another type than the declared one is tested; a method without a result gives the null type, which nothing reads
abbrev pub call_typed : World → List Bounds → Place → Receiver → List Typed → Chosen → Option Ty → Run Typed
call_typed W env place r ts c None =
    fine (node place NullTy
    (Call (call_kind W.table r c.member.id) (receiver_operands W env r c.member.id (is_static W.table c.member.id)) c.member.id c.type_args (arguments W.table env place ts c) c.phase c.thrown
    (is_raw_call W r c.member.id)))
call_typed W env place r ts c (Some t) =
    captured W.table place t
    (Call (call_kind W.table r c.member.id) (receiver_operands W env r c.member.id (is_static W.table c.member.id)) c.member.id c.type_args (arguments W.table env place ts c) c.phase c.thrown
    (is_raw_call W r c.member.id))
    (read_guard W.table env (result_erasure W.table c.member.id (result_of W.table c.member.id)) t)

abbrev pub call_breaks : World → Place → Receiver → MethodId → List Refusal
call_breaks W place r m =
    receiver_breaks W place r (is_static W.table m) ++ super_breaks place (is_super r) (is_abstract W.table m)

abbrev pub called_by : World → Place → Receiver → List Typed → Chosen → List Bounds → Run Typed
called_by W place r ts c env = provided (call_breaks W place r c.member.id) (call_typed W env place r ts c c.result)

abbrev pub called_with : World → Place → Receiver → List Typed → Chosen → Run Typed
called_with W place r ts c env = called_by W place r ts c env env

-- a call of a method of this name, explicit type arguments being written or none
unfoldable pub called : World → Place → Receiver → List ℕ → List TypeArg → List Typed → Option Ty → Run Typed
called W place r n explicit ts target =
    choosing W place (searched W r) (unless (all_types W explicit) 623 place) (methods_of W r n) (explicit_types W explicit) ts target
    (called_with W place r ts)

-- ---- which class or value is searched (JLS 15.12.1)

-- What stands before a point: a value, whose members are asked before the arguments have their types, as it is evaluated before them (JLS 15.7.4, 15.12.4.1); or no value
pub data Before : Type 0 where
  OfValue : Settled → Before
  OfSense : Sense → Before

abbrev pub asked : World → Meaning → Run Before
asked W (Value v) = onward (settled W.table v) (λ s. fine (OfValue s))
asked W (Other s) = fine (OfSense s)

-- behind a point: a value, or a class; 602 for a package
unfoldable pub call_on : World → Place → List ℕ → List TypeArg → Option Ty → Before → List Typed → Run Typed
call_on W place n explicit target (OfValue s) ts = called W place (OnValue s) n explicit ts target
call_on W place n explicit target (OfSense (OfClass k)) ts = called W place (OnClass k) n explicit ts target
call_on W place n explicit target (OfSense s) ts = by_rule 602 place

-- unqualified: the first of the classes round the place that has a method of the name
abbrev pub called_or : World → Place → Receiver → List ℕ → List Typed → Option Ty → List MethodView → Run Typed → Run Typed
called_or W place r n ts target [] further = further
called_or W place r n ts target (m ∷ ms) further = called W place r n [] ts target

abbrev pub call_outside : World → Place → List ℕ → Option Ty → List Typed → List ClassId → Run Typed
call_outside W place n target ts [] = by_rule 603 place
call_outside W place n target ts (k ∷ ks) =
    called_or W place (OnOuter k) n ts target (members W.table (own_type W.table k) n) (call_outside W place n target ts ks)

unfoldable pub call_here : World → Place → List ℕ → Option Ty → List Typed → Run Typed
call_here W place n target ts =
    called_or W place (OnThis place) n ts target (members W.table (this_type W) n) (call_outside W place n target ts (drop 1 (round W)))

-- through `super` (JLS 15.12.1, 15.12.3)
abbrev pub super_called : World → Place → List ℕ → List TypeArg → Option Ty → List Typed → Option Ty → Run Typed
super_called W place n explicit target ts None = by_rule 603 place
super_called W place n explicit target ts (Some t) = called W place (OnSuper place t) n explicit ts target

unfoldable pub call_super : World → Place → List ℕ → List TypeArg → Option Ty → List Typed → Run Typed
call_super W place n explicit target ts =
    provided (instance_breaks W.here place) (super_called W place n explicit target ts (super_type W))
