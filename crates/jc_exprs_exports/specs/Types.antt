-- The type of each form of expression before capture, from its parts (JLS 15).
use Rattle.std.specs.Prelude.{◌≡◌, ◌≤◌, ◌⊎◌, ℕ, ◌+◌, ◌-◌, ◌&&◌, not, Bool, true, false, List, [], ◌∷◌, ◌++◌, map, length, take, Option, Some, None, slice_get, if◌then◌else◌}
use Rattle.jc_types.specs.declared.constant.Constant.{Constant}
use Rattle.jc_types.specs.declared.constant.Constant.TheVariants as constant
use Rattle.jc_types.specs.declared.conversion.Phase.{Phase}
use Rattle.jc_types.specs.declared.conversion.Phase.TheVariants as phase
use Rattle.jc_types.specs.declared.environment.Bounds.{Bounds}
use Rattle.jc_types.specs.declared.erased.Base.TheVariants as base
use Rattle.jc_types.specs.declared.erased.Erased.{Erased}
use Rattle.jc_types.specs.declared.form.Primitive.{Primitive}
use Rattle.jc_types.specs.declared.form.Primitive.TheVariants.{Boolean, Int}
use Rattle.jc_types.specs.declared.form.Ty.{Ty, Ty-F, out-Ty}
use Rattle.jc_types.specs.declared.form.Ty.TheVariants.{Class, NullTy, Prim}
use Rattle.jc_types.specs.declared.ids.ClassId.{ClassId}
use Rattle.jc_types.specs.declared.ids.FieldId.{FieldId}
use Rattle.jc_types.specs.declared.ids.MethodId.{MethodId}
use Rattle.jc_types.specs.declared.table.Table.{Table}
use Rattle.jc_types.specs.Accessors.{field_type_of, method_owner_of, params_of, supers_of, vars_of}
use Rattle.jc_types.specs.Arrays.{element}
use Rattle.jc_types.specs.Erasing.{erasure}
use Rattle.jc_types.specs.Reifying.{reifiable}
use Rattle.jc_types.specs.Sameness.{same}
use Rattle.jc_types.specs.Substitution.{subst}
use Rattle.jc_judge.specs.Meeting.{are_exact}
use Rattle.jc_judge.specs.Views.{view}
use Rattle.jc_judge.specs.Kinds.{Layer, is_null, is_primitive}
use Rattle.jc_overriding.specs.Signatures.{erased_within}
use Rattle.jc_overriding.specs.Viewing.{Seeing, With, Raised, erased_type, is_static, plain, seeing_of, view_of_method}
use Rattle.jc_overriding.specs.declared.view.MethodView.{MethodView}
use Rattle.jc_boxes.specs.Boxes.{boxed}
use Rattle.jc_lub.specs.Lubs.{lub}
use Rattle.jc_repair.specs.Repairing.{repaired}
use Rattle.jc_convert.specs.Converting.{is_raw_view}
use Rattle.jc_resolve_sites.specs.Sites.{apart}
use Rattle.jc_heaps.specs.Classes.{class_of}
use Rattle.jc_heaps.specs.Layout.{field_class, or_object}
use Rattle.jc_typed.specs.declared.expressions.CallKind.{CallKind}
use Rattle.jc_typed.specs.declared.expressions.CallKind.TheVariants as kind
use Rattle.jc_typed.specs.declared.expressions.Joint.{Joint}
use Rattle.jc_typed.specs.declared.expressions.Joint.TheVariants as joint
use Rattle.jc_typed.specs.Trees.{Step, Up, Expr, NoExpr, expr, Operand, NoOperand, operand, Form, Fixed, Null, Local, This, StaticField, Field, Element, Length, Prefix, Chain, AllOf, AnyOf, InstanceOf, Conditional, Assign, Compound, Change, Call, New, NewArray, ArrayOf, Cast, Variable, LocalVariable, StaticVariable, FieldVariable, ElementVariable, Operands, NoOperands, MoreOperands, Links, NoLinks, MoreLinks}
use Rattle.jc_exprs_exports.specs.Captured.{count_operand, count_operands}
use Rattle.jc_exprs_exports.specs.Formed.{TypeArgsFit}
use Rattle.jc_unchecked_spec.specs.Bodies.{type_of_operand}
use Rattle.jc_exprs_exports.specs.Leading.{CastLeads, GoesUnchecked, Leads, LeadsAs, LiftsTo}
use Rattle.jc_exprs_exports.specs.Opening.{settled}

-- what a body stands in: the table, the class String, the bounds of all captured variables of the method, the declared types of its variables, and its declared result
pub record Home : Type 0 where
  pub table : Table
  pub string : ClassId
  pub env : List Bounds
  pub locals : List Ty
  pub result : Option Ty

-- the captured variables that there are up to a number
abbrev pub env_to : Home → ℕ → List Bounds
env_to H n = take n H.env

-- the static type of an expression, behind its own capture
abbrev pub static_type : Expr → Ty
static_type NoExpr = NullTy
static_type (expr place ty captures form) = ty

-- an operand leads to a type, where n captured variables are there, and may be used as one of these erased types
abbrev pub OperandLeadsAs : (Erased → Type 0) → Home → ℕ → Operand → Ty → Type 0
OperandLeadsAs Used H n NoOperand t = ⊥
OperandLeadsAs Used H n (operand place of_it ss) t = LeadsAs Used H.table (env_to H n) (static_type of_it) ss t

abbrev pub OperandLeads : Home → ℕ → Operand → Ty → Type 0
OperandLeads H n o t = OperandLeadsAs (λ e. ⊥) H n o t

-- .. to some type, wherever its conversion was asked: the first operand of `&&` is asked behind the second one
abbrev pub Led : Home → Operand → Type 0
Led H o = (m : ℕ) × ((t : Ty) × OperandLeads H m o t)

abbrev pub AllLed : Home → Operands → Type 0
AllLed H NoOperands = Unit {0}
AllLed H (MoreOperands before last) = AllLed H before × Led H last

-- .. to a type whose members are asked: it is settled, which makes the last of the n captured variables. The value is used as one of an erased type that the settled type tells
abbrev pub IsAsked : Home → ℕ → (Ty → Erased) → (Ty → Type 0) → Operand → Type 0
IsAsked H n used Q o =
    (t : Ty) × (k : ℕ) × OperandLeadsAs (λ e. e ≡ used (settled H.table (env_to H k) t).ty) H n o t × (n ≡ k + length (settled H.table (env_to H k) t).captures)
    × Q (settled H.table (env_to H k) t).ty

-- the object of a member is used as one of the member's class, and an array as one of its own erasure
abbrev pub as_class : ClassId → Ty → Erased
as_class k s = record { base = base.Class k; dims = 0 }

abbrev pub as_array : Home → ℕ → Ty → Erased
as_array H n s = erasure H.table (env_to H n) s

-- Each operand leads to one type, where all of them are there already, or, in an array initialiser, as each is behind itself
abbrev pub EachAlone : Home → ℕ → Operands → Ty → Type 0
EachAlone H n NoOperands t = Unit {0}
EachAlone H n (MoreOperands before last) t = EachAlone H (n - count_operand last) before t × OperandLeads H n last t

abbrev pub EachLeads : Home → ℕ → Operands → Ty → Type 0
EachLeads H n NoOperands t = Unit {0}
EachLeads H n (MoreOperands before last) t = EachLeads H n before t × OperandLeads H n last t

-- each argument leads to its parameter's type, the last argument to the last parameter, and is used as one of the erasure of what is declared
abbrev pub LeadsThere : (Erased → Type 0) → Home → ℕ → Operand → Option Ty → Type 0
LeadsThere Used H n o None = ⊥
LeadsThere Used H n o (Some t) = OperandLeadsAs Used H n o t

abbrev pub erasures_of : Home → MethodId → List Erased
erasures_of H m = map (λ t. erasure H.table [] t) (params_of H.table m)

abbrev pub IsDeclaredAt : Home → MethodId → ℕ → Erased → Type 0
IsDeclaredAt H m i e = slice_get (erasures_of H m) i ≡ Some e

abbrev pub ArgsLead : Home → ℕ → MethodId → List Ty → Operands → ℕ → Type 0
ArgsLead H n m params NoOperands at = at ≡ 0
ArgsLead H n m params (MoreOperands before last) at =
    (i : ℕ) × (at ≡ i + 1) × ArgsLead H n m params before i × LeadsThere (IsDeclaredAt H m i) H n last (slice_get params i)

-- Arguments of a variable number go into an array of the erasure of the last parameter's type, whose elements lead to that type's element type (JLS 15.12.4.2). It goes up to
-- the parameter's type as that stands: where that isn't reifiable, the call has a warning
abbrev pub ElementsLead : Home → ℕ → Form → Option Ty → Type 0
ElementsLead H n (ArrayOf elements) (Some t) = EachLeads H n elements t
ElementsLead H n form t = ⊥

abbrev pub PacksIn : Home → ℕ → Expr → Option Ty → Type 0
PacksIn H n NoExpr t = ⊥
PacksIn H n (expr place ty captures form) t = ElementsLead H n form t

abbrev pub up_unless_same : Ty → Ty → List Step
up_unless_same s t = if same s t then [] else Up t false ∷ []

abbrev pub PacksTo : (Erased → Type 0) → Home → ℕ → Operand → Ty → Type 0
PacksTo Used H n NoOperand p = ⊥
PacksTo Used H n (operand place of_it ss) p =
    PacksIn H n of_it (element p) × (static_type of_it ≡ erased_type H.table (erasure H.table (env_to H n) p))
    × ((guards : List Step) × (ss ≡ up_unless_same (static_type of_it) p ++ guards) × LeadsAs Used H.table (env_to H n) p guards p)

abbrev pub PacksThere : (Erased → Type 0) → Home → ℕ → Operand → Option Ty → Type 0
PacksThere Used H n o None = ⊥
PacksThere Used H n o (Some p) = PacksTo Used H n o p

-- the arguments of a call, one for each parameter, by the phase in which the method was found (JLS 15.12.2.2 to 15.12.2.4)
abbrev pub ArgsLeadIn : Home → ℕ → Phase → MethodId → List Ty → Operands → ℕ → Type 0
ArgsLeadIn H n phase.VariableArity m params NoOperands at = ⊥
ArgsLeadIn H n phase.VariableArity m params (MoreOperands before last) at =
    (i : ℕ) × (at ≡ i + 1) × ArgsLead H n m params before i × PacksThere (IsDeclaredAt H m i) H n last (slice_get params i)
ArgsLeadIn H n phase.Subtyping m params args at = ArgsLead H n m params args at
ArgsLeadIn H n phase.Invocation m params args at = ArgsLead H n m params args at

-- some argument, or some element of the array of arguments of a variable number, is converted unchecked (JLS 5.1.9)
abbrev mutual
  pub SomeUnchecked : Home → ℕ → Operands → Type 0
  SomeUnchecked H n NoOperands = ⊥
  SomeUnchecked H n (MoreOperands before last) = SomeUnchecked H n before ⊎ IsUnchecked H n last

  pub IsUnchecked : Home → ℕ → Operand → Type 0
  IsUnchecked H n NoOperand = ⊥
  IsUnchecked H n (operand place of_it ss) = GoesUnchecked (λ e. Unit {0}) H.table (env_to H n) (static_type of_it) ss ⊎ SomeInside H n of_it

  pub SomeInside : Home → ℕ → Expr → Type 0
  SomeInside H n NoExpr = ⊥
  SomeInside H n (expr place ty captures form) = SomeElement H n form

  pub SomeElement : Home → ℕ → Form → Type 0
  SomeElement H n (ArrayOf elements) = SomeUnchecked H n elements
  SomeElement H n form = ⊥

-- a declared type as a view sees it: with the view's arguments, or erased where it is raw
abbrev pub seen : Table → Seeing → Ty → Ty
seen T (With vars by) t = subst vars by t
seen T Raised t = plain T t

-- a field of an object of a static type
abbrev pub FieldIs : Table → Ty → FieldId → Ty → Type 0
FieldIs T s f u = (v t : Ty) × (view T (field_class T f) s ≡ Some v) × (field_type_of T f ≡ Some t) × (u ≡ seen T (seeing_of T v) t)

-- .. and `is_raw` says whether the object's type is raw as the field's class (JLS 4.8)
abbrev pub is_raw_as : Table → Ty → ClassId → Bool
is_raw_as T s k = is_raw_view T (view T k s)

-- types that no captured variable is in: primitive ones, and String
abbrev pub IsPlain : Home → Ty → Type 0
IsPlain H u = ((p : Primitive) × (u ≡ Prim p)) ⊎ (u ≡ Class H.string [])

-- the type of a constant
abbrev pub constant_type : ClassId → Constant → Ty
constant_type string (constant.Whole n of_it) = Prim of_it
constant_type string (constant.Text units) = Class string []

-- The type by which a call sees its method: the settled one of its receiver (JLS 15.12.1). A static method is as it is declared, whatever stands before it; n captured variables are there
-- behind the receiver
abbrev pub InstanceIs : Home → ℕ → MethodId → Operands → Ty → Type 0
InstanceIs H n m NoOperands owner = ⊥
InstanceIs H n m (MoreOperands before last) owner =
    (before ≡ NoOperands) × IsAsked H n (as_class (or_object (method_owner_of H.table m))) (λ s. owner ≡ s) last

abbrev pub ReceiverIs : Home → ℕ → CallKind → MethodId → Operands → Ty → Type 0
ReceiverIs H n kind.Static m receiver owner = (is_static H.table m ≡ true) × AllLed H receiver
ReceiverIs H n kind.Virtual m receiver owner = (is_static H.table m ≡ false) × InstanceIs H n m receiver owner
ReceiverIs H n kind.Direct m receiver owner = (is_static H.table m ≡ false) × InstanceIs H n m receiver owner

-- The method that a call names, as that type has it, with the type arguments put in. Where an argument needs an unchecked conversion the result may be erased (JLS 15.12.2.6); a call without a
-- result has the null type
abbrev pub put : MethodView → List Ty → Ty → Ty
put b types t = subst b.vars types t

abbrev pub ResultIs : Home → ℕ → MethodView → List Ty → Operands → Option Ty → Ty → Type 0
ResultIs H n b types args None u = u ≡ NullTy
ResultIs H n b types args (Some r) u = (u ≡ put b types r) ⊎ ((u ≡ erased_within H.table (env_to H n) b r) × SomeUnchecked H n args)

-- A call of a method as its view has it, its type parameters renamed apart from all that the call is asked with: as many type arguments as type parameters, within their bounds, and each argument
-- leads to its parameter. `is_raw` says whether the method is one of a
-- raw type, which a static one never is
pub record CallIs (H : Home) (n : ℕ) (how : CallKind) (receiver : Operands) (m : MethodId) (types : List Ty) (args : Operands) (p : Phase) (is_raw : Bool) (u : Ty) : Type 0 where
  pub owner : Ty
  pub receives : ReceiverIs H (n - count_operands args) how m receiver owner
  pub raw : is_raw ≡ (not (is_static H.table m) && is_raw_as H.table owner (or_object (method_owner_of H.table m)))
  pub viewed : MethodView
  pub seen_so : view_of_method H.table owner m ≡ Some viewed
  pub from : ℕ
  pub free : length H.table.variables ≤ from
  pub member : MethodView
  pub renamed : member ≡ apart H.table from owner viewed
  pub as_many : length types ≡ length member.vars
  pub within : TypeArgsFit H.table (env_to H n) member types
  pub args_lead : ArgsLeadIn H n p m (map (put member types) member.params) args (length member.params)
  pub result : ResultIs H n member types args member.result u

abbrev pub is_raw_type : Layer → Bool
is_raw_type (Ty-F.Raw k) = true
is_raw_type _ = false

-- a class type of as many arguments as its class has parameters, none of them a wildcard, or a raw type (JLS 15.9.1)
abbrev pub IsExact : Table → Layer → Type 0
IsExact T (Ty-F.Class k args) = (are_exact args ≡ true) × (length args ≡ length (vars_of T k))
IsExact T (Ty-F.Raw k) = Unit {0}
IsExact T _ = ⊥

-- A creation: the class is the constructor's, the type has exact arguments, and each argument leads to its parameter. The type has its arguments, inferred ones behind a diamond; where the creation
-- counts as one of the raw type (JLS 15.12.2.6), a step leads there
pub record NewIs (H : Home) (n : ℕ) (m : MethodId) (args : Operands) (p : Phase) (is_raw : Bool) (u : Ty) : Type 0 where
  pub class : class_of u ≡ Some (or_object (method_owner_of H.table m))
  pub exact : IsExact H.table (out-Ty u)
  pub raw : is_raw ≡ is_raw_type (out-Ty u)
  pub member : MethodView
  pub seen_so : view_of_method H.table u m ≡ Some member
  pub args_lead : ArgsLeadIn H n p m member.params args (length member.params)

-- the superclass of the class of a type, as it is declared: the first of the supertypes
abbrev pub first_of : List Ty → Option Ty
first_of [] = None
first_of (t ∷ ts) = Some t

abbrev pub super_of : Table → Ty → Option Ty
super_of T t = first_of (supers_of T (or_object (class_of t)))

-- a call of another constructor, of this class or of its superclass, as that type has it (JLS 8.8.7.1)
pub record ConstructIs (H : Home) (n : ℕ) (m : MethodId) (args : Operands) (p : Phase) (is_raw : Bool) : Type 0 where
  pub own : Ty
  pub this : slice_get H.locals 0 ≡ Some own
  pub owner : Ty
  pub which : (owner ≡ own) ⊎ (super_of H.table own ≡ Some owner)
  pub class : class_of owner ≡ Some (or_object (method_owner_of H.table m))
  pub raw : is_raw ≡ is_raw_type (out-Ty owner)
  pub member : MethodView
  pub seen_so : view_of_method H.table owner m ≡ Some member
  pub args_lead : ArgsLeadIn H n p m member.params args (length member.params)

-- ---- conditionals (JLS 15.25)

-- which type two branches of these types have: the one type of both; the primitive one of a primitive type and its class; a reference beside null; a number's type; or else the least upper bound of
-- both, primitive ones as their classes, repaired
pub data Choice : Type 0 where
  OfBoth : Choice
  OfPrimitive : Choice
  BesideNull : Choice
  OfNumbers : Primitive → Choice
  OfBound : Choice

abbrev pub ChoiceIs : Table → List Bounds → Ty → Ty → Choice → Ty → Type 0
ChoiceIs T env s t OfBoth u = (same s t ≡ true) × (u ≡ s)
ChoiceIs T env s t OfPrimitive u =
    ((is_primitive s ≡ true) × (same (boxed T s) t ≡ true) × (u ≡ s)) ⊎ ((is_primitive t ≡ true) × (same (boxed T t) s ≡ true) × (u ≡ t))
ChoiceIs T env s t BesideNull u =
    ((is_null s ≡ true) × (is_primitive t ≡ false) × (u ≡ t)) ⊎ ((is_null t ≡ true) × (is_primitive s ≡ false) × (u ≡ s))
ChoiceIs T env s t (OfNumbers p) u = u ≡ Prim p
ChoiceIs T env s t OfBound u = u ≡ repaired T env (lub T env (boxed T s ∷ boxed T t ∷ []))

-- a branch: its own type, behind what its value goes through wherever it stands, and from there to that of the whole
abbrev pub GoesOn : Table → List Bounds → Ty → List Step → Choice → Ty → Type 0
GoesOn T env s ss OfBound u = LiftsTo T env s ss u
GoesOn T env s ss c u = Leads T env s ss u

abbrev pub BranchIs : Home → ℕ → Operand → Ty → Choice → Ty → Type 0
BranchIs H n NoOperand s c u = ⊥
BranchIs H n (operand place of_it ss) s c u =
    (lead rest : List Step) × (ss ≡ lead ++ rest) × Leads H.table (env_to H n) (static_type of_it) lead s × GoesOn H.table (env_to H n) s rest c u

abbrev pub ConditionalIs : Home → ℕ → Operand → Operand → Ty → Type 0
ConditionalIs H n first second u =
    (s t : Ty) × (c : Choice) × ChoiceIs H.table (env_to H n) s t c u × BranchIs H n first s c u × BranchIs H n second t c u

-- ---- array initialisers (JLS 10.6), and arrays of arguments: elements lead to a type that is the array's element type, or whose erasure that is. So each array that is made is reifiable
pub record ArrayIs (H : Home) (n : ℕ) (elements : Operands) (u : Ty) : Type 0 where
  pub of_it : Ty
  pub is_element : element u ≡ Some of_it
  pub reified : reifiable H.table of_it ≡ true
  pub to : Ty
  pub leads : EachLeads H n elements to ⊎ EachAlone H n elements to
  pub kept : (of_it ≡ to) ⊎ (of_it ≡ erased_type H.table (erasure H.table (env_to H n) to))

-- the declared type of a variable, without capture, where n captured variables are there behind its parts
abbrev pub VariableIs : Home → ℕ → Variable → Ty → Type 0
VariableIs H n (LocalVariable place x) u = slice_get H.locals x ≡ Some u
VariableIs H n (StaticVariable place before f is_simple) u = (field_type_of H.table f ≡ Some u) × AllLed H before
VariableIs H n (FieldVariable place of_it f is_raw) u =
    IsAsked H n (as_class (field_class H.table f)) (λ s. FieldIs H.table s f u × (is_raw ≡ is_raw_as H.table s (field_class H.table f))) of_it
VariableIs H n (ElementVariable place array index) u =
    IsAsked H (n - count_operand index) (as_array H (n - count_operand index)) (λ s. element s ≡ Some u) array × Led H index

-- what goes into a field may be used as one of the erasure of its declared type
abbrev pub IsDeclaredErasure : Home → Variable → Erased → Type 0
IsDeclaredErasure H (StaticVariable place before f is_simple) e = (t : Ty) × (field_type_of H.table f ≡ Some t) × (e ≡ erasure H.table [] t)
IsDeclaredErasure H (FieldVariable place of_it f is_raw) e = (t : Ty) × (field_type_of H.table f ≡ Some t) × (e ≡ erasure H.table [] t)
IsDeclaredErasure H v e = ⊥

-- what an operator gives: a number or a boolean, or a String of string `+`
abbrev pub ResultOf : Home → Joint → Ty → Type 0
ResultOf H (joint.Operator o) s = (p : Primitive) × (s ≡ Prim p)
ResultOf H (joint.Concat left right) s = s ≡ Class H.string []

-- what goes into a variable of type u
abbrev pub GoesInto : Home → ℕ → Variable → Ty → List Step → Ty → Type 0
GoesInto H n v s ss u = LeadsAs (IsDeclaredErasure H v) H.table (env_to H n) s ss u

-- The operands of a chain of operators, which groups to the left, and the steps of what stands on the left of each: the first operand, or what the operators before it give (JLS 15.7.3)
abbrev pub SoFar : Home → Ty → Links → Ty → Type 0
SoFar H first NoLinks s = s ≡ first
SoFar H first (MoreLinks before joint left right) s = IsPlain H s

abbrev pub LinksLed : Home → Ty → Links → Type 0
LinksLed H first NoLinks = Unit {0}
LinksLed H first (MoreLinks before joint left right) =
    LinksLed H first before × Led H right × ((m : ℕ) × ((s t : Ty) × SoFar H first before s × Leads H.table (env_to H m) s left t))

abbrev pub ChainLed : Home → Operand → Links → Type 0
ChainLed H first links = (m : ℕ) × ((t : Ty) × OperandLeads H m first t × LinksLed H t links)

-- the type of a form before capture, where n captured variables are there behind its parts
abbrev pub FormIs : Home → ℕ → Form → Ty → Type 0
FormIs H n (Fixed before value named casts) u = (u ≡ constant_type H.string value) × AllLed H before
FormIs H n Null u = u ≡ NullTy
FormIs H n (Local x) u = slice_get H.locals x ≡ Some u
FormIs H n This u = slice_get H.locals 0 ≡ Some u
FormIs H n (StaticField before f is_simple) u = (field_type_of H.table f ≡ Some u) × AllLed H before
FormIs H n (Field of_it f) u = IsAsked H n (as_class (field_class H.table f)) (λ s. FieldIs H.table s f u) of_it
FormIs H n (Element array index) u =
    IsAsked H (n - count_operand index) (as_array H (n - count_operand index)) (λ s. element s ≡ Some u) array × Led H index
FormIs H n (Length array) u = (u ≡ Prim Int) × IsAsked H n (as_array H n) (λ s. (e : Ty) × (element s ≡ Some e)) array
FormIs H n (Prefix ops of_it) u = IsPlain H u × Led H of_it
FormIs H n (Chain first links) u = IsPlain H u × ChainLed H first links
FormIs H n (AllOf os from up_to) u = (u ≡ Prim Boolean) × AllLed H os
FormIs H n (AnyOf os from up_to) u = (u ≡ Prim Boolean) × AllLed H os
FormIs H n (InstanceOf of_it to) u = (u ≡ Prim Boolean) × Led H of_it
FormIs H n (Conditional test first second from up_to) u = Led H test × ConditionalIs H n first second u
FormIs H n (Assign variable value store) u =
    VariableIs H (n - count_operand value) variable u × OperandLeads H n value u × GoesInto H n variable u store u
FormIs H n (Compound variable joint left right into) u =
    VariableIs H (n - count_operand right) variable u × ((l : Ty) × Leads H.table (env_to H n) u left l) × Led H right
    × ((s : Ty) × ResultOf H joint s × GoesInto H n variable s into u)
FormIs H n (Change variable op from into is_prefix) u =
    VariableIs H n variable u × ((p q : Primitive) × Leads H.table (env_to H n) u from (Prim p) × GoesInto H n variable (Prim q) into u)
FormIs H n (Call kind receiver m types args phase thrown is_raw) u = CallIs H n kind receiver m types args phase is_raw u
FormIs H n (New m args phase thrown is_raw) u = NewIs H n m args phase is_raw u
FormIs H n (NewArray lengths) u = AllLed H lengths × ((e : Ty) × (element u ≡ Some e) × (reifiable H.table e ≡ true))
FormIs H n (ArrayOf elements) u = ArrayIs H n elements u
FormIs H n (Cast of_it to ss is_below) u = (u ≡ to) × OperandLeads H n of_it (type_of_operand of_it) × CastLeads H.table (env_to H n) (type_of_operand of_it) ss to

-- whether a form's type is that of its variable, uncaptured
abbrev pub is_change : Form → Bool
is_change (Compound variable joint left right into) = true
is_change (Change variable op from into is_prefix) = true
is_change _ = false
