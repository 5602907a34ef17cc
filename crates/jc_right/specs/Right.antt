-- When erased expressions are right (JLS 15).
use Rattle.std.specs.Prelude.{◌≡◌, ◌⊎◌, ◌<◌, ◌≤◌, Bool, true, false, not, ◌&&◌, List, [], ◌∷◌, length, Option, Some, None, slice_get}
use Rattle.jc_types.specs.declared.constant.Op.{Op}
use Rattle.jc_types.specs.declared.declarations.Access.{Access}
use Rattle.jc_types.specs.declared.declarations.Access.TheVariants as access
use Rattle.jc_types.specs.declared.declarations.MethodKind.{MethodKind}
use Rattle.jc_types.specs.declared.declarations.MethodKind.TheVariants as method_kind
use Rattle.jc_types.specs.declared.declarations.Modifiers.{Modifiers}
use Rattle.jc_types.specs.declared.erased.Erased.{Erased}
use Rattle.jc_types.specs.declared.form.Primitive.{Primitive}
use Rattle.jc_types.specs.declared.form.Primitive.TheVariants.{Boolean, Int}
use Rattle.jc_types.specs.declared.form.Ty.{Ty}
use Rattle.jc_types.specs.declared.ids.FieldId.{FieldId}
use Rattle.jc_types.specs.declared.ids.MethodId.{MethodId}
use Rattle.jc_types.specs.declared.table.Table.{Table}
use Rattle.jc_types.specs.Accessors.{class_modifiers_of, field_modifiers_of, is_interface, method_kind_of, method_modifiers_of, method_owner_of, params_of}
use Rattle.jc_heaps.specs.Classes.{is_array, element_of, same_erased}
use Rattle.jc_heaps.specs.Layout.{field_class, is_static, or_object}
use Rattle.jc_typed.specs.declared.expressions.CallKind.{CallKind}
use Rattle.jc_typed.specs.declared.expressions.CallKind.TheVariants.{Static, Virtual, Direct}
use Rattle.jc_typed.specs.declared.expressions.Joint.{Joint}
use Rattle.jc_typed.specs.Bulk.{operand_count}
use Rattle.jc_typed.specs.Trees.{Step, Widen, Narrow, BoxUp, Unbox, Up, Test, Expr, NoExpr, expr, Operand, NoOperand, operand, Form, Fixed, Null, Local, This, StaticField, Field, Element, Length, Prefix, Chain, AllOf, AnyOf, InstanceOf, Conditional, Assign, Compound, Change, Call, New, NewArray, ArrayOf, Cast, Variable, LocalVariable, StaticVariable, FieldVariable, ElementVariable, Operands, NoOperands, MoreOperands, Links, NoLinks, MoreLinks}
use Rattle.jc_right.specs.Going.{prim, class, prim_of, is_null, is_number, is_reference, goes, widens, takes_prefix, stepped_type, constant_goes}
use Rattle.jc_right.specs.Values.{Scene, behind_step, behind_steps, box_class, erased, is_void_expr, joined_type, local_type, operand_type, value_type, variable_type}

-- a truth that is computed
abbrev pub Is : Bool → Type 0
Is b = b ≡ true

-- a value of one erased type goes where the other is wanted
abbrev pub Goes : Scene → Erased → Erased → Type 0
Goes S e f = Is (goes S.table e f)

-- a number of an erased type meets a test; another type doesn't
abbrev pub prim_passes : (Primitive → Bool) → Option Primitive → Bool
prim_passes f None = false
prim_passes f (Some p) = f p

-- a step takes a value of this erased type (JLS 5.1)
abbrev pub takes_step : Scene → Erased → Step → Bool
takes_step S e (Widen p) = prim_passes (λ q. widens q p) (prim_of e)
takes_step S e (Narrow p) = prim_passes is_number (prim_of e) && is_number p
takes_step S e (BoxUp p) = same_erased e (prim p)
takes_step S e (Unbox p) = goes S.table e (box_class S p)
takes_step S e (Up t unchecked) = is_reference e && is_reference (erased S t)
takes_step S e (Test check to) = is_reference e && is_reference to && not (is_null to)

-- .. one step after the other
abbrev pub RightSteps : Scene → Erased → List Step → Type 0
RightSteps S e [] = Unit {0}
RightSteps S e (s ∷ ss) = Is (takes_step S e s) × RightSteps S (behind_step S e s) ss

-- what a method is, and the class that declares it
abbrev pub owner : Table → MethodId → Erased
owner T m = class (or_object (method_owner_of T m))

abbrev pub is_method : Option MethodKind → Bool
is_method (Some method_kind.Method) = true
is_method _ = false

abbrev pub is_constructor : Option MethodKind → Bool
is_constructor (Some method_kind.Constructor) = true
is_constructor (Some method_kind.ImpliedConstructor) = true
is_constructor _ = false

abbrev pub is_private : Access → Bool
is_private access.Private = true
is_private _ = false

abbrev pub in_modifiers : (Modifiers → Bool) → Option Modifiers → Bool
in_modifiers f None = false
in_modifiers f (Some m) = f m

-- A static call names a static method, a virtual one an instance method that isn't private, a direct one an instance method that has a body (JLS 15.12.3,
-- JVMS 6.5 invokestatic, invokevirtual, invokespecial)
abbrev pub fits_modifiers : CallKind → Modifiers → Bool
fits_modifiers Static m = m.is_static
fits_modifiers Virtual m = not m.is_static && not (is_private m.access)
fits_modifiers Direct m = not m.is_static && not m.is_abstract

abbrev pub is_callable : Table → CallKind → MethodId → Bool
is_callable T kind m = is_method (method_kind_of T m) && in_modifiers (fits_modifiers kind) (method_modifiers_of T m)

-- a class of which objects are made: no interface, and not abstract (JLS 15.9.1)
abbrev pub is_creatable : Table → MethodId → Bool
is_creatable T m =
    is_constructor (method_kind_of T m) && not (is_interface T (or_object (method_owner_of T m)))
    && in_modifiers (λ k. not k.is_abstract) (class_modifiers_of T (or_object (method_owner_of T m)))

-- the table has a field, and it is static or not
abbrev pub is_field : Table → Bool → FieldId → Bool
is_field T true f = is_static T f
is_field T false f = in_modifiers (λ m. not m.is_static) (field_modifiers_of T f)

-- all of these operators take a value of one primitive type
abbrev pub all_take : List Op → Primitive → Bool
all_take [] p = true
all_take (op ∷ ops) p = takes_prefix op p && all_take ops p

-- an erased type that is there and is this one
abbrev pub is_type : Erased → Option Erased → Bool
is_type e None = false
is_type e (Some f) = same_erased e f

-- it is there, and goes there behind steps
abbrev pub RightInto : Scene → Option Erased → List Step → Erased → Type 0
RightInto S None ss to = ⊥
RightInto S (Some e) ss to = RightSteps S e ss × Goes S (behind_steps S e ss) to

-- a parameter by its number, as an argument goes to it
abbrev pub GoesTo : Scene → Erased → Option Ty → Type 0
GoesTo S e None = ⊥
GoesTo S e (Some t) = Goes S e (erased S t)

-- the type of a chain so far behind the steps of its next operator, joined to its right operand
abbrev pub chain_step : Scene → Joint → List Step → Operand → Option Erased → Option Erased
chain_step S joint left right None = None
chain_step S joint left right (Some e) = joined_type S joint (behind_steps S e left) (operand_type S right)

abbrev pub chain_type : Scene → Erased → Links → Option Erased
chain_type S first NoLinks = Some first
chain_type S first (MoreLinks before joint left right) = chain_step S joint left right (chain_type S first before)

-- a value that is there takes steps
abbrev pub StepsOn : Scene → Option Erased → List Step → Type 0
StepsOn S None ss = ⊥
StepsOn S (Some e) ss = RightSteps S e ss

-- a call without a receiver is static; the receiver of another one goes to the class of its method
abbrev pub is_static_call : CallKind → Bool
is_static_call Static = true
is_static_call _ = false

abbrev pub ReceiverGoes : Scene → CallKind → Erased → Erased → Type 0
ReceiverGoes S Static of_class e = Unit {0}
ReceiverGoes S Virtual of_class e = Goes S e of_class
ReceiverGoes S Direct of_class e = Goes S e of_class

abbrev mutual
  pub RightExpr : Scene → Expr → Type 0
  RightExpr S NoExpr = ⊥
  RightExpr S (expr place ty captures form) = RightForm S (erased S ty) form

  pub RightOperand : Scene → Operand → Type 0
  RightOperand S NoOperand = ⊥
  RightOperand S (operand place of_it ss) = RightExpr S of_it × Is (not (is_void_expr S.table of_it)) × RightSteps S (value_type S of_it) ss

  -- an operand whose value is dropped: a call of a method without a result has none, and no steps
  pub RightDone : Scene → Operand → Type 0
  RightDone S NoOperand = ⊥
  RightDone S (operand place of_it ss) = RightExpr S of_it × RightSteps S (value_type S of_it) ss × (Is (not (is_void_expr S.table of_it)) ⊎ (ss ≡ []))

  -- by the form of the expression, of which `e` is the erased static type
  pub RightForm : Scene → Erased → Form → Type 0
  RightForm S e (Fixed before value named casts) = RightDropped S before × Is (constant_goes S.known.string value e)
  RightForm S e Null = Is (is_null e)
  RightForm S e (Local n) = n < length S.locals
  RightForm S e This = (0 < length S.locals) × Goes S (local_type S 0) e
  RightForm S e (StaticField before f is_simple) = RightDropped S before × Is (is_field S.table true f)
  RightForm S e (Field of_it f) = RightTo S (class (field_class S.table f)) of_it × Is (is_field S.table false f)
  RightForm S e (Element array index) = RightOperand S array × Is (is_array (operand_type S array)) × RightTo S (prim Int) index
  RightForm S e (Length array) = RightOperand S array × Is (is_array (operand_type S array)) × Is (same_erased e (prim Int))
  RightForm S e (Prefix ops of_it) = RightOperand S of_it × Is (same_erased e (operand_type S of_it)) × Is (prim_passes (all_take ops) (prim_of e))
  RightForm S e (Chain first links) = RightOperand S first × RightLinks S (operand_type S first) links × Is (is_type e (chain_type S (operand_type S first) links))
  RightForm S e (AllOf os from up_to) = RightEach S (prim Boolean) os × (2 ≤ operand_count os) × Is (same_erased e (prim Boolean))
  RightForm S e (AnyOf os from up_to) = RightEach S (prim Boolean) os × (2 ≤ operand_count os) × Is (same_erased e (prim Boolean))
  RightForm S e (InstanceOf of_it to) = RightOperand S of_it × Is (is_reference (operand_type S of_it)) × Is (is_reference to && not (is_null to)) × Is (same_erased e (prim Boolean))
  RightForm S e (Conditional test first second from up_to) = RightTo S (prim Boolean) test × RightTo S e first × RightTo S e second
  RightForm S e (Assign variable value store) =
      RightVariable S variable × RightOperand S value × RightSteps S (operand_type S value) store
      × Goes S (behind_steps S (operand_type S value) store) (variable_type S variable)
  RightForm S e (Compound variable joint left right into) =
      RightVariable S variable × RightSteps S (variable_type S variable) left × RightOperand S right
      × RightInto S (joined_type S joint (behind_steps S (variable_type S variable) left) (operand_type S right)) into (variable_type S variable)
  RightForm S e (Change variable op from into is_prefix) =
      RightVariable S variable × RightSteps S (variable_type S variable) from
      × RightInto S (stepped_type op (prim_of (behind_steps S (variable_type S variable) from))) into (variable_type S variable)
  RightForm S e (Call kind receiver m types args phase thrown is_raw) =
      Is (is_callable S.table kind m) × RightReceiver S kind (owner S.table m) receiver × RightArgs S (params_of S.table m) args
      × (operand_count args ≡ length (params_of S.table m))
  RightForm S e (New m args phase thrown is_raw) =
      Is (is_creatable S.table m) × Is (same_erased e (owner S.table m)) × RightArgs S (params_of S.table m) args
      × (operand_count args ≡ length (params_of S.table m))
  RightForm S e (NewArray lengths) = RightEach S (prim Int) lengths × (0 < operand_count lengths) × (operand_count lengths ≤ e.dims) × (e.dims ≤ 255)
  RightForm S e (ArrayOf elements) = RightEach S (element_of e) elements × (0 < e.dims) × (e.dims ≤ 255)
  RightForm S e (Cast of_it to ss is_below) =
      RightOperand S of_it × RightSteps S (operand_type S of_it) ss × Goes S (behind_steps S (operand_type S of_it) ss) (erased S to) × Is (same_erased e (erased S to))

  -- an operand goes where an erased type is wanted
  pub RightTo : Scene → Erased → Operand → Type 0
  RightTo S e NoOperand = ⊥
  RightTo S e (operand place of_it ss) =
      RightExpr S of_it × Is (not (is_void_expr S.table of_it)) × RightSteps S (value_type S of_it) ss × Goes S (behind_steps S (value_type S of_it) ss) e

  -- what is assigned
  pub RightVariable : Scene → Variable → Type 0
  RightVariable S (LocalVariable place n) = n < length S.locals
  RightVariable S (StaticVariable place before f is_simple) = RightDropped S before × Is (is_field S.table true f)
  RightVariable S (FieldVariable place of_it f is_raw) = RightTo S (class (field_class S.table f)) of_it × Is (is_field S.table false f)
  RightVariable S (ElementVariable place array index) = RightOperand S array × Is (is_array (operand_type S array)) × RightTo S (prim Int) index

  -- operands that are evaluated and dropped; all of one type; and the arguments of parameters, each by how many stand before it
  pub RightDropped : Scene → Operands → Type 0
  RightDropped S NoOperands = Unit {0}
  RightDropped S (MoreOperands before last) = RightDropped S before × RightDone S last

  pub RightEach : Scene → Erased → Operands → Type 0
  RightEach S e NoOperands = Unit {0}
  RightEach S e (MoreOperands before last) = RightEach S e before × RightTo S e last

  pub RightArgs : Scene → List Ty → Operands → Type 0
  RightArgs S params NoOperands = Unit {0}
  RightArgs S params (MoreOperands before last) =
      RightArgs S params before × RightOperand S last × GoesTo S (operand_type S last) (slice_get params (operand_count before))

  -- the receiver of a call, of which there is at most one: of a static one it is dropped, of the others it is a reference to an object of the method's class
  pub RightReceiver : Scene → CallKind → Erased → Operands → Type 0
  RightReceiver S kind of_class NoOperands = Is (is_static_call kind)
  RightReceiver S kind of_class (MoreOperands before last) = (operand_count before ≡ 0) × RightOperand S last × ReceiverGoes S kind of_class (operand_type S last)

  -- the further operands of a chain, and the steps of the values on their left
  pub RightLinks : Scene → Erased → Links → Type 0
  RightLinks S first NoLinks = Unit {0}
  RightLinks S first (MoreLinks before joint left right) = RightLinks S first before × StepsOn S (chain_type S first before) left × RightOperand S right
