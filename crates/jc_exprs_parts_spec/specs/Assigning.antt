-- Variables that are assigned, and assignments (JLS 15.14.2, 15.14.3, 15.15.1, 15.15.2, 15.26).
use Rattle.std.specs.Prelude.{◌==◌, not, Bool, List, [], ◌∷◌, ◌++◌, Option, Some, None, if◌then◌else◌}
use Rattle.jc_rules.specs.declared.rule.Place.{Place}
use Rattle.jc_rules.specs.declared.rule.Refusal.{Refusal}
use Rattle.jc_tree.specs.declared.expression.BinaryOp.{BinaryOp}
use Rattle.jc_types.specs.declared.constant.Op.{Op}
use Rattle.jc_types.specs.declared.environment.Bounds.{Bounds}
use Rattle.jc_types.specs.declared.erased.Erased.{Erased}
use Rattle.jc_types.specs.declared.form.Primitive.{Primitive}
use Rattle.jc_types.specs.declared.form.Ty.{Ty, Ty-F, out-Ty}
use Rattle.jc_types.specs.declared.form.Ty.TheVariants.{Prim}
use Rattle.jc_types.specs.declared.table.Table.{Table}
use Rattle.jc_types.specs.Sameness.{prim_number}
use Rattle.jc_judge.specs.Kinds.{Layer, is_primitive}
use Rattle.jc_boxes.specs.Boxes.{unboxed}
use Rattle.jc_convert.specs.declared.answer.Converts.{Converts}
use Rattle.jc_convert.specs.Casting.{cast, is_numeric}
use Rattle.jc_convert.specs.Converting.{assignment, invocation}
use Rattle.jc_typed.specs.declared.expressions.Joint.{Joint}
use Rattle.jc_typed.specs.declared.expressions.Joint.TheVariants as joint
use Rattle.jc_typed.specs.Trees.{Step, Narrow, BoxUp, Variable, Assign, Compound, Change}
use Rattle.jc_exprs_nodes_spec.specs.Told.{Run, fine, by_rule, provided, unless}
use Rattle.jc_exprs_nodes_spec.specs.Typeds.{Typed, type_of, constant_of, node, captured, converted, stepped, steps_by, read_guard, use_guard, unconverted}
use Rattle.jc_exprs_parts_spec.specs.Operators.{Takes, Verdict, Taken, Refused, Unknown, taken, promoted}
use Rattle.jc_exprs_parts_spec.specs.Chains.{steps_to}

-- A variable: where it begins, with and without the parentheses round it; its type as its receiver has it, without capture; the erasure of its declared
-- type; and whether it is a field that is named simply before its declaration, which may be assigned there but not read (JLS 8.3.2.3).
pub record Target : Type 0 where
  pub start : Place
  pub place : Place
  pub ty : Ty
  pub declared : Erased
  pub variable : Variable
  pub is_forward : Bool

-- ---- `v = e` (15.26.1): 607 at the converted expression; the type is the capture of the variable's

abbrev pub stored_by : Table → List Bounds → Target → Typed → Converts → Run Typed
stored_by T env v r c =
    provided (unconverted 607 r.start c)
    (captured T v.start v.ty (Assign v.variable (converted T env r c) (use_guard T env v.ty v.declared)) [])

unfoldable pub stored : Table → Target → Typed → Run Typed
stored T v r env = stored_by T env v r (assignment T env (type_of r) (constant_of r) v.ty) env

-- ---- reading a variable that is assigned as well

-- 626
abbrev pub read_breaks : Target → List Refusal
read_breaks v = unless (not v.is_forward) 626 v.place

-- its value as one of a type that an operator takes
abbrev pub read_steps : Table → List Bounds → Target → Ty → List Step
read_steps T env v t = read_guard T env v.declared v.ty ++ steps_to T env v.ty t

-- the primitive type of a type that is one, or is exactly its class
abbrev pub exact_at : Table → Layer → Option Primitive
exact_at T (Ty-F.Prim p) = Some p
exact_at T (Ty-F.Class k []) = unboxed T k
exact_at T _ = None

unfoldable pub exact_primitive : Table → Ty → Option Primitive
exact_primitive T t = exact_at T (out-Ty t)

-- ---- `v op= e` is `(T) (v op e)` (15.26.2): the type is the variable's, without capture

abbrev pub compound_into : Table → List Bounds → Target → Takes → Typed → Converts → Run Typed
compound_into T env v k r c =
    provided (unconverted 609 v.start c)
    (fine (node v.start v.ty
    (Compound v.variable k.joint (read_steps T env v k.left) (stepped r (steps_to T env (type_of r) k.right))
    (steps_by T env k.result c ++ use_guard T env v.ty v.declared))))

-- numbers and booleans go into a variable of a primitive type or of its class alone
abbrev pub compound_number : Table → List Bounds → Target → Takes → Typed → Option Primitive → Run Typed
compound_number T env v k r None = by_rule 609 v.start
compound_number T env v k r (Some p) = compound_into T env v k r (cast T env k.result v.ty)

-- a String into a variable whose type is above String
abbrev pub compound_taken : Table → List Bounds → Target → Takes → Typed → Joint → Run Typed
compound_taken T env v k r (joint.Concat left right) = compound_into T env v k r (invocation T env k.result v.ty)
compound_taken T env v k r (joint.Operator o) = compound_number T env v k r (exact_primitive T v.ty)

abbrev pub compound_by : Table → List Bounds → Target → Typed → Verdict → Run Typed
compound_by T env v r Refused = by_rule 609 v.start
compound_by T env v r Unknown = by_rule 606 v.start
compound_by T env v r (Taken k) = compound_taken T env v k r k.joint

unfoldable pub compound : Table → BinaryOp → Target → Typed → Run Typed
compound T o v r env = provided (read_breaks v) (compound_by T env v r (taken T env o v.ty (type_of r))) env

-- ---- `++` and `--`: the sum is narrowed to the variable's primitive type, and then boxed

abbrev pub narrowed_to : Primitive → List Step
narrowed_to p = if prim_number p == prim_number (promoted p) then [] else Narrow p ∷ []

abbrev pub boxed_to : Ty → Primitive → List Step
boxed_to t p = if is_primitive t then [] else BoxUp p ∷ []

abbrev pub changed_as : Table → List Bounds → Place → Op → Bool → Target → Primitive → Run Typed
changed_as T env place o is_prefix v p =
    fine (node place v.ty
    (Change v.variable o (read_steps T env v (Prim (promoted p))) (narrowed_to p ++ boxed_to v.ty p ++ use_guard T env v.ty v.declared) is_prefix))

-- 609 at the expression's first token
abbrev pub changed_by : Table → List Bounds → Place → Op → Bool → Target → Option Primitive → Run Typed
changed_by T env place o is_prefix v None = by_rule 609 place
changed_by T env place o is_prefix v (Some p) = if is_numeric p then changed_as T env place o is_prefix v p else by_rule 609 place

unfoldable pub changed : Table → Place → Op → Bool → Target → Run Typed
changed T place o is_prefix v env = provided (read_breaks v) (changed_by T env place o is_prefix v (exact_primitive T v.ty)) env
