-- What an operator does to operands that it takes, as the checker has it.
use Rattle.std.specs.Prelude.{Option, Some, None}
use Rattle.jc_tree.specs.declared.expression.BinaryOp.{BinaryOp}
use Rattle.jc_tree.specs.declared.expression.BinaryOp.TheVariants as binary
use Rattle.jc_types.specs.declared.constant.Op.{Op}
use Rattle.jc_types.specs.declared.constant.Op.TheVariants as op
use Rattle.jc_types.specs.declared.form.Primitive.{Primitive}
use Rattle.jc_types.specs.declared.form.Primitive.TheVariants.{Boolean}
use Rattle.jc_types.specs.declared.form.Ty.{Ty}
use Rattle.jc_types.specs.declared.form.Ty.TheVariants.{Prim}
use Rattle.jc_types.specs.declared.table.Table.{Table}
use Rattle.jc_typed.specs.declared.expressions.Joint.{Joint}
use Rattle.jc_typed.specs.declared.expressions.Joint.TheVariants as joint
use Rattle.jc_exprs_parts_spec.specs.Operators.{Takes, Verdict, Taken, Refused, Unknown, takes, arithmetic, comparison, conditional, equal_primitives, logical, shift, string_type}
use Rattle.jc_exprs_operators.specs.declared.taking.Promoted.{Promoted}
use Rattle.jc_exprs_operators.specs.declared.taking.Taking.{Taking}
use Rattle.jc_exprs_operators.specs.declared.taking.Taking.TheVariants.{Converted, Concat, Compared}
use Rattle.jc_exprs_operators.specs.declared.taking.Verdict.{Verdict as Told}
use Rattle.jc_exprs_operators.specs.declared.taking.Verdict.TheVariants as told
use Rattle.jc_exprs_operators.specs.declared.taking.Rule.{Rule}
use Rattle.jc_exprs_operators.specs.declared.taking.Rule.TheVariants as rule
use Rattle.jc_exprs_operators.specs.declared.taking.Plain.{Plain}

-- an operator on primitive types, if it takes them
abbrev pub takes_by : Option Promoted → Verdict
takes_by None = Refused
takes_by (Some k) = takes k.op k.left k.right k.result

abbrev pub rule_of : Rule → Op → Primitive → Primitive → Verdict
rule_of rule.Arithmetic = arithmetic
rule_of rule.Shift = shift
rule_of rule.Comparison = comparison
rule_of rule.Equality = equal_primitives
rule_of rule.Logical = logical
rule_of rule.Conditional = conditional

abbrev plain : Rule → Op → Plain
plain r o = record { rule = r; op = o }

abbrev pub plain_of : BinaryOp → Plain
plain_of binary.Times = plain rule.Arithmetic op.Times
plain_of binary.Divide = plain rule.Arithmetic op.Divide
plain_of binary.Remainder = plain rule.Arithmetic op.Remainder
plain_of binary.Plus = plain rule.Arithmetic op.Plus
plain_of binary.Minus = plain rule.Arithmetic op.Minus
plain_of binary.ShiftLeft = plain rule.Shift op.ShiftLeft
plain_of binary.ShiftRight = plain rule.Shift op.ShiftRight
plain_of binary.ShiftRightZero = plain rule.Shift op.ShiftRightUnsigned
plain_of binary.Less = plain rule.Comparison op.Less
plain_of binary.Greater = plain rule.Comparison op.Greater
plain_of binary.LessEqual = plain rule.Comparison op.AtMost
plain_of binary.GreaterEqual = plain rule.Comparison op.AtLeast
plain_of binary.Equal = plain rule.Equality op.Equal
plain_of binary.NotEqual = plain rule.Equality op.NotEqual
plain_of binary.And = plain rule.Logical op.And
plain_of binary.Xor = plain rule.Logical op.Xor
plain_of binary.Or = plain rule.Logical op.Or
plain_of binary.AndAlso = plain rule.Conditional op.ConditionalAnd
plain_of binary.OrElse = plain rule.Conditional op.ConditionalOr

-- ---- what an operator does to operands, by their types

-- the type that an operand of this type is converted to: a primitive one, or none and it stays
abbrev pub wanted : Ty → Option Primitive → Ty
wanted t None = t
wanted t (Some p) = Prim p

abbrev pub left_of : Taking → Option Primitive
left_of (Converted k) = Some k.left
left_of _ = None

abbrev pub right_of : Taking → Option Primitive
right_of (Converted k) = Some k.right
right_of _ = None

abbrev pub joint_of : Taking → Joint
joint_of (Converted k) = joint.Operator k.op
joint_of (Concat left right) = joint.Concat left right
joint_of (Compared o) = joint.Operator o

abbrev pub result_in : Table → Taking → Ty
result_in T (Converted k) = Prim k.result
result_in T (Concat left right) = string_type T
result_in T (Compared o) = Prim Boolean

abbrev pub takes_in : Table → Ty → Ty → Taking → Takes
takes_in T s t k = record { joint = joint_of k; left = wanted s (left_of k); right = wanted t (right_of k); result = result_in T k }

abbrev pub verdict_in : Table → Ty → Ty → Told → Verdict
verdict_in T s t (told.Taken k) = Taken (takes_in T s t k)
verdict_in T s t told.Refused = Refused
verdict_in T s t told.Unknown = Unknown
