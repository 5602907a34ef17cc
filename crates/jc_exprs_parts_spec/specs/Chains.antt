-- Chains of binary operators, from left to right (JLS 15.7.3, 15.17 to 15.24), and of prefix operators (JLS 15.15.3 to 15.15.6).
use Rattle.std.specs.Prelude.{ℕ, ◌||◌, Bool, true, false, List, [], ◌∷◌, ◌++◌, Option, Some, None, if◌then◌else◌}
use Rattle.jc_rules.specs.declared.rule.Place.{Place}
use Rattle.jc_rules.specs.declared.rule.Refusal.{Refusal}
use Rattle.jc_tree.specs.declared.expression.BinaryOp.{BinaryOp}
use Rattle.jc_tree.specs.declared.expression.BinaryOp.TheVariants as binary
use Rattle.jc_types.specs.declared.constant.Constant.{Constant}
use Rattle.jc_types.specs.declared.constant.Op.{Op}
use Rattle.jc_types.specs.declared.constant.Op.TheVariants as op
use Rattle.jc_types.specs.declared.environment.Bounds.{Bounds}
use Rattle.jc_types.specs.declared.form.Primitive.{Primitive}
use Rattle.jc_types.specs.declared.form.Primitive.TheVariants.{Boolean}
use Rattle.jc_types.specs.declared.form.Ty.{Ty}
use Rattle.jc_types.specs.declared.form.Ty.TheVariants.{Prim}
use Rattle.jc_types.specs.declared.table.Table.{Table}
use Rattle.jc_types.specs.Erasing.{erasure}
use Rattle.jc_types.specs.Reifying.{reifiable}
use Rattle.jc_types.specs.Sameness.{same}
use Rattle.jc_judge.specs.Kinds.{is_primitive}
use Rattle.jc_convert.specs.Casting.{cast}
use Rattle.jc_convert.specs.Converting.{invocation}
use Rattle.jc_folding.specs.Folding.{fold}
use Rattle.jc_typed.specs.declared.expressions.Joint.{Joint}
use Rattle.jc_typed.specs.declared.expressions.Joint.TheVariants as joint
use Rattle.jc_typed.specs.Trees.{Step, Operand, Operands, MoreOperands, Links, NoLinks, MoreLinks, Form, Chain, AllOf, AnyOf, InstanceOf, Prefix}
use Rattle.jc_exprs_nodes_spec.specs.Told.{Told, Fine, Broken, Run, fine, breaking, unless, provided, Spanned}
use Rattle.jc_exprs_nodes_spec.specs.Typeds.{Typed, Known, type_of, node, fixed, known_of, plain, stepped, steps_by, one_operand, unconverted}
use Rattle.jc_exprs_parts_spec.specs.Operators.{Takes, Verdict, Taken, Refused, Unknown, taken, as_primitive, prefix_on, prefix_taken}
use Rattle.jc_exprs_parts_spec.specs.Constants.{prefixed_constant}

-- the steps to a type that the operator takes, which is known to be reached
abbrev pub steps_to : Table → List Bounds → Ty → Ty → List Step
steps_to T env s t = if same s t then [] else steps_by T env s (invocation T env s t)

-- ---- what is joined so far: one expression, a first operand with links, or the operands of `&&` or `||`

pub data Joined : Type 0 where
  Whole : Typed → Joined
  Linked : (place : Place) (ty : Ty) (first : Operand) (links : Links) → Joined
  Listed : (place : Place) (is_and : Bool) (operands : Operands) (from up_to : ℕ) → Joined

abbrev pub logic_form : Bool → Operands → ℕ → ℕ → Form
logic_form true os from up_to = AllOf os from up_to
logic_form false os from up_to = AnyOf os from up_to

-- as one expression: it begins where its first operand does
abbrev pub whole : Joined → Typed
whole (Whole t) = t
whole (Linked place ty first links) = node place ty (Chain first links)
whole (Listed place is_and os from up_to) = node place (Prim Boolean) (logic_form is_and os from up_to)

abbrev pub joined_type : Joined → Ty
joined_type j = type_of (whole j)

abbrev pub joined_start : Joined → Place
joined_start j = (whole j).start

-- an operator and its right operand more, each operand with the steps of its conversion
abbrev pub right_of : Table → List Bounds → Takes → Typed → Operand
right_of T env k r = stepped r (steps_to T env (type_of r) k.right)

abbrev pub linked_first : Table → List Bounds → Typed → Takes → Typed → Joined
linked_first T env t k r = Linked t.start k.result (plain t) (MoreLinks NoLinks k.joint (steps_to T env (type_of t) k.left) (right_of T env k r))

abbrev pub link_on : Table → List Bounds → Joined → Takes → Typed → Joined
link_on T env (Whole t) k r = linked_first T env t k r
link_on T env (Linked place ty first links) k r = Linked place k.result first (MoreLinks links k.joint (steps_to T env ty k.left) (right_of T env k r))
link_on T env (Listed place is_and os from up_to) k r = linked_first T env (node place (Prim Boolean) (logic_form is_and os from up_to)) k r

-- an operand more of `&&` or `||`: what is captured from the second operand on is forgotten where it isn't evaluated
abbrev pub listed_first : Table → List Bounds → Typed → Bool → Takes → Spanned Typed → Joined
listed_first T env t is_and k r =
    Listed t.start is_and (MoreOperands (one_operand (stepped t (steps_to T env (type_of t) k.left))) (right_of T env k r.it)) r.from r.up_to

abbrev pub list_on : Table → List Bounds → Joined → Bool → Takes → Spanned Typed → Joined
list_on T env (Listed place was_and os from up_to) is_and k r = Listed place is_and (MoreOperands os (right_of T env k r.it)) from r.up_to
list_on T env (Whole t) is_and k r = listed_first T env t is_and k r
list_on T env (Linked place ty first links) is_and k r = listed_first T env (node place ty (Chain first links)) is_and k r

-- by the operator's kind
abbrev pub join_on : Table → List Bounds → BinaryOp → Joined → Takes → Spanned Typed → Joined
join_on T env binary.AndAlso j k r = list_on T env j true k r
join_on T env binary.OrElse j k r = list_on T env j false k r
join_on T env o j k r = link_on T env j k r.it

-- ---- constants: the longest beginning of a chain that has a value is one constant

abbrev pub op_of : Joint → Op
op_of (joint.Operator o) = o
op_of (joint.Concat left right) = op.Plus

-- a constant of two, with all locals that they name and casts that they have
abbrev pub known_both : Known → Known → Option Constant → Option Known
known_both a b None = None
known_both a b (Some c) = Some (record { value = c; named = a.named ++ b.named; casts = a.casts ++ b.casts })

abbrev pub folded : Op → Option Known → Option Known → Option Known
folded o (Some a) (Some b) = known_both a b (fold o a.value b.value)
folded o _ _ = None

abbrev pub known_so_far : Joined → Option Known
known_so_far (Whole t) = known_of t
known_so_far _ = None

abbrev pub known_or : Place → Ty → Option Known → Joined → Joined
known_or place ty None j = j
known_or place ty (Some k) j = Whole (fixed place ty k)

-- 609, 606 at the first token of the chain
abbrev pub joined_by : Table → List Bounds → BinaryOp → Joined → Spanned Typed → Verdict → Told Joined
joined_by T env o j r Refused = Broken (breaking 609 (joined_start j)) []
joined_by T env o j r Unknown = Broken (breaking 606 (joined_start j)) []
joined_by T env o j r (Taken k) =
    Fine (known_or (joined_start j) k.result (folded (op_of k.joint) (known_so_far j) (known_of r.it)) (join_on T env o j k r))

unfoldable pub joining : Table → BinaryOp → Joined → Spanned Typed → Run Joined
joining T o j r env = record { env = env; told = joined_by T env o j r (taken T env o (joined_type j) (type_of r.it)) }

-- ---- instanceof (JLS 15.20.2): a reference that casts to the type (609), which is reifiable (612)

abbrev pub instance_cast : Table → List Bounds → Place → Ty → Ty → List Refusal
instance_cast T env place s t = if is_primitive s || is_primitive t then breaking 609 place ∷ [] else unconverted 609 place (cast T env s t)

abbrev pub instance_breaks : Table → List Bounds → Place → Ty → Ty → List Refusal
instance_breaks T env place s t = instance_cast T env place s t ++ unless (reifiable T t) 612 place

unfoldable pub tested : Table → Ty → Joined → Run Joined
tested T t j env =
    provided (instance_breaks T env (joined_start j) (joined_type j) t)
    (fine (Whole (node (joined_start j) (Prim Boolean) (InstanceOf (plain (whole j)) (erasure T [] t))))) env

-- ---- prefix operators, the innermost first: an operand, or operators of one kind before it

pub data Signed : Type 0 where
  Unsigned : Typed → Signed
  Under : (place : Place) (to : Primitive) (ops : List Op) (of_it : Operand) → Signed

abbrev pub signed : Signed → Typed
signed (Unsigned t) = t
signed (Under place p ops of_it) = node place (Prim p) (Prefix ops of_it)

abbrev pub prefixed_known : Op → Option Known → Option Known
prefixed_known o None = None
prefixed_known o (Some k) = known_value k (prefixed_constant o k.value)
  where
    known_value : Known → Option Constant → Option Known
    known_value k None = None
    known_value k (Some c) = Some (record k { value = c })

abbrev pub known_or_under : Place → Primitive → Option Known → Signed → Signed
known_or_under place p (Some k) s = Unsigned (fixed place (Prim p) k)
known_or_under place p None s = s

-- 609 at the operator
abbrev pub sign_first : Table → List Bounds → Place → Op → Typed → Option Primitive → Told Signed
sign_first T env place o t None = Broken (breaking 609 place) []
sign_first T env place o t (Some q) =
    Fine (known_or_under place q (prefixed_known o (known_of t)) (Under place q (o ∷ []) (stepped t (steps_to T env (type_of t) (Prim q)))))

abbrev pub sign_more : Place → Op → List Op → Operand → Option Primitive → Told Signed
sign_more place o ops of_it None = Broken (breaking 609 place) []
sign_more place o ops of_it (Some q) = Fine (Under place q (o ∷ ops) of_it)

abbrev pub signed_by : Table → List Bounds → Place → Op → Signed → Told Signed
signed_by T env place o (Unsigned t) = sign_first T env place o t (prefix_taken o (as_primitive T env (type_of t)))
signed_by T env place o (Under inner p ops of_it) = sign_more place o ops of_it (prefix_on o p)

unfoldable pub signing : Table → Place → Op → Signed → Run Signed
signing T place o s env = record { env = env; told = signed_by T env place o s }
