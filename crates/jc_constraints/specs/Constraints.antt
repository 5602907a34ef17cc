-- What a constraint between a formal and an actual type implies of the unknown type parameters (JLS 15.12.2.7): by recursion on the formal type. The list has
-- what is implied in the order in which it stands, from left to right.
use Rattle.std.specs.Prelude.{ℕ, zero, suc, ◌==◌, ◌||◌, Bool, true, false, Option, Some, None, option_and_then, List, [], ◌∷◌, ◌++◌, if◌then◌else◌}
use Rattle.jc_types.specs.declared.environment.Bounds.{Bounds}
use Rattle.jc_types.specs.declared.form.Ty.{Ty, Ty-F, out-Ty, fold-Ty}
use Rattle.jc_types.specs.declared.form.Arg.{Arg, Arg-F, out-Arg, fold-Arg}
use Rattle.jc_types.specs.declared.ids.ClassId.{ClassId}
use Rattle.jc_types.specs.declared.ids.VarId.{VarId}
use Rattle.jc_types.specs.declared.table.Table.{Table}
use Rattle.jc_types.specs.Accessors.{bounds_of, uppers_of}
use Rattle.jc_types.specs.Arrays.{element}
use Rattle.jc_judge.specs.Kinds.{Layer, class_of, is_primitive}
use Rattle.jc_judge.specs.Views.{first_of, is_class, or_else}
use Rattle.jc_lub.specs.Uncaptured.{args_of, up_view, view_steps}
use Rattle.jc_constraints.specs.declared.standing.Implied.{Implied}
use Rattle.jc_constraints.specs.declared.standing.Standing.{Standing}
use Rattle.jc_constraints.specs.declared.standing.Standing.TheVariants.{Below, Same, Above}
use Rattle.jc_constraints.specs.Standings.{kind_of, part_of, standing_of}

-- what a formal type implies by an actual one that stands so to it; the same of arguments
abbrev pub Implies : Type 0
Implies = Standing → Ty → List Implied

abbrev pub ArgImplies : Type 0
ArgImplies = Standing → Arg → List Implied

-- a type variable is one of the unknown parameters
abbrev pub is_unknown : List VarId → VarId → Bool
is_unknown [] v = false
is_unknown (w ∷ ws) v = (w.0 == v.0) || is_unknown ws v

-- one line for a variable, if the condition holds; else none
abbrev pub implied_if : Bool → VarId → Standing → Ty → List Implied
implied_if true v s t = record { variable = v; standing = s; ty = t } ∷ []
implied_if false v s t = []

-- ---- arrays

-- a type unless it is primitive
abbrev pub if_reference : Bool → Ty → Option Ty
if_reference true t = None
if_reference false t = Some t

abbrev pub reference : Ty → Option Ty
reference t = if_reference (is_primitive t) t

-- the type of an array's elements, if they are references
abbrev pub reference_element : Ty → Option Ty
reference_element t = option_and_then reference (element t)

-- of a type's outermost layer; other types than these have none
abbrev pub bounds_at : Table → List Bounds → Layer → List Ty
bounds_at T env (Ty-F.Variable v) = bounds_of T v
bounds_at T env (Ty-F.Captured c) = uppers_of env c
bounds_at T env (Ty-F.Meet parts) = parts
bounds_at T env _ = []

-- the bounds of a variable, and the parts of an intersection
unfoldable pub bounds : Table → List Bounds → Ty → List Ty
bounds T env t = bounds_at T env (out-Ty t)

-- the type of the elements of a type, or of the first of its bounds that has some, in at most n steps
abbrev pub up_element_within : Table → List Bounds → ℕ → Ty → Option Ty
up_element_within T env zero t = None
up_element_within T env (suc n) t = or_else (reference_element t) (first_of (up_element_within T env n) (bounds T env t))

-- the same where a variable counts as its array bound
unfoldable pub up_element : Table → List Bounds → Ty → Option Ty
up_element T env t = up_element_within T env (view_steps T env) t

-- the elements of an actual type, by how it stands
abbrev pub element_for : Table → List Bounds → Standing → Ty → Option Ty
element_for T env Below a = up_element T env a
element_for T env Same a = reference_element a
element_for T env Above a = reference_element a

-- so many dimensions further down
abbrev pub down : (Ty → Option Ty) → ℕ → Option Ty → Option Ty
down e zero o = o
down e (suc n) o = down e n (option_and_then e o)

-- what a type implies by its elements, if there are such
abbrev pub on_element : Implies → Standing → Option Ty → List Implied
on_element f s (Some t) = f s t
on_element f s None = []

-- ---- arguments

-- the arguments of a view, if there is one
abbrev pub args_in : Option Ty → List Arg
args_in (Some t) = args_of t
args_in None = []

-- the arguments of a type of this class itself
abbrev pub own_args : ClassId → Ty → List Arg
own_args k t = if is_class k (class_of t) then args_of t else []

-- the arguments of an actual type as this class. A raw view has none
abbrev pub args_for : Table → List Bounds → Standing → ClassId → Ty → List Arg
args_for T env Below k a = args_in (up_view T env k a)
args_for T env Same k a = own_args k a
args_for T env Above k a = own_args k a

-- what the types in two arguments imply, where both have one and it is said how they stand
abbrev pub of_parts : Option Implies → Option Ty → Option Standing → List Implied
of_parts (Some f) (Some t) (Some s) = f s t
of_parts _ _ _ = []

-- of two arguments, by the kinds of both
abbrev pub arg_step : Arg-F ArgImplies Implies → ArgImplies
arg_step l s a = of_parts (part_of l) (part_of (out-Arg a)) (standing_of s (kind_of l) (kind_of (out-Arg a)))

-- place by place, as far as both have arguments
abbrev pub beside : List ArgImplies → Standing → List Arg → List Implied
beside [] s args = []
beside (f ∷ fs) s [] = []
beside (f ∷ fs) s (a ∷ args) = f s a ++ beside fs s args

-- ---- types

-- of a formal type, where its parts' implications are known: other types than these three imply nothing
abbrev pub type_step : Table → List Bounds → List VarId → Ty-F ArgImplies Implies → Implies
type_step T env unknown (Ty-F.Variable v) s a = implied_if (is_unknown unknown v) v s a
type_step T env unknown (Ty-F.Array f n) s a = on_element f s (down (element_for T env s) n (element_for T env s a))
type_step T env unknown (Ty-F.Class k fs) s a = beside fs s (args_for T env s k a)
type_step T env unknown _ s a = []

-- what the constraint between a formal and an actual type implies
unfoldable pub implied : Table → List Bounds → List VarId → Ty → Implies
implied T env unknown formal = fold-Ty ArgImplies Implies arg_step (type_step T env unknown) formal

-- the same of two arguments, where the types round them stand so
unfoldable pub implied_by_arg : Table → List Bounds → List VarId → Arg → ArgImplies
implied_by_arg T env unknown formal = fold-Arg ArgImplies Implies arg_step (type_step T env unknown) formal
