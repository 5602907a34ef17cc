-- The three steps from constraints to an answer for each type parameter (JLS 15.12.2.7, 15.12.2.8).
use Rattle.std.specs.Prelude.{◌==◌, ◌&&◌, Bool, true, false, Option, Some, None, List, [], ◌∷◌, ◌++◌, drop, length, map, if◌then◌else◌}
use Rattle.jc_types.specs.declared.conversion.Phase.{Phase}
use Rattle.jc_types.specs.declared.environment.Bounds.{Bounds}
use Rattle.jc_types.specs.declared.form.Ty.{Ty}
use Rattle.jc_types.specs.declared.form.Ty.TheVariants.{Variable}
use Rattle.jc_types.specs.declared.ids.VarId.{VarId}
use Rattle.jc_types.specs.declared.table.Table.{Table}
use Rattle.jc_types.specs.Substitution.{subst}
use Rattle.jc_judge.specs.Kinds.{is_null}
use Rattle.jc_judge.specs.Meeting.{classes_meet, glb, glb_parts}
use Rattle.jc_overriding.specs.declared.view.MethodView.{MethodView}
use Rattle.jc_lub.specs.Lubs.{lub}
use Rattle.jc_lub.specs.Uncaptured.{object}
use Rattle.jc_boxes.specs.Boxes.{boxed}
use Rattle.jc_constraints.specs.declared.standing.Implied.{Implied}
use Rattle.jc_constraints.specs.declared.standing.Standing.{Standing}
use Rattle.jc_constraints.specs.declared.standing.Standing.TheVariants.{Below, Same, Above}
use Rattle.jc_constraints.specs.Constraints.{implied}
use Rattle.jc_constraints.specs.Targets.{implied_by_target}
use Rattle.jc_infer.specs.declared.outcome.Parameter.{Parameter}
use Rattle.jc_infer.specs.Formals.{formals}
use Rattle.jc_infer.specs.Naming.{names}

-- ---- the constraints of the arguments

-- a primitive argument counts as its class, and null says nothing
abbrev pub unless_null : Bool → List Implied → List Implied
unless_null true l = []
unless_null false l = l

-- what an argument's type implies where it stands below the formal type
abbrev pub by_argument : Table → List Bounds → List VarId → Ty → Ty → List Implied
by_argument T env vars f a = unless_null (is_null a) (implied T env vars f Below (boxed T a))

-- from left to right
abbrev pub by_arguments : Table → List Bounds → List VarId → List Ty → List Ty → List Implied
by_arguments T env vars [] args = []
by_arguments T env vars (f ∷ fs) [] = []
by_arguments T env vars (f ∷ fs) (a ∷ args) = by_argument T env vars f a ++ by_arguments T env vars fs args

-- what all arguments of a call imply in a phase
abbrev pub by_call : Table → List Bounds → MethodView → Phase → List Ty → List Implied
by_call T env m phase args = by_arguments T env m.vars (formals phase m.params (length args)) args

-- ---- what is implied of one parameter

-- two standings are the same
abbrev pub same_standing : Standing → Standing → Bool
same_standing Below Below = true
same_standing Same Same = true
same_standing Above Above = true
same_standing _ _ = false

-- what is implied is said of this parameter, and the type stands so to it
abbrev pub is_of : VarId → Standing → Implied → Bool
is_of v s i = (i.variable.0 == v.0) && same_standing i.standing s

-- the types that stand so to a parameter, in the order of the list
abbrev pub standing_so : VarId → Standing → List Implied → List Ty
standing_so v s [] = []
standing_so v s (i ∷ is) = if is_of v s i then i.ty ∷ standing_so v s is else standing_so v s is

-- ---- steps 1 and 2: the first equality, else the lub of the types below

-- the lub of these types; None where there are none
abbrev pub lub_of_some : Table → List Bounds → List Ty → Option Ty
lub_of_some T env [] = None
lub_of_some T env (t ∷ ts) = Some (lub T env (t ∷ ts))

-- the first of these types; the other one where there are none
abbrev pub first_or : Option Ty → List Ty → Option Ty
first_or other [] = other
first_or other (t ∷ ts) = Some t

-- the answer that the arguments give; None where no type is the same as the parameter, or below it
abbrev pub early : Table → List Bounds → List Implied → VarId → Option Ty
early T env is v = first_or (lub_of_some T env (standing_so v Below is)) (standing_so v Same is)

-- a parameter with its bounds, and the answer that the arguments give
abbrev pub parameter : Table → List Bounds → List Implied → VarId → List Ty → Parameter
parameter T env is v bs = record { variable = v; bounds = bs; early = early T env is v }

-- the bounds of the first parameter of a list; none where the list is empty
abbrev pub first_bounds : List (List Ty) → List Ty
first_bounds [] = []
first_bounds (bs ∷ bss) = bs

-- the parameters of a method with their bounds
abbrev pub parameters : Table → List Bounds → List Implied → List VarId → List (List Ty) → List Parameter
parameters T env is [] bss = []
parameters T env is (v ∷ vs) bss = parameter T env is v (first_bounds bss) ∷ parameters T env is vs (drop 1 bss)

-- ---- step 3, for the rest

-- a list of the parameter where it has no answer; else the empty list
abbrev pub variable_if : VarId → Option Ty → List VarId
variable_if v None = v ∷ []
variable_if v (Some t) = []

-- the parameters that have no answer yet
abbrev pub unknown : List Parameter → List VarId
unknown [] = []
unknown (p ∷ ps) = variable_if p.variable p.early ++ unknown ps

-- an answer, and the parameter itself where there is none
abbrev pub or_itself : VarId → Option Ty → Ty
or_itself v (Some t) = t
or_itself v None = Variable v

-- what stands for each parameter so far
abbrev pub stand_in : Parameter → Ty
stand_in p = or_itself p.variable p.early

-- nothing where a bound names an unknown parameter
abbrev pub unless_named : Bool → Implied → List Implied
unless_named true i = []
unless_named false i = i ∷ []

-- Of one bound: the answer of its parameter stands below it; a bound that names no unknown parameter stands above one that has no answer. `by` stands for the
-- parameters `vars`
abbrev pub by_bound : Table → List Bounds → List VarId → List VarId → List Ty → VarId → Option Ty → Ty → List Implied
by_bound T env left vars by v (Some t) b = implied T env left b Below t
by_bound T env left vars by v None b = unless_named (names left b) (record { variable = v; standing = Above; ty = subst vars by b })

-- .. of each of the bounds of a parameter
abbrev pub by_bounds : Table → List Bounds → List VarId → List VarId → List Ty → VarId → Option Ty → List Ty → List Implied
by_bounds T env left vars by v o [] = []
by_bounds T env left vars by v o (b ∷ bs) = by_bound T env left vars by v o b ++ by_bounds T env left vars by v o bs

-- .. of each parameter
abbrev pub by_all_bounds : Table → List Bounds → List VarId → List VarId → List Ty → List Parameter → List Implied
by_all_bounds T env left vars by [] = []
by_all_bounds T env left vars by (p ∷ ps) =
    by_bounds T env left vars by p.variable p.early p.bounds ++ by_all_bounds T env left vars by ps

-- the target of a call, a primitive one as its class; Object where there is none
abbrev pub target_type : Table → Option Ty → Ty
target_type T (Some t) = boxed T t
target_type T None = object

-- what the target implies of the result's type; a method without a result has nothing implied
abbrev pub by_result : Table → List Bounds → List VarId → Option Ty → Option Ty → List Implied
by_result T env left target None = []
by_result T env left target (Some r) = implied_by_target T env left (target_type T target) r

-- the target stands above the result, and then the bounds in the order of the parameters
abbrev pub late : Table → List Bounds → MethodView → List Parameter → Option Ty → List Implied
late T env m ps target =
    by_result T env (unknown ps) target m.result ++ by_all_bounds T env (unknown ps) m.vars (map stand_in ps) ps

-- ---- the answers

-- the first of the equal types, and the glb of the others where there is none
abbrev pub first_or_glb : Table → List Ty → List Ty → Ty
first_or_glb T uppers [] = glb T uppers
first_or_glb T uppers (t ∷ ts) = t

-- the answer that the arguments gave, or that of the third step
abbrev pub answer_or : Table → List Implied → VarId → Option Ty → Ty
answer_or T later v (Some t) = t
answer_or T later v None = first_or_glb T (standing_so v Above later) (standing_so v Same later)

-- equalities first, then the glb of the types above, else Object
abbrev pub answer : Table → List Implied → Parameter → Ty
answer T later p = answer_or T later p.variable p.early

-- false where there are types, else b
abbrev pub unless_any : Bool → List Ty → Bool
unless_any b [] = b
unless_any b (t ∷ ts) = false

-- only answers of the third step are asked, which no equality gives
abbrev pub meets_or : Table → List Implied → VarId → Option Ty → Bool
meets_or T later v (Some t) = false
meets_or T later v None = unless_any (classes_meet T (glb_parts T (standing_so v Above later))) (standing_so v Same later)

-- an answer is a glb in which two unrelated classes meet
abbrev pub meets : Table → List Implied → Parameter → Bool
meets T later p = meets_or T later p.variable p.early
