-- What a constraint `S >> F` implies that comes from the target of a call or from a bound (JLS 15.12.2.8): by recursion on S. As long as S stands above, the formal
-- type may be seen as the class of S; behind the first line that turns round, or makes equal, what is implied is as for the constraint of an argument. So the
-- constraints come to an end also where views grow.
use Rattle.std.specs.Prelude.{ℕ, ◌-◌, nat_lt, Bool, true, false, Option, Some, None, List, [], ◌∷◌, ◌++◌, if◌then◌else◌}
use Rattle.jc_types.specs.declared.environment.Bounds.{Bounds}
use Rattle.jc_types.specs.declared.form.Ty.{Ty, Ty-F, out-Ty, para-Ty}
use Rattle.jc_types.specs.declared.form.Arg.{Arg, Arg-F, out-Arg, para-Arg}
use Rattle.jc_types.specs.declared.ids.ClassId.{ClassId}
use Rattle.jc_types.specs.declared.ids.VarId.{VarId}
use Rattle.jc_types.specs.declared.table.Table.{Table}
use Rattle.jc_types.specs.Arrays.{lowered}
use Rattle.jc_judge.specs.Kinds.{Layer, class_of, is_primitive}
use Rattle.jc_judge.specs.Meeting.{are_exact}
use Rattle.jc_judge.specs.Views.{is_class, view}
use Rattle.jc_lub.specs.Uncaptured.{args_of}
use Rattle.jc_constraints.specs.declared.standing.Implied.{Implied}
use Rattle.jc_constraints.specs.declared.standing.Standing.TheVariants.{Below, Same, Above}
use Rattle.jc_constraints.specs.Constraints.{args_in, implied, implied_if, is_unknown}

-- what a part of a target implies of a formal type; the same of arguments
abbrev pub Aims : Type 0
Aims = Ty → List Implied

abbrev pub ArgAims : Type 0
ArgAims = Arg-F Arg Ty → List Implied

-- the type of an argument that is a type; also one behind `extends` here, one behind `super` next, and of no wildcard last
abbrev pub exact_or_upper : Arg-F Arg Ty → Option Ty
exact_or_upper (Arg-F.Exact u) = Some u
exact_or_upper (Arg-F.Extends u) = Some u
exact_or_upper _ = None

abbrev pub exact_or_lower : Arg-F Arg Ty → Option Ty
exact_or_lower (Arg-F.Exact u) = Some u
exact_or_lower (Arg-F.Super u) = Some u
exact_or_lower _ = None

abbrev pub exact_only : Arg-F Arg Ty → Option Ty
exact_only (Arg-F.Exact u) = Some u
exact_only _ = None

-- what a type implies, if there is one
abbrev pub on_some : Aims → Option Ty → List Implied
on_some f (Some u) = f u
on_some f None = []

-- where the formal type is an open parameter, the target stands above it
abbrev pub parameter_or : List VarId → Ty → List Implied → Layer → List Implied
parameter_or unknown s rest (Ty-F.Variable v) = implied_if (is_unknown unknown v) v Above s
parameter_or unknown s rest _ = rest

-- what part w of a target implies where it stands above a formal type
abbrev pub onto : List VarId → Ty × Aims → Ty → List Implied
onto unknown w f = parameter_or unknown w.0 (w.1 f) (out-Ty f)

-- an argument of the target beside one of the formal type: the same, above it behind `extends`, or below it behind `super`
abbrev pub arg_aim : Table → List Bounds → List VarId → Arg-F (Arg × ArgAims) (Ty × Aims) → ArgAims
arg_aim T env unknown (Arg-F.Exact w) u = on_some (λ f. implied T env unknown f Same w.0) (exact_only u)
arg_aim T env unknown Arg-F.Any u = []
arg_aim T env unknown (Arg-F.Extends w) u = on_some (onto unknown w) (exact_or_upper u)
arg_aim T env unknown (Arg-F.Super w) u = on_some (λ f. implied T env unknown f Below w.0) (exact_or_lower u)

-- place by place, as far as both have arguments
abbrev pub aims_beside : List (Arg × ArgAims) → List Arg → List Implied
aims_beside [] us = []
aims_beside (w ∷ ws) [] = []
aims_beside (w ∷ ws) (u ∷ us) = w.1 (out-Arg u) ++ aims_beside ws us

-- the arguments of a formal type seen as the target's class: its own, or those of its view, if it has no wildcards
abbrev pub seen_as : Table → ClassId → Ty → List Arg
seen_as T k f = if is_class k (class_of f) then args_of f else if are_exact (args_of f) then args_in (view T k f) else []

-- nothing for arrays whose elements are primitive
abbrev pub unless_primitive : Bool → List Implied → List Implied
unless_primitive true l = []
unless_primitive false l = l

-- array types of n + 1 and m + 1 dimensions: as many dimensions of each go as both have
abbrev pub array_aim : List VarId → Ty × Aims → ℕ → Layer → List Implied
array_aim unknown w n (Ty-F.Array u m) =
    if nat_lt m n then parameter_or unknown (lowered w.0 (n - m)) [] (out-Ty u) else
    unless_primitive (is_primitive w.0) (onto unknown w (lowered u (m - n)))
array_aim unknown w n _ = []

-- class types go by their arguments and arrays by their elements; other types imply nothing
abbrev pub type_aim : Table → List Bounds → List VarId → Ty-F (Arg × ArgAims) (Ty × Aims) → Aims
type_aim T env unknown (Ty-F.Class k ws) f = aims_beside ws (seen_as T k f)
type_aim T env unknown (Ty-F.Array w n) f = array_aim unknown w n (out-Ty f)
type_aim T env unknown _ f = []

-- what a target implies of a formal type that isn't an unknown parameter itself; the same of arguments
unfoldable pub aimed : Table → List Bounds → List VarId → Ty → Aims
aimed T env unknown s = para-Ty ArgAims Aims (arg_aim T env unknown) (type_aim T env unknown) s

unfoldable pub aimed_by_arg : Table → List Bounds → List VarId → Arg → ArgAims
aimed_by_arg T env unknown a = para-Arg ArgAims Aims (arg_aim T env unknown) (type_aim T env unknown) a

-- an argument with what it implies
abbrev pub with_aim : Table → List Bounds → List VarId → Arg → Arg × ArgAims
with_aim T env unknown a = (a, aimed_by_arg T env unknown a)

-- what a target above a formal type implies
abbrev pub implied_by_target : Table → List Bounds → List VarId → Ty → Ty → List Implied
implied_by_target T env unknown s f = parameter_or unknown s (aimed T env unknown s f) (out-Ty f)
