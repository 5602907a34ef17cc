-- Which members a call applies in a phase (JLS 15.12.2.1 to 15.12.2.4).
use Rattle.std.specs.Prelude.{ℕ, ◌+◌, ◌==◌, nat_le, Bool, true, false, cond, ◌&&◌, ◌||◌, Option, Some, None, List, [], ◌∷◌, ◌++◌, length, map}
use Rattle.jc_types.specs.declared.conversion.Phase.{Phase}
use Rattle.jc_types.specs.declared.conversion.Phase.TheVariants.{Subtyping, Invocation, VariableArity}
use Rattle.jc_types.specs.declared.environment.Bounds.{Bounds}
use Rattle.jc_types.specs.declared.form.Ty.{Ty}
use Rattle.jc_types.specs.declared.ids.VarId.{VarId}
use Rattle.jc_types.specs.declared.table.Table.{Table}
use Rattle.jc_types.specs.Substitution.{subst}
use Rattle.jc_judge.specs.Kinds.{is_primitive}
use Rattle.jc_overriding.specs.declared.view.MethodView.{MethodView}
use Rattle.jc_convert.specs.declared.answer.Converts.{Converts}
use Rattle.jc_convert.specs.declared.answer.Converts.TheVariants as converts
use Rattle.jc_convert.specs.Converting.{invocation}
use Rattle.jc_infer.specs.declared.outcome.Inference.{Inference}
use Rattle.jc_infer.specs.declared.outcome.Inference.TheVariants as inference
use Rattle.jc_infer.specs.Asked.{given, inferred}
use Rattle.jc_infer.specs.Formals.{formals}
use Rattle.jc_resolve.specs.declared.site.CallSite.{CallSite}
use Rattle.jc_resolve.specs.declared.applied.Applied.{Applied}
use Rattle.jc_resolve.specs.declared.applied.Applied.TheVariants as applied
use Rattle.jc_resolve.specs.declared.applied.Candidate.{Candidate}
use Rattle.jc_resolve.specs.declared.applied.Fit.{Fit}
use Rattle.jc_resolve.specs.declared.applied.Fit.TheVariants as fit

-- ---- the arguments

-- the first phase boxes and unboxes nothing: a primitive type goes to a primitive one, and a reference to a reference (JLS 15.12.2.2)
abbrev pub by_subtyping : Bool → Bool → Converts → Converts
by_subtyping true true c = c
by_subtyping false false c = c
by_subtyping _ _ c = converts.NoConversion

-- an argument of type s to a parameter of type t in a phase
abbrev pub converted : Table → List Bounds → Phase → Ty → Ty → Converts
converted T env Subtyping s t = by_subtyping (is_primitive s) (is_primitive t) (invocation T env s t)
converted T env Invocation s t = invocation T env s t
converted T env VariableArity s t = invocation T env s t

-- whether the further arguments fit, where one before them is converted so
abbrev pub unchecked_before : Bool → Fit → Fit
unchecked_before u (fit.Fits v) = fit.Fits (u || v)
unchecked_before u fit.Fails = fit.Fails
unchecked_before u fit.Deep = fit.Deep

-- the conversion of an argument, and then the further arguments: one that has none, or can't be told, decides
abbrev pub behind : Converts → Fit → Fit
behind (converts.Yes c) further = unchecked_before c.unchecked further
behind converts.NoConversion further = fit.Fails
behind converts.Deep further = fit.Deep

-- each argument in order is converted to its parameter; the first that isn't decides
abbrev pub fits : Table → List Bounds → Phase → List Ty → List Ty → Fit
fits T env phase (s ∷ args) (t ∷ params) = behind (converted T env phase s t) (fits T env phase args params)
fits T env phase _ _ = fit.Fits false

-- ---- the type arguments

-- the number of the arguments is that of the parameters; in the third phase the last of these stands for any number of arguments
abbrev pub takes : Phase → MethodView → ℕ → Bool
takes Subtyping m n = length m.params == n
takes Invocation m n = length m.params == n
takes VariableArity m n = m.variable && nat_le (length m.params) (n + 1)

-- explicit type arguments are as many as the type parameters, where the member has any; else they say nothing (JLS 15.12.2.1)
abbrev pub counts : List VarId → List Ty → Bool
counts [] explicit = true
counts (v ∷ vars) [] = true
counts (v ∷ vars) (t ∷ explicit) = length (v ∷ vars) == length (t ∷ explicit)

-- what stands for the type parameters: none where there are none, the explicit ones, or the inferred ones
abbrev pub type_arguments_of : Table → List Bounds → CallSite → Phase → MethodView → List VarId → List Ty → Inference
type_arguments_of T env site phase m [] explicit = inference.Inferred []
type_arguments_of T env site phase m (v ∷ vars) [] = inferred T env m phase site.args site.target
type_arguments_of T env site phase m (v ∷ vars) (t ∷ explicit) = given T env m site.explicit

abbrev pub type_arguments : Table → List Bounds → CallSite → Phase → MethodView → Inference
type_arguments T env site phase m = type_arguments_of T env site phase m m.vars site.explicit

-- ---- applicable members

-- the outcome with these type arguments and types of parameters, by whether the arguments fit
abbrev pub applied_by : List Ty → List Ty → Fit → Applied
applied_by by to (fit.Fits unchecked) = applied.Applies by to unchecked
applied_by by to fit.Fails = applied.Fails
applied_by by to fit.Deep = applied.Deep

-- the types to which so many arguments go in a phase, with types for the type parameters (JLS 15.12.2.2 to 15.12.2.4)
abbrev pub formals_with : Phase → MethodView → List Ty → ℕ → List Ty
formals_with phase m by n = map (subst m.vars by) (formals phase m.params n)

-- the arguments, by what stands for the type parameters
abbrev pub applied_with : Table → List Bounds → CallSite → Phase → MethodView → Inference → Applied
applied_with T env site phase m (inference.Inferred by) =
    applied_by by (formals_with phase m by (length site.args)) (fits T env phase site.args (formals_with phase m by (length site.args)))
applied_with T env site phase m (inference.NotApplicable why) = applied.Fails
applied_with T env site phase m inference.Deep = applied.Deep

-- whether a member is applicable in a phase: the questions on its type arguments come first, then those on the arguments
abbrev pub applicable : Table → List Bounds → CallSite → Phase → MethodView → Applied
applicable T env site phase m =
    cond (takes phase m (length site.args) && counts m.vars site.explicit) (applied_with T env site phase m (type_arguments T env site phase m)) applied.Fails

-- an applicable member, with its type arguments, the types to which the arguments go, and whether an unchecked conversion was needed
abbrev pub candidate : MethodView → List Ty → List Ty → Bool → Candidate
candidate m by to unchecked = record { member = m; type_args = by; formals = to; unchecked = unchecked }

-- a candidate before the further ones, if these are known
abbrev pub put : Candidate → Option (List Candidate) → Option (List Candidate)
put c None = None
put c (Some cs) = Some (c ∷ cs)

-- .. by whether the member is applicable
abbrev pub gathered_by : MethodView → Applied → Option (List Candidate) → Option (List Candidate)
gathered_by m (applied.Applies by to unchecked) further = put (candidate m by to unchecked) further
gathered_by m applied.Fails further = further
gathered_by m applied.Deep further = None

-- candidates that stand before those that are still to be found
abbrev pub before : List Candidate → Option (List Candidate) → Option (List Candidate)
before cs None = None
before cs (Some ds) = Some (cs ++ ds)

-- .. where it is known which these are
abbrev pub before_if : Bool → List Candidate → Option (List Candidate) → Option (List Candidate)
before_if true cs more = before cs more
before_if false cs more = None

-- the applicable ones of some members, in order; None where it isn't known of one whether it is
abbrev pub gathered : Table → List Bounds → CallSite → Phase → List MethodView → Option (List Candidate)
gathered T env site phase [] = Some []
gathered T env site phase (m ∷ ms) = gathered_by m (applicable T env site phase m) (gathered T env site phase ms)
