-- Which of several applicable members is the most specific one (JLS 15.12.2.5).
use Rattle.std.specs.Prelude.{ℕ, ◌==◌, max, cond, Option, Some, None, List, [], ◌∷◌, length}
use Rattle.jc_types.specs.declared.conversion.Phase.{Phase}
use Rattle.jc_types.specs.declared.environment.Bounds.{Bounds}
use Rattle.jc_types.specs.declared.form.Ty.{Ty}
use Rattle.jc_types.specs.declared.ids.VarId.{VarId}
use Rattle.jc_types.specs.declared.table.Table.{Table}
use Rattle.jc_judge.specs.declared.question.Answer.{Answer}
use Rattle.jc_judge.specs.declared.question.Answer.TheVariants.{Yes, No, Deep}
use Rattle.jc_judge.specs.Deciding.{answer_of}
use Rattle.jc_overriding.specs.declared.view.MethodView.{MethodView}
use Rattle.jc_infer.specs.declared.outcome.Inference.{Inference}
use Rattle.jc_infer.specs.declared.outcome.Inference.TheVariants as inference
use Rattle.jc_infer.specs.Asked.{and_then, inferred}
use Rattle.jc_infer.specs.Formals.{formals}
use Rattle.jc_resolve.specs.declared.applied.Candidate.{Candidate}
use Rattle.jc_resolve.specs.Applying.{formals_with, put}
use Rattle.jc_resolve.specs.Parameters.{standing_in, with_parameters}

-- each type is below the one at its place: the first question that isn't proved decides
abbrev pub all_below : Table → List Bounds → List Ty → List Ty → Answer
all_below T env (s ∷ ss) (t ∷ ts) = and_then (answer_of T 64 env s t) (all_below T env ss ts)
all_below T env _ _ = Yes

-- two members of variable arity are compared at the greater number of parameters
abbrev pub compared_at : MethodView → MethodView → ℕ
compared_at a b = max (length a.params) (length b.params)

-- what stands for b's type parameters, where parameters of another member are its arguments
abbrev pub compared_by_of : Table → List Bounds → Phase → MethodView → List Ty → List VarId → Inference
compared_by_of T env phase b params [] = inference.Inferred []
compared_by_of T env phase b params (v ∷ vars) = inferred T env b phase params None

-- .. of b's own type parameters
abbrev pub compared_by : Table → List Bounds → Phase → MethodView → List Ty → Inference
compared_by T env phase b params = compared_by_of T env phase b params b.vars

-- parameters of another member are below b's, with these type arguments; No where inference fails
abbrev pub compared_with : Table → List Bounds → Phase → MethodView → List Ty → Inference → Answer
compared_with T env phase b params (inference.Inferred by) = all_below T env params (formals_with phase b by (length params))
compared_with T env phase b params (inference.NotApplicable why) = No
compared_with T env phase b params inference.Deep = Deep

-- b takes these types as its arguments, each by subtyping
abbrev pub compared : Table → List Bounds → Phase → MethodView → List Ty → Answer
compared T env phase b params = compared_with T env phase b params (compared_by T env phase b params)

-- .. of a member with type parameters, which are types here with the bounds that its view gives them
abbrev pub compared_as : Table → List Bounds → Phase → MethodView → MethodView → List Ty → List VarId → Answer
compared_as T env phase a b params [] = compared T env phase b params
compared_as T env phase a b params (v ∷ vars) = compared T (with_parameters env a) phase b (standing_in env a params)

-- each parameter of a is below that of b, whose type parameters are inferred from a's parameters
abbrev pub more_specific : Table → List Bounds → Phase → MethodView → MethodView → Answer
more_specific T env phase a b = compared_as T env phase a b (formals phase a.params (compared_at a b)) a.vars

-- the opposite of an answer, where it can be told
abbrev pub not_so : Answer → Answer
not_so Yes = No
not_so No = Yes
not_so Deep = Deep

-- a is more specific than b, and b isn't more specific than a. No member is so to itself
abbrev pub strictly : Table → List Bounds → Phase → MethodView → MethodView → Answer
strictly T env phase a b =
    cond (a.id.0 == b.id.0) No (and_then (more_specific T env phase a b) (not_so (more_specific T env phase b a)))

-- Yes where one of two is, but Deep where one of them is
abbrev pub either : Answer → Answer → Answer
either Deep b = Deep
either Yes Deep = Deep
either Yes Yes = Yes
either Yes No = Yes
either No b = b

-- one of these candidates is strictly more specific than b
abbrev pub beaten : Table → List Bounds → Phase → MethodView → List Candidate → Answer
beaten T env phase b [] = No
beaten T env phase b (a ∷ others) = either (strictly T env phase a.member b) (beaten T env phase b others)

-- a candidate before others unless it is beaten; None where it can't be told whether it is
abbrev pub put_unless : Answer → Candidate → Option (List Candidate) → Option (List Candidate)
put_unless Deep c more = None
put_unless Yes c more = more
put_unless No c more = put c more

-- those of some candidates that none of all is strictly more specific than; None where a comparison is Deep
abbrev pub maximal : Table → List Bounds → Phase → List Candidate → List Candidate → Option (List Candidate)
maximal T env phase all [] = Some []
maximal T env phase all (c ∷ cs) = put_unless (beaten T env phase c.member all) c (maximal T env phase all cs)
