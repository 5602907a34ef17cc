-- What is asked of the answers: for each parameter in order that no two unrelated classes meet in it, whether it is below each of its bounds, and then whether it is well
-- formed (JLS 4.5), which is a judgement with three answers. The first question that isn't proved decides.
use Rattle.std.specs.Prelude.{ℕ, ◌+◌, Option, Some, None, List, [], ◌∷◌, ◌++◌, drop, map, cond}
use Rattle.jc_types.specs.declared.conversion.Phase.{Phase}
use Rattle.jc_types.specs.declared.environment.Bounds.{Bounds}
use Rattle.jc_types.specs.declared.form.Ty.{Ty}
use Rattle.jc_types.specs.declared.ids.VarId.{VarId}
use Rattle.jc_types.specs.declared.table.Table.{Table}
use Rattle.jc_types.specs.Substitution.{subst}
use Rattle.jc_judge.specs.declared.question.Answer.{Answer}
use Rattle.jc_judge.specs.declared.question.Answer.TheVariants.{Yes, No, Deep}
use Rattle.jc_judge.specs.Deciding.{answer_of}
use Rattle.jc_judge.specs.Forming.{formed_answer}
use Rattle.jc_overriding.specs.declared.view.MethodView.{MethodView}
use Rattle.jc_constraints.specs.declared.standing.Implied.{Implied}
use Rattle.jc_infer.specs.declared.outcome.Inference.{Inference}
use Rattle.jc_infer.specs.declared.outcome.Inference.TheVariants as outcome
use Rattle.jc_infer.specs.declared.outcome.Parameter.{Parameter}
use Rattle.jc_infer.specs.declared.outcome.Why.TheVariants as why
use Rattle.jc_infer.specs.Steps.{answer, by_call, first_bounds, late, meets, parameters}

-- the first answer that isn't Yes
abbrev pub and_then : Answer → Answer → Answer
and_then Yes more = more
and_then No more = No
and_then Deep more = Deep

-- whether a type is below each of these bounds, by trees of height 64
abbrev pub within : Table → List Bounds → Ty → List Ty → Answer
within T env t [] = Yes
within T env t (b ∷ bs) = and_then (answer_of T 64 env t b) (within T env t bs)

-- what the judgement on the i-th answer comes to: one that is refuted makes the method not applicable, and one that can't be told makes the outcome Deep
abbrev pub unless_formed : Answer → ℕ → Option Inference
unless_formed Yes i = None
unless_formed No i = Some (outcome.NotApplicable (why.Ill i))
unless_formed Deep i = Some outcome.Deep

-- a bound that isn't proved decides, before anything further
abbrev pub behind_bounds : Answer → ℕ → Option Inference → Option Inference
behind_bounds Yes i more = more
behind_bounds No i more = Some (outcome.NotApplicable (why.Bound i))
behind_bounds Deep i more = Some outcome.Deep

-- the questions on the i-th answer: None where all are proved
abbrev pub one_asked : Table → List Bounds → List Implied → List VarId → List Ty → ℕ → Parameter → Option Inference
one_asked T env later vars answers i p =
    cond (meets T later p) (Some (outcome.NotApplicable (why.Ill i)))
    (behind_bounds (within T env (answer T later p) (map (subst vars answers) p.bounds)) i (unless_formed (formed_answer T 64 env (answer T later p)) i))

-- the first outcome, if there is one
abbrev pub or_more : Option Inference → Inference → Inference
or_more None more = more
or_more (Some r) more = r

-- the questions on all answers from the i-th on
abbrev pub all_asked : Table → List Bounds → List Implied → List VarId → List Ty → ℕ → List Parameter → Inference
all_asked T env later vars answers i [] = outcome.Inferred answers
all_asked T env later vars answers i (p ∷ ps) = or_more (one_asked T env later vars answers i p) (all_asked T env later vars answers (i + 1) ps)

-- the answers to all parameters of a method, if all questions on them are proved
abbrev pub answered : Table → List Bounds → MethodView → List Parameter → List Implied → Inference
answered T env m ps later = all_asked T env later m.vars (map (answer T later) ps) 0 ps

-- what the arguments imply still holds of the parameters that they leave open
abbrev pub inferred_for : Table → List Bounds → MethodView → List Implied → List Parameter → Option Ty → Inference
inferred_for T env m is ps target = answered T env m ps (is ++ late T env m ps target)

-- what inference gives for a call of a method in a phase, with the types of its arguments and its target, if it has one
unfoldable pub inferred : Table → List Bounds → MethodView → Phase → List Ty → Option Ty → Inference
inferred T env m phase args target =
    inferred_for T env m (by_call T env m phase args) (parameters T env (by_call T env m phase args) m.vars m.bounds) target

-- parameters whose answers are written
abbrev pub written_one : VarId → List Ty → Ty → Parameter
written_one v bs t = record { variable = v; bounds = bs; early = Some t }

-- as far as there are both parameters and types
abbrev pub written : List VarId → List (List Ty) → List Ty → List Parameter
written (v ∷ vs) bss (t ∷ ts) = written_one v (first_bounds bss) t ∷ written vs (drop 1 bss) ts
written _ bss _ = []

-- explicit type arguments are asked as inferred ones are
unfoldable pub given : Table → List Bounds → MethodView → List Ty → Inference
given T env m args = all_asked T env [] m.vars args 0 (written m.vars m.bounds args)
