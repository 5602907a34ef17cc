-- Inference from its parts.
use Rattle.std.proofs.Common.{◌≡◌, List, ◌++◌, Option, ap, ◌∙◌}
use Rattle.jc_types.specs.declared.conversion.Phase.{Phase}
use Rattle.jc_types.specs.declared.environment.Bounds.{Bounds}
use Rattle.jc_types.specs.declared.form.Ty.{Ty}
use Rattle.jc_types.specs.declared.table.Table.{Table}
use Rattle.jc_overriding.specs.declared.view.MethodView.{MethodView}
use Rattle.jc_constraints.specs.declared.standing.Implied.{Implied}
use Rattle.jc_infer.specs.declared.outcome.Inference.{Inference}
use Rattle.jc_infer.specs.declared.outcome.Parameter.{Parameter}
use Rattle.jc_infer.specs.Steps.{by_call, late, parameters}
use Rattle.jc_infer.specs.Asked.{answered, inferred, inferred_for}

pub inferred_with : (T : Table) (env : List Bounds) (m : MethodView) (is : List Implied) (ps : List Parameter) (target : Option Ty) (all : List Implied) (r : Inference)
    → all ≡ is ++ late T env m ps target → r ≡ answered T env m ps all → r ≡ inferred_for T env m is ps target
inferred_with T env m is ps target all r e h = h ∙ ap (λ (l : List Implied). answered T env m ps l) e

pub inferred_by : (T : Table) (env : List Bounds) (m : MethodView) (phase : Phase) (args : List Ty) (target : Option Ty) (is : List Implied) (ps : List Parameter) (r : Inference)
    → is ≡ by_call T env m phase args → ps ≡ parameters T env is m.vars m.bounds → r ≡ inferred_for T env m is ps target → r ≡ inferred T env m phase args target
unfolding inferred
inferred_by T env m phase args target is ps r e f h =
    h ∙ ap (λ (l : List Parameter). inferred_for T env m is l target) f ∙ ap (λ (l : List Implied). inferred_for T env m l (parameters T env l m.vars m.bounds) target) e
