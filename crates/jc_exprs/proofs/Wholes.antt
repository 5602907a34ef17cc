-- Initialisers and calls of other constructors, by the walk.
use Rattle.std.proofs.Common.{◌≡◌, refl, ap, ◌∙◌, List, [], ◌∷◌, map, None}
use Rattle.jc_rules.specs.declared.rule.Place.{Place}
use Rattle.jc_tree.specs.declared.expression.Expr.{Expr}
use Rattle.jc_types.specs.declared.form.Ty.{Ty}
use Rattle.jc_exprs_nodes_spec.specs.Told.{Standing, every, ran}
use Rattle.jc_exprs_nodes_spec.specs.Gates.{gated}
use Rattle.jc_exprs_parts_spec.specs.Worlds.{World}
use Rattle.jc_exprs_spec.specs.Typing.{constructed, made, runs, typing}
use Rattle.jc_exprs_calls.specs.Creating.{constructed_by}
use Rattle.jc_exprs_calls.proofs.Creates.{constructor_gated}
use Rattle.jc_exprs_forms.specs.Forms.{typings}
use Rattle.jc_exprs_forms.proofs.ByForms.{initialised-is}

of_runs : (W : World) (es : List Expr) → runs (map (made W) es) ≡ typings W es
unfolding typing
of_runs W [] = refl
of_runs W (e ∷ es) = ap (λ ms. typing W None e ∷ ms) (of_runs W es)

pub of_constructed : (W : World) (place : Place) (t : Ty) (es : List Expr) (s : Standing) →
    ran (constructed W place t es) s ≡ gated (constructed_by W place t) (ran (every (typings W es)) s).has (ran (every (typings W es)) s).state
of_constructed W place t es s = constructor_gated W place t es s ∙ ap (λ ms. gated (constructed_by W place t) (ran (every ms) s).has (ran (every ms) s).state) (of_runs W es)

pub ruleset wholes = (initialised-is, of_constructed)
