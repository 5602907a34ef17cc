-- How a walk goes through the parts of a call behind a point, and through the arguments of a call of another constructor.
use Rattle.std.specs.Prelude.{◌≡◌, List, map}
use Rattle.jc_rules.specs.declared.rule.Place.{Place}
use Rattle.jc_tree.specs.declared.expression.Expr.{Expr}
use Rattle.jc_types.specs.declared.form.Ty.{Ty}
use Rattle.jc_exprs_nodes_spec.specs.Told.{Run, Standing, both, every, onward, ran}
use Rattle.jc_exprs_nodes_spec.specs.Gates.{gated, gated_two}
use Rattle.jc_exprs_nodes_spec.specs.Typeds.{Typed}
use Rattle.jc_exprs_parts_spec.specs.Names.{Meaning}
use Rattle.jc_exprs_parts_spec.specs.Worlds.{World}
use Rattle.jc_exprs_spec.specs.Calls.{Before}
use Rattle.jc_exprs_spec.specs.Typing.{constructed, made, runs}
use Rattle.jc_exprs_calls.specs.Creating.{constructed_by}

abbrev pub BeforeIsGated : Type 0
BeforeIsGated = (f : Meaning → Run Before) (m : Run Meaning) (s : Standing) → ran (onward m f) s ≡ gated f (ran m s).has (ran m s).state

abbrev pub CallIsGated : Type 0
CallIsGated =
    (f : Before → List Typed → Run Typed) (m : Run Before) (ms : List (Run Typed)) (s : Standing) →
    ran (onward (both m (every ms)) (λ p. f p.0 p.1)) s ≡ gated_two f (ran m s).has (ran (every ms) (ran m s).state).has (ran (every ms) (ran m s).state).state

abbrev pub ConstructorIsGated : Type 0
ConstructorIsGated =
    (W : World) (place : Place) (t : Ty) (es : List Expr) (s : Standing) →
    ran (constructed W place t es) s ≡ gated (constructed_by W place t) (ran (every (runs (map (made W) es))) s).has (ran (every (runs (map (made W) es))) s).state
