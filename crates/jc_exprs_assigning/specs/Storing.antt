-- The forms of assignments, and how a walk goes through a variable that is assigned.
use Rattle.std.specs.Prelude.{◌≡◌, Bool, List, ◌++◌, Option}
use Rattle.jc_types.specs.declared.constant.Op.{Op}
use Rattle.jc_types.specs.declared.environment.Bounds.{Bounds}
use Rattle.jc_types.specs.declared.form.Primitive.{Primitive}
use Rattle.jc_types.specs.declared.form.Ty.TheVariants.{Prim}
use Rattle.jc_types.specs.declared.table.Table.{Table}
use Rattle.jc_typed.specs.Trees.{Form, Compound, Change}
use Rattle.jc_convert.specs.declared.answer.Converts.{Converts}
use Rattle.jc_exprs_nodes_spec.specs.Told.{Run, Standing, both, feeding, onward, ran}
use Rattle.jc_exprs_nodes_spec.specs.Gates.{gated, gated_two}
use Rattle.jc_exprs_nodes_spec.specs.Typeds.{Typed, stepped, steps_by, type_of, use_guard}
use Rattle.jc_exprs_parts_spec.specs.Operators.{Takes, promoted}
use Rattle.jc_exprs_parts_spec.specs.Chains.{steps_to}
use Rattle.jc_exprs_parts_spec.specs.Assigning.{Target, boxed_to, narrowed_to, read_steps}

abbrev pub compound_form : Table → List Bounds → Target → Takes → Typed → Converts → Form
compound_form T env v k r c =
    Compound v.variable k.joint (read_steps T env v k.left) (stepped r (steps_to T env (type_of r) k.right)) (steps_by T env k.result c ++ use_guard T env v.ty v.declared)

abbrev pub change_form : Table → List Bounds → Op → Bool → Target → Primitive → Form
change_form T env o is_prefix v p =
    Change v.variable o (read_steps T env v (Prim (promoted p))) (narrowed_to p ++ boxed_to v.ty p ++ use_guard T env v.ty v.declared) is_prefix

-- ---- laws

abbrev pub OneTarget : Type 0
OneTarget = (f : Target → Run Typed) (m : Run Target) (s : Standing) → ran (onward m f) s ≡ gated f (ran m s).has (ran m s).state

abbrev pub FeedingTarget : Type 0
FeedingTarget =
    (f : Target → Typed → Run Typed) (m : Run Target) (g : Option Target → Run Typed) (s : Standing) →
    ran (onward (feeding m g) (λ p. f p.0 p.1)) s ≡ gated_two f (ran m s).has (ran (g (ran m s).has) (ran m s).state).has (ran (g (ran m s).has) (ran m s).state).state

abbrev pub BothWithTarget : Type 0
BothWithTarget =
    (f : Target → Typed → Run Typed) (m : Run Target) (n : Run Typed) (s : Standing) →
    ran (onward (both m n) (λ p. f p.0 p.1)) s ≡ gated_two f (ran m s).has (ran n (ran m s).state).has (ran n (ran m s).state).state
