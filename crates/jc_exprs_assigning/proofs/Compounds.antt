-- What a walk makes of a compound assignment, by its variable and its operator.
use Rattle.std.proofs.Common.{◌≡◌, refl, List, Option, Some}
use Rattle.jc_types.specs.declared.environment.Bounds.{Bounds}
use Rattle.jc_types.specs.declared.form.Primitive.{Primitive}
use Rattle.jc_types.specs.declared.table.Table.{Table}
use Rattle.jc_typed.specs.declared.expressions.Joint.{Joint}
use Rattle.jc_typed.specs.declared.expressions.Joint.TheVariants as joint
use Rattle.jc_typed.specs.declared.expressions.Printed.{Printed}
use Rattle.jc_convert.specs.declared.answer.Converts.{Converts}
use Rattle.jc_convert.specs.Casting.{cast}
use Rattle.jc_convert.specs.Converting.{invocation}
use Rattle.jc_exprs_nodes_spec.specs.Told.{Standing, ran}
use Rattle.jc_exprs_nodes_spec.specs.Typeds.{Typed}
use Rattle.jc_exprs_parts_spec.specs.Operators.{Takes}
use Rattle.jc_exprs_parts_spec.specs.Assigning.{Target, compound_into, compound_number, compound_taken}

module _ (T : Table) (env : List Bounds) (v : Target) (k : Takes) (r : Typed) (s : Standing) where
  pub number_by : (o : Option Primitive) (p : Primitive) (c : Converts) → o ≡ Some p → cast T env k.result v.ty ≡ c → ran (compound_number T env v k r o) s ≡ ran (compound_into T env v k r c) s
  number_by o p c e f = rw (e, f) refl

  pub text_by : (j : Joint) (left right : Printed) → j ≡ joint.Concat left right →
      ran (compound_taken T env v k r j) s ≡ ran (compound_into T env v k r (invocation T env k.result v.ty)) s
  text_by j left right e = rw e refl
