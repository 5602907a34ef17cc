-- An operand of the type that is wanted stays as it is.
use Rattle.std.proofs.Common.{◌≡◌, refl, List, []}
use Rattle.jc_types.specs.declared.environment.Bounds.{Bounds}
use Rattle.jc_types.specs.declared.form.Ty.{Ty}
use Rattle.jc_types.specs.declared.table.Table.{Table}
use Rattle.jc_types.proofs.Sameness.{same_self}
use Rattle.jc_exprs_parts_spec.specs.Chains.{steps_to}

pub no_steps : (T : Table) (env : List Bounds) (t : Ty) → steps_to T env t t ≡ []
no_steps T env t = rw (same_self t) refl

pub ruleset stays = (no_steps)
