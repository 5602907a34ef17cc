-- Steps up to a reference type, by whether what goes there is primitive.
use Rattle.std.proofs.Common.{◌≡◌, refl, List, ◌∷◌, None, Some}
use Rattle.jc_types.specs.declared.environment.Bounds.{Bounds}
use Rattle.jc_types.specs.declared.form.Primitive.{Primitive}
use Rattle.jc_types.specs.declared.form.Ty.{Ty, Ty-F}
use Rattle.jc_types.specs.declared.table.Table.{Table}
use Rattle.jc_judge.specs.Kinds.{Layer}
use Rattle.jc_convert.specs.Converting.{box}
use Rattle.jc_typed.specs.Trees.{BoxUp}
use Rattle.jc_exprs_parts_spec.specs.Operators.{primitive_or}
use Rattle.jc_exprs_parts_spec.specs.Values.{lifted, up_to}

-- a primitive type is boxed first
pub lifted_boxed : (T : Table) (env : List Bounds) (s t : Ty) (l : Layer) (p : Primitive) → primitive_or None l ≡ Some p → lifted T env s l t ≡ BoxUp p ∷ up_to T env (box T p) t
lifted_boxed T env s t (Ty-F.Prim q) p e = cc
lifted_boxed T env s t l p e = absurd (cc e)

pub lifted_plain : (T : Table) (env : List Bounds) (s t : Ty) (l : Layer) → primitive_or None l ≡ None → lifted T env s l t ≡ up_to T env s t
lifted_plain T env s t (Ty-F.Prim q) e = absurd (cc e)
lifted_plain T env s t l e = refl

pub ruleset lifting = (lifted_boxed, lifted_plain)
