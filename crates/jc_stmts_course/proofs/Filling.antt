-- The value of the local that was declared last.
use Rattle.std.proofs.Common.{◌≡◌, refl, ap, List, [], ◌∷◌, Option, Some, None}
use Rattle.jc_types.specs.declared.table.Table.{Table}
use Rattle.jc_exprs_nodes_spec.specs.Typeds.{Known, value_in}
use Rattle.jc_exprs_parts_spec.specs.Worlds.{LocalIn}
use Rattle.jc_exprs_locals.specs.Scoped.{last_constant, last_type}
use Rattle.jc_stmts_spec.specs.Courses.{last_with}
use Rattle.jc_stmts_course.specs.Nows.{constant_from_value}

pub last_filled : (T : Table) (k : Option Known) (ls : List LocalIn) → last_constant (constant_from_value T (last_type ls) (value_in k)) ls ≡ last_with T k ls
last_filled T k [] = refl
last_filled T None (l ∷ []) = refl
last_filled T (Some k) (l ∷ []) = refl
last_filled T k (l ∷ m ∷ ls) = ap (λ xs. l ∷ xs) (last_filled T k (m ∷ ls))

pub ruleset filling = (last_filled)
