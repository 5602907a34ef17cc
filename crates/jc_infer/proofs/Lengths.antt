-- There are as many parameters as variables, and as many answers.
use Rattle.std.proofs.Common.{◌≡◌, suc, List, [], ◌∷◌, length, map, drop, refl, ap}
use Rattle.jc_types.specs.declared.environment.Bounds.{Bounds}
use Rattle.jc_types.specs.declared.form.Ty.{Ty}
use Rattle.jc_types.specs.declared.ids.VarId.{VarId}
use Rattle.jc_types.specs.declared.table.Table.{Table}
use Rattle.jc_constraints.specs.declared.standing.Implied.{Implied}
use Rattle.jc_infer.specs.Steps.{parameters}

pub parameters_length : (T : Table) (env : List Bounds) (is : List Implied) (vs : List VarId) (bss : List (List Ty)) → length vs ≡ length (parameters T env is vs bss)
parameters_length T env is [] bss = refl
parameters_length T env is (v ∷ vs) bss = ap suc (parameters_length T env is vs (drop 1 bss))

pub mapped_length : {A B : Type 0} (f : A → B) (xs : List A) → length xs ≡ length (map f xs)
mapped_length f [] = refl
mapped_length f (x ∷ xs) = ap suc (mapped_length f xs)
