-- A member's own type parameters as types, with the bounds that its view gives them: of a parameterized type's member the declared ones with the type's arguments (JLS 4.5.2).
use Rattle.std.specs.Prelude.{ℕ, ◌+◌, None, List, [], ◌∷◌, ◌++◌, length, map}
use Rattle.jc_types.specs.declared.environment.Bounds.{Bounds}
use Rattle.jc_types.specs.declared.form.Ty.{Ty}
use Rattle.jc_types.specs.declared.form.Ty.TheVariants.{Captured}
use Rattle.jc_types.specs.declared.ids.VarId.{VarId}
use Rattle.jc_types.specs.Substitution.{subst}
use Rattle.jc_overriding.specs.declared.view.MethodView.{MethodView}

-- fresh variables that stand for type parameters, where n is the next one's number
abbrev pub stand_ins : ℕ → List VarId → List Ty
stand_ins n [] = []
stand_ins n (v ∷ vars) = Captured (record { 0 = n }) ∷ stand_ins (n + 1) vars

-- each of these lists as upper bounds, with types put for the parameters, and no lower bound
abbrev pub bounded_by : List VarId → List Ty → List (List Ty) → List Bounds
bounded_by vars by [] = []
bounded_by vars by (bs ∷ bounds) = record { uppers = map (subst vars by) bs; lower = None } ∷ bounded_by vars by bounds

-- an environment in which they stand behind others
abbrev pub with_parameters : List Bounds → MethodView → List Bounds
with_parameters env a = env ++ bounded_by a.vars (stand_ins (length env) a.vars) a.bounds

-- types of the member there
abbrev pub standing_in : List Bounds → MethodView → List Ty → List Ty
standing_in env a types = map (subst a.vars (stand_ins (length env) a.vars)) types
