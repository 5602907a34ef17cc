-- The scopes round a scope of a table (JLS 6.3).
use Rattle.std.specs.Prelude.{◌≡◌, ℕ, List, Some, None, slice_get}
use Rattle.jc_types.specs.declared.ids.ScopeId.{ScopeId}
use Rattle.jc_types.specs.declared.scopes.Demand.{Demand}
use Rattle.jc_types.specs.declared.scopes.Scope.{Scope}
use Rattle.jc_types.specs.declared.scopes.ScopeOf.{ScopeOf}
use Rattle.jc_types.specs.declared.scopes.ScopeOf.TheVariants as scope

-- from this scope outwards the scopes end at that of a unit of this package
pub data EndsAtUnit (scopes : List Scope) (name : List ℕ) : ℕ → Type 0 where
  here : (s : ℕ) (own : List (List ℕ × ℕ)) (demands : List Demand) → slice_get scopes s ≡ Some (record { outer = None; of = scope.Unit own name demands }) → EndsAtUnit scopes name s
  outwards : (s : ℕ) (o : ScopeId) (of_it : ScopeOf) → slice_get scopes s ≡ Some (record { outer = Some o; of = of_it }) → EndsAtUnit scopes name o.0 → EndsAtUnit scopes name s
