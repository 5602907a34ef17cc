-- A list without its last member.
use Rattle.std.proofs.Common.{◌≡◌, List, [], ◌∷◌, ◌++◌, refl, ap}
use Rattle.jc_flow_spec.specs.declared.flow.Exact.{Exact}
use Rattle.jc_flow_spec.specs.States.{front}

pub front_more : (xs : List Exact) (x : Exact) → front (xs ++ x ∷ []) ≡ xs
front_more [] x = refl
front_more (y ∷ []) x = refl
front_more (y ∷ z ∷ xs) x = ap (λ l. y ∷ l) (front_more (z ∷ xs) x)

pub ruleset fronts = (front_more)
