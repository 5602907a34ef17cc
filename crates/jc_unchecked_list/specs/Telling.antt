-- A list of told warnings, which grows at its end.
use Rattle.std.specs.Prelude.{ℕ, suc, List, [], ◌∷◌, ◌++◌}
use Rattle.jc_unchecked_spec.specs.declared.warning.Warning.{Warning}

-- these warnings behind those that were told, the last one first: a walk reads lists from their last member
abbrev pub told : List Warning → List Warning → List Warning
told [] before = before
told (w ∷ ws) before = told ws before ++ w ∷ []

-- those of each of these, counted from i
abbrev pub each_told : {X : Type 0} → (ℕ → X → List Warning) → ℕ → List X → List Warning → List Warning
each_told f i [] before = before
each_told f i (x ∷ xs) before = each_told f (suc i) xs (told (f i x) before)
