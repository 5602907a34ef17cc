-- The arity of the last parameter, from the first one on.
use Rattle.std.specs.Prelude.{Bool, List, [], ◌∷◌}
use Rattle.jc_tree.specs.declared.statement.Formal.{Formal}

-- the last of these formal parameters is one of variable arity; b where there is none
abbrev pub last_or : Bool → List Formal → Bool
last_or b [] = b
last_or b (f ∷ fs) = last_or f.variable_arity fs
