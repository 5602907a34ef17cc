-- Names with what they name, as they are added one by one.
use Rattle.std.specs.Prelude.{ℕ, cond, List, [], ◌∷◌, ◌++◌, map, codes, Option, Some, None, slice_get}
use Rattle.jc_types.specs.Names.{named}
use Rattle.jc_declares.specs.declared.heads.Heads.{Heads}
use Rattle.jc_declares.specs.declared.heads.VariableHead.{VariableHead}
use Rattle.jc_declares.specs.Heads.{Named, name_of}
use Rattle.jc_declares.specs.Knowing.{is_some}

-- with a name, unless it is there
abbrev pub with_entry : List ℕ → ℕ → Named → Named
with_entry n p found = cond (is_some (named n found)) found (found ++ (n, p) ∷ [])

-- classes and type parameters by their numbers, with their names
abbrev pub class_entries : Heads → List ℕ → Named
class_entries H ns = map (λ n. (name_of H n, n)) ns

-- the name of a type parameter; empty where there is none
abbrev pub variable_name : Option VariableHead → List ℕ
variable_name None = []
variable_name (Some v) = v.name

abbrev pub variable_entries : Heads → List ℕ → Named
variable_entries H ns = map (λ n. (variable_name (slice_get H.variables n), n)) ns

-- a package with a point behind it, and nothing for the unnamed one
abbrev pub with_point : List ℕ → List ℕ
with_point [] = []
with_point (b ∷ p) = (b ∷ p) ++ codes "."
