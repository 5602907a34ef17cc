-- What the imports of units name (JLS 7.5).
use Rattle.std.specs.Prelude.{◌≡◌, List, [], ◌∷◌, ◌++◌, cond, map}
use Rattle.jc_declares.specs.declared.heads.Heads.{Heads}
use Rattle.jc_declares.specs.declared.heads.ImportHead.{ImportHead}
use Rattle.jc_declares.specs.declared.heads.UnitHead.{UnitHead}
use Rattle.jc_declares.specs.Heads.{Named}
use Rattle.jc_declares.specs.Looking.{Found, imported, singles}
use Rattle.jc_name_index.specs.Spaces.{with_first}
use Rattle.jc_imports.specs.declared.imports.Imports.{Imports}
use Rattle.jc_imports.specs.declared.imports.UnitImports.{UnitImports}
use Rattle.jc_imports.specs.Founds.{found_of}

-- names with others behind them, each name once, where it stands first
abbrev pub with_firsts : Named → Named → Named
with_firsts [] names = names
with_firsts (e ∷ es) names = with_firsts es (with_first e.0 e.1 names)

-- what an import on demand imports from (JLS 7.5.2)
abbrev pub demand_of : ImportHead → Found → List Found
demand_of i f = cond i.on_demand (f ∷ []) []

-- what all imports on demand among these import from, in their order
abbrev pub demands_of : Heads → List ImportHead → List Found
demands_of H [] = []
demands_of H (i ∷ is) = demand_of i (imported H i) ++ demands_of H is

-- what imports name, with the first type of each simple name that single ones import
pub record Seen : Type 0 where
  pub found : List Found
  pub singles : Named
  pub demands : List Found

-- what these imports name, as the definitions have it; and below, as the code keeps it for a unit
abbrev pub imports_by : Heads → List ImportHead → Seen
imports_by H is = record { found = map (imported H) is; singles = with_firsts (singles H is) []; demands = demands_of H is }

abbrev pub imports_seen : UnitImports → Seen
imports_seen u = record { found = map found_of u.found; singles = u.singles; demands = map found_of u.demands }

-- for each unit, in their order
abbrev pub imports_by_units : Heads → List UnitHead → List Seen
imports_by_units H us = map (λ (u : UnitHead). imports_by H u.imports) us

-- what is kept is what the imports of each unit name
abbrev pub IsImports : Heads → Imports → Type 0
IsImports H I = map imports_seen I.units ≡ imports_by_units H H.units
