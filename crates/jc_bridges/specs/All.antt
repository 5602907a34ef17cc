-- The bridges of all classes.
use Rattle.std.specs.Prelude.{ℕ, zero, suc, List, [], ◌∷◌, ◌++◌, length}
use Rattle.jc_types.specs.declared.table.Table.{Table}
use Rattle.jc_bridges_spec.specs.declared.bridge.Bridge.{Bridge}
use Rattle.jc_bridges_spec.specs.Bridging.{bridges}

-- a list for each of the first n classes of a table
abbrev pub lists_for : Table → ℕ → List (List Bridge)
lists_for T zero = []
lists_for T (suc n) = lists_for T n ++ bridges T (record { 0 = n }) ∷ []

-- .. and for each of all
abbrev pub all_bridges : Table → List (List Bridge)
all_bridges T = lists_for T (length T.classes)
