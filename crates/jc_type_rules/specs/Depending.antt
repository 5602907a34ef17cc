-- Type parameters that depend on themselves, as they are listed.
use Rattle.std.specs.Prelude.{◌≡◌, ◌<◌, ℕ, zero, suc, Bool, cond, nat_lt, List, [], ◌∷◌, ◌++◌}
use Rattle.jc_types.specs.declared.form.Arg.{Arg}
use Rattle.jc_types.specs.declared.form.Ty.{Ty, Ty-F, out-Ty}
use Rattle.jc_types.specs.declared.table.Table.{Table}
use Rattle.jc_types.specs.Accessors.{bounds_of, variable_count}
use Rattle.jc_header_rules.specs.Types.{depends_on_itself}
use Rattle.jc_components.specs.Marks.{is_marked}

-- a list of a type variable's number where that is below n; else the empty list
abbrev pub variable_below : ℕ → Ty-F Arg Ty → List ℕ
variable_below n (Ty-F.Variable v) = cond (nat_lt v.0 n) (v.0 ∷ []) []
variable_below n _ = []

-- the numbers below n of the type variables among these types
abbrev pub variables_below : ℕ → List Ty → List ℕ
variables_below n [] = []
variables_below n (t ∷ ts) = variable_below n (out-Ty t) ++ variables_below n ts

-- of each of the first k type variables those that are bounds of it, as numbers below n
abbrev pub rows_below : Table → ℕ → ℕ → List (List ℕ)
rows_below T n zero = []
rows_below T n (suc k) = rows_below T n k ++ variables_below n (bounds_of T (record { 0 = k })) ∷ []

-- each type variable is marked where it depends on itself
abbrev pub AreDepending : Table → List Bool → Type 0
AreDepending T marks = (v : ℕ) → v < variable_count T → is_marked marks v ≡ depends_on_itself T (record { 0 = v })
