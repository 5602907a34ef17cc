-- The parameters of a method that are checked where a call of a method that it overrides leads to it (JLS 15.12.4.5).
use Rattle.std.specs.Prelude.{ℕ, ◌+◌, Bool, false, not, ◌&&◌, ◌||◌, cond, List, [], ◌∷◌, Option, Some, None, slice_get}
use Rattle.jc_types.specs.declared.declarations.MethodDecl.{MethodDecl}
use Rattle.jc_types.specs.declared.form.Ty.{Ty}
use Rattle.jc_types.specs.declared.ids.MethodId.{MethodId}
use Rattle.jc_types.specs.declared.table.Table.{Table}
use Rattle.jc_types.specs.Accessors.{params_of}
use Rattle.jc_overriding.specs.Overriding.{overrides}
use Rattle.jc_bridges_spec.specs.Descriptors.{same_erasure}

-- a type beside a parameter of another erasure, if there is one
abbrev pub differs_from : Table → Ty → Option Ty → Bool
differs_from T t None = false
differs_from T t (Some u) = not (same_erasure T t u)

-- m overrides one of these methods, counted from j, in which parameter i has another erasure than t
abbrev pub some_differs : Table → MethodId → ℕ → Ty → ℕ → List MethodDecl → Bool
some_differs T m i t j [] = false
some_differs T m i t j (d ∷ ds) =
    (overrides T m (record { 0 = j }) && differs_from T t (slice_get (params_of T (record { 0 = j })) i)) || some_differs T m i t (j + 1) ds

-- of these parameters of method m, counted from i, those that are checked
abbrev pub checks_from : Table → MethodId → ℕ → List Ty → ℕ
checks_from T m i [] = 0
checks_from T m i (t ∷ ts) = cond (some_differs T m i t 0 T.methods) 1 0 + checks_from T m (i + 1) ts

-- How many parameters of method m have another erasure than the same parameter of some method that m overrides. Overriding is asked in m's own class, of all that
-- is above it, so what m overrides by way of another method counts too (JLS 8.4.8.1)
unfoldable pub entry_checks : Table → MethodId → ℕ
entry_checks T m = checks_from T m 0 (params_of T m)
