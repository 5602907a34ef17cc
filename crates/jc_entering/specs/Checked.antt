-- The parameters that are checked, by the methods that a method overrides.
use Rattle.std.specs.Prelude.{ℕ, ◌+◌, ◌||◌, Bool, false, cond, List, [], ◌∷◌, ◌++◌, slice_get}
use Rattle.jc_types.specs.declared.form.Ty.{Ty}
use Rattle.jc_types.specs.declared.ids.MethodId.{MethodId}
use Rattle.jc_types.specs.declared.table.Table.{Table}
use Rattle.jc_types.specs.Accessors.{params_of}
use Rattle.jc_overriding.specs.Overriding.{overrides}
use Rattle.jc_bridges_spec.specs.Entering.{differs_from}

-- of these methods those that method m overrides
abbrev pub if_overridden : Table → MethodId → MethodId → List MethodId
if_overridden T m n = cond (overrides T m n) (n ∷ []) []

abbrev pub overridden : Table → MethodId → List MethodId → List MethodId
overridden T m [] = []
overridden T m (n ∷ ns) = if_overridden T m n ++ overridden T m ns

-- parameter i has another erasure than t in one of these methods
abbrev pub other_differs : Table → ℕ → Ty → List MethodId → Bool
other_differs T i t [] = false
other_differs T i t (n ∷ ns) = differs_from T t (slice_get (params_of T n) i) || other_differs T i t ns

-- of these parameters, counted from i, those that have
abbrev pub checked : Table → ℕ → List Ty → List MethodId → ℕ
checked T i [] ns = 0
checked T i (t ∷ ts) ns = cond (other_differs T i t ns) 1 0 + checked T (i + 1) ts ns
