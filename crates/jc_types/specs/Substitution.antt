-- Types for variables in a type.
use Rattle.std.specs.Prelude.{ℕ, ◌+◌, Bool, true, List, [], ◌∷◌, if◌then◌else◌, ◌==◌, ◌&&◌}
use Rattle.jc_types.specs.declared.form.Ty.{Ty, Ty-F, roll-Ty, fold-Ty}
use Rattle.jc_types.specs.declared.form.Ty.TheVariants.{Variable}
use Rattle.jc_types.specs.declared.form.Arg.{Arg, roll-Arg, fold-Arg}
use Rattle.jc_types.specs.declared.ids.VarId.{VarId}
use Rattle.jc_types.specs.Arrays.{array_over}

-- what stands for a variable: the type at its place, or itself
abbrev pub replacement : List VarId → List Ty → VarId → Ty
replacement [] by v = Variable v
replacement (w ∷ vars) [] v = Variable v
replacement (w ∷ vars) (t ∷ by) v = if w.0 == v.0 then t else replacement vars by v

-- a layer whose parts are done
abbrev pub subst_step : List VarId → List Ty → Ty-F Arg Ty → Ty
subst_step vars by (Ty-F.Variable v) = replacement vars by v
subst_step vars by (Ty-F.Array t n) = array_over n t
subst_step vars by layer = roll-Ty layer

-- the types `by` for the variables `vars`, all at once, everywhere in a type or an argument: what is put in stays as it is
unfoldable pub subst : List VarId → List Ty → Ty → Ty
subst vars by t = fold-Ty Arg Ty roll-Arg (subst_step vars by) t

unfoldable pub subst_arg : List VarId → List Ty → Arg → Arg
subst_arg vars by a = fold-Arg Arg Ty roll-Arg (subst_step vars by) a

-- each of these variables has the number after that of the one before it, and the first has number n
abbrev pub is_row_from : ℕ → List VarId → Bool
is_row_from n [] = true
is_row_from n (v ∷ vars) = (v.0 == n) && is_row_from (n + 1) vars

-- each of these variables has the number after that of the one before it
unfoldable pub is_row : List VarId → Bool
is_row [] = true
is_row (v ∷ vars) = is_row_from (v.0 + 1) vars
