-- The arguments that a class type counts as having, and reifiable types.
use Rattle.std.specs.Prelude.{◌==◌, ◌&&◌, Bool, true, false, List, [], ◌∷◌, length, Option, Some, None, if◌then◌else◌}
use Rattle.jc_types.specs.declared.form.Ty.{Ty, Ty-F, out-Ty, fold-Ty}
use Rattle.jc_types.specs.declared.form.Arg.{Arg, Arg-F, out-Arg}
use Rattle.jc_types.specs.declared.ids.VarId.{VarId}
use Rattle.jc_types.specs.declared.table.Table.{Table}
use Rattle.jc_types.specs.Accessors.{vars_of}

-- of a class with these parameters, that has these arguments: None where that is raw
abbrev pub counted : {A : Type 0} → List VarId → List A → Option (List A)
counted [] args = Some []
counted (v ∷ vars) args = if length args == length (v ∷ vars) then Some args else None

-- None also for what is no class or raw type
abbrev pub arguments_at : Table → Ty-F Arg Ty → Option (List Arg)
arguments_at T (Ty-F.Class id args) = counted (vars_of T id) args
arguments_at T (Ty-F.Raw id) = counted (vars_of T id) []
arguments_at T _ = None

-- the arguments of a class or raw type, and None where it is raw (JLS 4.5, 4.8). A class without parameters has none, and a
-- type whose number of arguments is not that of its class's parameters counts as raw
unfoldable pub arguments : Table → Ty → Option (List Arg)
arguments T t = arguments_at T (out-Ty t)

-- only `?` is unbounded
abbrev pub is_any : {A T : Type 0} → Arg-F A T → Bool
is_any Arg-F.Any = true
is_any _ = false

-- the argument is an unbounded wildcard (JLS 4.5.1)
unfoldable pub is_unbounded : Arg → Bool
is_unbounded a = is_any (out-Arg a)

-- each of these holds, as it does where there is none
abbrev pub all_true : List Bool → Bool
all_true [] = true
all_true (b ∷ bs) = b && all_true bs

-- the arguments of a class type allow it: it is raw, or each of them is `?`
abbrev pub raw_or_all : Option (List Bool) → Bool
raw_or_all None = true
raw_or_all (Some bs) = all_true bs

-- a layer, where it is known of each argument whether it is `?`, and of an array whether what it is over is reifiable
abbrev pub reifiable_step : Table → Ty-F Bool Bool → Bool
reifiable_step T (Ty-F.Prim p) = true
reifiable_step T (Ty-F.Class id args) = raw_or_all (counted (vars_of T id) args)
reifiable_step T (Ty-F.Raw id) = true
reifiable_step T (Ty-F.Array t n) = t
reifiable_step T _ = false

-- primitive types, classes without parameters, raw types, class types whose arguments are all `?`, and arrays of these
-- (JLS 4.7)
unfoldable pub reifiable : Table → Ty → Bool
reifiable T t = fold-Ty Bool Bool is_any (reifiable_step T) t
