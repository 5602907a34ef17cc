-- Whether a type names one of some type variables.
use Rattle.std.specs.Prelude.{◌||◌, Bool, false, List, [], ◌∷◌}
use Rattle.jc_types.specs.declared.form.Ty.{Ty, Ty-F, fold-Ty}
use Rattle.jc_types.specs.declared.form.Arg.{Arg, Arg-F, fold-Arg}
use Rattle.jc_types.specs.declared.ids.VarId.{VarId}
use Rattle.jc_constraints.specs.Constraints.{is_unknown}

-- one of these holds
abbrev pub any_true : List Bool → Bool
any_true [] = false
any_true (b ∷ bs) = b || any_true bs

-- whether an argument, or a type, names one, where that is known of its parts
abbrev pub arg_names : Arg-F Bool Bool → Bool
arg_names (Arg-F.Exact b) = b
arg_names Arg-F.Any = false
arg_names (Arg-F.Extends b) = b
arg_names (Arg-F.Super b) = b

abbrev pub type_names : List VarId → Ty-F Bool Bool → Bool
type_names vars (Ty-F.Variable v) = is_unknown vars v
type_names vars (Ty-F.Class id args) = any_true args
type_names vars (Ty-F.Array b n) = b
type_names vars (Ty-F.Meet parts) = any_true parts
type_names vars _ = false

-- a type, or an argument, names one of these type variables at any depth; bounds of captured variables aren't looked into
unfoldable pub names : List VarId → Ty → Bool
names vars t = fold-Ty Bool Bool arg_names (type_names vars) t

unfoldable pub names_in_arg : List VarId → Arg → Bool
names_in_arg vars a = fold-Arg Bool Bool arg_names (type_names vars) a
