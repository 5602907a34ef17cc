-- Methods that have the same parameters in each class.
use Rattle.std.specs.Prelude.{Bool, true, false, ◌&&◌, List, [], ◌∷◌, is_some}
use Rattle.std.specs.Str.{bytes_eq}
use Rattle.jc_types.specs.declared.form.Ty.{Ty}
use Rattle.jc_types.specs.declared.ids.MethodId.{MethodId}
use Rattle.jc_types.specs.declared.ids.VarId.{VarId}
use Rattle.jc_types.specs.declared.table.Table.{Table}
use Rattle.jc_types.specs.Accessors.{method_name_of, method_owner_of, method_vars_of, params_of}
use Rattle.jc_types.specs.Sameness.{same}
use Rattle.jc_overriding.specs.declared.view.MethodView.{MethodView}
use Rattle.jc_overriding.specs.Signatures.{has_no_variables, same_all}
use Rattle.jc_overriding.specs.Viewing.{plain}

-- there are no type parameters
abbrev pub has_none : List VarId → Bool
has_none [] = true
has_none (v ∷ vs) = false

-- a type that is its own erasure (JLS 4.6) names no type variable
unfoldable pub is_own_erasure : Table → Ty → Bool
is_own_erasure T t = same (plain T t) t

-- each of these types is its own erasure
abbrev pub are_own_erasures : Table → List Ty → Bool
are_own_erasures T [] = true
are_own_erasures T (t ∷ ts) = is_own_erasure T t && are_own_erasures T ts

-- a method of a class, without type parameters, each of whose parameters' types is its own erasure
unfoldable pub is_fixed : Table → MethodId → Bool
is_fixed T m = is_some (method_owner_of T m) && has_none (method_vars_of T m) && are_own_erasures T (params_of T m)

-- a has the name and the parameters with which method n is declared, and no type parameters
abbrev pub is_declared_so : Table → MethodView → MethodId → Bool
is_declared_so T a n = bytes_eq (method_name_of T a.id) (method_name_of T n) && has_no_variables a && same_all a.params (params_of T n)

-- two methods are declared with the same name and parameters
abbrev pub are_declared_alike : Table → MethodId → MethodId → Bool
are_declared_alike T m n = bytes_eq (method_name_of T m) (method_name_of T n) && same_all (params_of T m) (params_of T n)
