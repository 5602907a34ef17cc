-- The type parameters of a member are renamed apart from what is asked of it (JLS 15.12.2.7).
use Rattle.std.specs.Prelude.{Bool, true, false, not, ◌&&◌, ◌||◌, List, [], ◌∷◌, Option, Some, None}
use Rattle.jc_types.specs.declared.form.Ty.{Ty}
use Rattle.jc_types.specs.declared.ids.VarId.{VarId}
use Rattle.jc_overriding.specs.declared.view.MethodView.{MethodView}
use Rattle.jc_infer.specs.Naming.{names}
use Rattle.jc_resolve.specs.declared.site.CallSite.{CallSite}

-- one of these types names one of these type variables
abbrev pub names_one : List VarId → List Ty → Bool
names_one vars [] = false
names_one vars (t ∷ ts) = names vars t || names_one vars ts

-- a target does, if there is one
abbrev pub target_names_one : List VarId → Option Ty → Bool
target_names_one vars None = false
target_names_one vars (Some t) = names vars t

-- an explicit type argument of a call, an argument's type or the target does
abbrev pub site_names_one : List VarId → CallSite → Bool
site_names_one vars site = names_one vars site.explicit || names_one vars site.args || target_names_one vars site.target

-- the call's types name no type parameter of one of these members
abbrev pub is_apart_from : List MethodView → CallSite → Bool
is_apart_from [] site = true
is_apart_from (m ∷ ms) site = not (site_names_one m.vars site) && is_apart_from ms site

-- no explicit type argument, no argument's type and no target names a type parameter of a member
abbrev pub is_apart : CallSite → Bool
is_apart site = is_apart_from site.members site
