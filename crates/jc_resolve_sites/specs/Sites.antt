-- A call with its members' type parameters renamed apart from all that it is asked with (JLS 15.12.2.7).
use Rattle.std.specs.Prelude.{ℕ, max, Bool, true, false, List, [], ◌∷◌, length, map, Option, Some, None}
use Rattle.jc_types.specs.declared.form.Ty.{Ty}
use Rattle.jc_types.specs.declared.ids.VarId.{VarId}
use Rattle.jc_types.specs.declared.table.Table.{Table}
use Rattle.jc_types.specs.Accessors.{method_owner_of}
use Rattle.jc_overriding.specs.declared.view.MethodView.{MethodView}
use Rattle.jc_overriding.specs.Viewing.{Seeing, With, Raised, declared_view, is_static, seeing_of, view_of_owner}
use Rattle.jc_resolve.specs.declared.site.CallSite.{CallSite}
use Rattle.jc_resolve_sites.specs.Above.{above_all, above_target}
use Rattle.jc_resolve_sites.specs.Renaming.{renamed, seen}

-- ---- a member

-- a member by how its class's parameters are seen
abbrev pub apart_by : Table → ℕ → MethodView → Seeing → MethodView
apart_by T n m (With vars by) = seen n vars by (declared_view T m.id)
apart_by T n m Raised = renamed n m

-- .. by the view of a type as the member's class; a type without one has no members
abbrev pub apart_in : Table → ℕ → MethodView → Option Ty → MethodView
apart_in T n m None = renamed n m
apart_in T n m (Some v) = apart_by T n m (seeing_of T v)

-- static members are as they are declared
abbrev pub apart_if : Table → ℕ → Ty → MethodView → Bool → MethodView
apart_if T n t m true = renamed n (declared_view T m.id)
apart_if T n t m false = apart_in T n m (view_of_owner T t (method_owner_of T m.id))

-- a member without type parameters stays as it is
abbrev pub apart_as : Table → ℕ → Ty → MethodView → List VarId → MethodView
apart_as T n t m [] = m
apart_as T n t m (v ∷ vars) = apart_if T n t m (is_static T m.id)

-- a member of a captured type with its type parameters renamed to numbers from n on that the type's arguments don't name
abbrev pub apart : Table → ℕ → Ty → MethodView → MethodView
apart T n t m = apart_as T n t m m.vars

-- ---- a call

-- the first number that stands for no variable of the table, and above all those that the call is asked with
abbrev pub first_free : Table → CallSite → ℕ
first_free T site = max (length T.variables) (max (above_all site.explicit) (max (above_all site.args) (above_target site.target)))

-- the call with other members
abbrev pub with_members : CallSite → List MethodView → CallSite
with_members site ms = record { members = ms; explicit = site.explicit; args = site.args; target = site.target }

-- a call of members of a type, as it has them, with their type parameters renamed apart
abbrev pub apart_site : Table → Ty → CallSite → CallSite
apart_site T t site = with_members site (map (apart T (first_free T site) t) site.members)

-- a call of members that speak of no type's arguments, with their type parameters renamed apart
abbrev pub renamed_site : Table → CallSite → CallSite
renamed_site T site = with_members site (map (renamed (first_free T site)) site.members)
