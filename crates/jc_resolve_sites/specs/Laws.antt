-- What the numbers of renamed type parameters are above.
use Rattle.std.specs.Prelude.{◌≡◌, ◌≤◌, ℕ, false, List, [], ◌∷◌}
use Rattle.jc_types.specs.declared.form.Ty.{Ty}
use Rattle.jc_types.specs.declared.ids.VarId.{VarId}
use Rattle.jc_overriding.specs.declared.view.MethodView.{MethodView}
use Rattle.jc_infer.specs.Naming.{names}
use Rattle.jc_resolve.specs.Apart.{names_one}
use Rattle.jc_resolve_sites.specs.Above.{above}
use Rattle.jc_resolve_sites.specs.Renaming.{seen}

-- the numbers of these type variables are n or greater
abbrev pub AllFrom : ℕ → List VarId → Type 0
AllFrom n [] = Unit {0}
AllFrom n (v ∷ vars) = (n ≤ v.0) × AllFrom n vars

-- a type names none of the type variables from the number above its own on
abbrev pub NamesAreBelow : Type 0
NamesAreBelow = (n : ℕ) (vars : List VarId) → AllFrom n vars → (t : Ty) → above t ≤ n → names vars t ≡ false

-- the arguments of a type don't name a type parameter of a member that is seen by them (JLS 15.12.2.7)
abbrev pub ArgumentsAreApart : Type 0
ArgumentsAreApart = (n : ℕ) (vars : List VarId) (by : List Ty) (declared : MethodView) → names_one (seen n vars by declared).vars by ≡ false
