-- An index of the heads of declarations: the member types of classes, the types of units, and the type parameters of classes and methods.
use Rattle.std.specs.Prelude.{◌≡◌, ℕ, List, [], ◌∷◌, slice_get, Option, Some, None}
use Rattle.jc_types.specs.declared.declarations.Owner.{Owner}
use Rattle.jc_types.specs.declared.declarations.Owner.TheVariants as owner
use Rattle.jc_types.specs.Names.{named}
use Rattle.jc_declares.specs.declared.heads.ClassHead.{ClassHead}
use Rattle.jc_declares.specs.declared.heads.Heads.{Heads}
use Rattle.jc_declares.specs.declared.heads.UnitHead.{UnitHead}
use Rattle.jc_declares.specs.declared.heads.VariableHead.{VariableHead}
use Rattle.jc_declares.specs.Heads.{declared_of, types_of_unit, types_of_package, class_variables, method_variables}
use Rattle.jc_name_index.specs.Spaces.{Named, space_named, picked}
use Rattle.jc_name_index.specs.declared.index.Index.{Index}

-- ---- where each declaration is noted, and under which name

-- under a name in the space of the innermost class; nowhere for a type of a unit
abbrev pub inside_first : List ℕ → List ℕ → Option (ℕ × List ℕ)
inside_first [] name = None
inside_first (c ∷ round) name = Some (c, name)

-- a member type in its class
abbrev pub as_member : ClassHead → Option (ℕ × List ℕ)
as_member c = inside_first c.round c.name

-- under a name in the space of its unit, if no class is round it
abbrev pub outside_all : List ℕ → ℕ → List ℕ → Option (ℕ × List ℕ)
outside_all [] unit name = Some (unit, name)
outside_all (c ∷ round) unit name = None

-- a type of a unit in that
abbrev pub as_top : ClassHead → Option (ℕ × List ℕ)
as_top c = outside_all c.round c.unit c.name

-- a unit's package, in the one space of packages; its number is that of the first unit of it
abbrev pub as_package : UnitHead → Option (ℕ × List ℕ)
as_package u = Some (0, u.«package»)

-- the number of the first unit of a package; None where no unit is of it
abbrev pub package_number : Heads → List ℕ → Option ℕ
package_number H p = named p (picked as_package 0 0 H.units)

-- under a name in the space of a package, which has the number of its first unit; nowhere where there is none
abbrev pub in_numbered : Option ℕ → List ℕ → Option (ℕ × List ℕ)
in_numbered None name = None
in_numbered (Some k) name = Some (k, name)

abbrev pub in_unit_package : Heads → Option UnitHead → List ℕ → Option (ℕ × List ℕ)
in_unit_package H None name = None
in_unit_package H (Some u) name = in_numbered (package_number H u.«package») name

abbrev pub outside_in_package : Heads → List ℕ → ℕ → List ℕ → Option (ℕ × List ℕ)
outside_in_package H [] unit name = in_unit_package H (slice_get H.units unit) name
outside_in_package H (c ∷ round) unit name = None

-- a type of a package in that
abbrev pub as_packaged : Heads → ClassHead → Option (ℕ × List ℕ)
as_packaged H c = outside_in_package H c.round c.unit c.name

-- a type of the package of a number
abbrev pub numbered_named : List Named → Option ℕ → List ℕ → Option ℕ
numbered_named spaces None n = None
numbered_named spaces (Some k) n = space_named spaces k n

-- under a name in the space of the class, or of the method, that owns it
abbrev pub of_class : Owner → List ℕ → Option (ℕ × List ℕ)
of_class (owner.Class c) name = Some (c.0, name)
of_class (owner.Method m) name = None

abbrev pub of_method : Owner → List ℕ → Option (ℕ × List ℕ)
of_method (owner.Class c) name = None
of_method (owner.Method m) name = Some (m.0, name)

-- a type parameter in its class, or in its method
abbrev pub as_class_variable : VariableHead → Option (ℕ × List ℕ)
as_class_variable v = of_class v.owner v.name

abbrev pub as_method_variable : VariableHead → Option (ℕ × List ℕ)
as_method_variable v = of_method v.owner v.name

-- ---- what an index promises: in each space the first of each name
pub record IsIndex (H : Heads) (I : Index) : Type 0 where
  pub members : (c : ℕ) (n : List ℕ) → space_named I.members c n ≡ named n (declared_of H c)
  pub tops : (u : ℕ) (n : List ℕ) → space_named I.tops u n ≡ named n (types_of_unit H u)
  pub packages : (p n : List ℕ) → numbered_named I.package_types (space_named I.packages 0 p) n ≡ named n (types_of_package H p)
  pub class_variables : (c : ℕ) (n : List ℕ) → space_named I.class_variables c n ≡ named n (class_variables H c)
  pub method_variables : (m : ℕ) (n : List ℕ) → space_named I.method_variables m n ≡ named n (method_variables H m)
