-- Which classes are above a type, and what is asked of the classes of a table.
use Rattle.std.specs.Prelude.{◌≡◌, ◌⊎◌, ℕ, ◌<◌, Option, Some, None, List, [], ◌∷◌}
use Rattle.jc_types.specs.declared.form.Ty.{Ty, Ty-F, out-Ty}
use Rattle.jc_types.specs.declared.ids.ClassId.{ClassId}
use Rattle.jc_types.specs.declared.table.Table.{Table}
use Rattle.jc_types.specs.Accessors.{supers_of, class_count}
use Rattle.jc_judge.specs.Kinds.{Layer, class_of}
use Rattle.jc_judge.specs.Supers.{IsIn, HasNoCycle, IsAbove, numbered}

-- there is a class, and it is one of the table's
abbrev pub IsOfTable : Table → Option ClassId → Type 0
IsOfTable T None = ⊥
IsOfTable T (Some id) = id.0 < class_count T

-- no class is above itself, each supertype that is declared is a class of the table, Object, which stands first, has none, and it is
-- not the only class (JLS 8.1.4, 9.1.3)
pub record IsHierarchy (T : Table) : Type 0 where
  pub acyclic : HasNoCycle T
  pub classes : (a : ℕ) (t : Ty) → IsIn t (supers_of T (numbered a)) → IsOfTable T (class_of t)
  pub object : supers_of T (numbered 0) ≡ []
  pub several : 1 < class_count T

-- class k is that of the type or above it, where the type is no intersection. Above an array stands Object (JLS 4.10.3)
abbrev pub PartHas_at : Table → ClassId → Layer → Type 0
PartHas_at T k (Ty-F.Class id args) = IsAbove T id.0 k.0
PartHas_at T k (Ty-F.Raw id) = IsAbove T id.0 k.0
PartHas_at T k (Ty-F.Array t n) = IsAbove T 0 k.0
PartHas_at T k _ = ⊥

-- class k is that of one of these types or above it; one that is an intersection itself has no class here
abbrev pub OneHas : Table → ClassId → List Ty → Type 0
OneHas T k [] = ⊥
OneHas T k (t ∷ ts) = PartHas_at T k (out-Ty t) ⊎ OneHas T k ts

-- class k is that of the type or above it, or of one of the parts where the type is an intersection
abbrev pub HasSupertype_at : Table → ClassId → Layer → Type 0
HasSupertype_at T k (Ty-F.Meet parts) = OneHas T k parts
HasSupertype_at T k l = PartHas_at T k l

-- a supertype of class k: of an intersection, of one of its parts (JLS 4.10.2)
unfoldable pub HasSupertype : Table → ClassId → Ty → Type 0
HasSupertype T k t = HasSupertype_at T k (out-Ty t)

-- the type is no intersection
abbrev pub IsNoMeet_at : Layer → Type 0
IsNoMeet_at (Ty-F.Meet parts) = ⊥
IsNoMeet_at _ = Unit {0}

-- none of these types is an intersection
abbrev pub AreNoMeets : List Ty → Type 0
AreNoMeets [] = Unit {0}
AreNoMeets (t ∷ ts) = IsNoMeet_at (out-Ty t) × AreNoMeets ts

-- what is no intersection is flat
abbrev pub IsFlat_at : Layer → Type 0
IsFlat_at (Ty-F.Meet parts) = AreNoMeets parts
IsFlat_at _ = Unit {0}

-- no part of an intersection is one
unfoldable pub IsFlat : Ty → Type 0
IsFlat t = IsFlat_at (out-Ty t)

-- each of these types is flat
abbrev pub AreFlat : List Ty → Type 0
AreFlat [] = Unit {0}
AreFlat (t ∷ ts) = IsFlat t × AreFlat ts
