-- What classes keep whose headers break no rule (JLS 4.5, 8.1.2, 8.1.4, 8.1.5, 9.1.3).
use Rattle.std.specs.Prelude.{◌≡◌, ◌≢◌, ◌⊎◌, ℕ, Some, List, [], ◌∷◌, length, map}
use Rattle.jc_types.specs.declared.form.Arg.{Arg, Arg-F, out-Arg}
use Rattle.jc_types.specs.declared.form.Arg.TheVariants.{Exact}
use Rattle.jc_types.specs.declared.form.Primitive.{Primitive}
use Rattle.jc_types.specs.declared.form.Ty.{Ty, Ty-F, out-Ty}
use Rattle.jc_types.specs.declared.form.Ty.TheVariants.{Class, Raw}
use Rattle.jc_types.specs.declared.ids.ClassId.{ClassId}
use Rattle.jc_types.specs.declared.ids.VarId.{VarId}
use Rattle.jc_types.specs.declared.table.Table.{Table}
use Rattle.jc_types.specs.Accessors.{supers_of, vars_of}
use Rattle.jc_judge.specs.Kinds.{class_of}
use Rattle.jc_judge.specs.Supers.{IsIn}
use Rattle.jc_judge_laws.specs.Hierarchy.{IsHierarchy}
use Rattle.jc_header_rules.specs.Inheriting.{all_above}

-- x is one of these
abbrev pub IsAmong : {X : Type 0} → X → List X → Type 0
IsAmong x [] = ⊥
IsAmong x (y ∷ ys) = (x ≡ y) ⊎ IsAmong x ys

mutual
  -- only type variables of V occur in a type, and no captured one
  pub data IsOver (V : VarId → Type 0) : Ty → Type 0 where
    over_primitive : {t : Ty} {p : Primitive} → out-Ty t ≡ Ty-F.Prim p → IsOver V t
    over_class : {t : Ty} {id : ClassId} {args : List Arg} → out-Ty t ≡ Ty-F.Class id args → AreArgsOver V args → IsOver V t
    over_raw : {t : Ty} {id : ClassId} → out-Ty t ≡ Ty-F.Raw id → IsOver V t
    over_array : {t u : Ty} {n : ℕ} → out-Ty t ≡ Ty-F.Array u n → IsOver V u → IsOver V t
    over_variable : {t : Ty} {v : VarId} → out-Ty t ≡ Ty-F.Variable v → V v → IsOver V t
    over_meet : {t : Ty} {parts : List Ty} → out-Ty t ≡ Ty-F.Meet parts → AreOver V parts → IsOver V t
    over_null : {t : Ty} → out-Ty t ≡ Ty-F.NullTy → IsOver V t

  -- the same of each of these types
  pub data AreOver (V : VarId → Type 0) : List Ty → Type 0 where
    none : AreOver V []
    more : {t : Ty} {ts : List Ty} → IsOver V t → AreOver V ts → AreOver V (t ∷ ts)

  -- the same of the types in these arguments
  pub data AreArgsOver (V : VarId → Type 0) : List Arg → Type 0 where
    no_args : AreArgsOver V []
    exact : {a : Arg} {t : Ty} {args : List Arg} → out-Arg a ≡ Arg-F.Exact t → IsOver V t → AreArgsOver V args → AreArgsOver V (a ∷ args)
    any : {a : Arg} {args : List Arg} → out-Arg a ≡ Arg-F.Any → AreArgsOver V args → AreArgsOver V (a ∷ args)
    extends : {a : Arg} {t : Ty} {args : List Arg} → out-Arg a ≡ Arg-F.Extends t → IsOver V t → AreArgsOver V args → AreArgsOver V (a ∷ args)
    super : {a : Arg} {t : Ty} {args : List Arg} → out-Arg a ≡ Arg-F.Super t → IsOver V t → AreArgsOver V args → AreArgsOver V (a ∷ args)

-- no two of them are one
abbrev pub AreDistinct : List VarId → Type 0
AreDistinct [] = Unit {0}
AreDistinct (v ∷ vs) = (IsAmong v vs → ⊥) × AreDistinct vs

-- a class type with an exact argument for each parameter of its class, or a raw type of a class with parameters (JLS 4.5, 4.8, 8.1.4)
pub data IsSupertype (T : Table) (t : Ty) : Type 0 where
  with_arguments : {id : ClassId} (types : List Ty) → t ≡ Class id (map Exact types) → length types ≡ length (vars_of T id) → IsSupertype T t
  without : {id : ClassId} → t ≡ Raw id → vars_of T id ≢ [] → IsSupertype T t

-- A table of checked classes: they form a hierarchy; the parameters of each are distinct, and its declared supertypes speak of these alone
-- and have no wildcard of their own; and its supertypes of one class are one type
pub record HasHeaders (T : Table) : Type 0 where
  pub hierarchy : IsHierarchy T
  pub parameters : (id : ClassId) → AreDistinct (vars_of T id)
  pub scoped : (id : ClassId) (s : Ty) → IsIn s (supers_of T id) → IsOver (λ v. IsAmong v (vars_of T id)) s
  pub supertypes : (id : ClassId) (s : Ty) → IsIn s (supers_of T id) → IsSupertype T s
  pub one : (id k : ClassId) (s t : Ty) → IsAmong s (all_above T id) → IsAmong t (all_above T id) → class_of s ≡ Some k → class_of t ≡ Some k → s ≡ t
