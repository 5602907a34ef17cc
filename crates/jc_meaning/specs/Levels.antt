-- What it means that a value's kept type fits a type, and that one type is below another, level by level (JLS 4.5.1, 4.10).
use Rattle.std.specs.Prelude.{◌≡◌, ℕ, zero, suc, ◌==◌, ◌||◌, not, Bool, true, false, Some, List, [], ◌∷◌, length, map}
use Rattle.jc_types.specs.declared.form.Ty.{Ty, Ty-F, out-Ty}
use Rattle.jc_types.specs.declared.form.Ty.TheVariants.{Class}
use Rattle.jc_types.specs.declared.form.Arg.{Arg, Arg-F, out-Arg}
use Rattle.jc_types.specs.declared.form.Arg.TheVariants.{Exact}
use Rattle.jc_types.specs.declared.ids.ClassId.{ClassId}
use Rattle.jc_types.specs.declared.ids.VarId.{VarId}
use Rattle.jc_types.specs.declared.table.Table.{Table}
use Rattle.jc_types.specs.Accessors.{vars_of, bounds_of}
use Rattle.jc_types.specs.Arrays.{element}
use Rattle.jc_types.specs.Substitution.{subst}
use Rattle.jc_judge.specs.Kinds.{Layer, is_primitive, is_object, class_of, primitives_below}
use Rattle.jc_judge.specs.Views.{view}

-- between types
abbrev pub Relation : Type 1
Relation = Ty → Ty → Type 0

-- an argument of a type holds one of a view (JLS 4.5.1)
abbrev pub Holds_at : Relation → Arg-F Arg Ty → Ty → Type 0
Holds_at below (Arg-F.Exact t) a = a ≡ t
Holds_at below Arg-F.Any a = Unit {0}
Holds_at below (Arg-F.Extends u) a = below a u
Holds_at below (Arg-F.Super l) a = below l a

-- argument by argument, up to the end of the shorter list
abbrev pub AllHeld : Relation → List Arg → List Ty → Type 0
AllHeld below [] ks = Unit {0}
AllHeld below (a ∷ args) [] = Unit {0}
AllHeld below (a ∷ args) (k ∷ ks) = Holds_at below (out-Arg a) k × AllHeld below args ks

-- a raw type, or a class type with another number of arguments than its class has parameters (JLS 4.8)
abbrev pub is_raw_at : Table → Layer → Bool
is_raw_at T (Ty-F.Class id args) = not (length args == length (vars_of T id))
is_raw_at T (Ty-F.Raw id) = true
is_raw_at T _ = false

unfoldable pub is_raw : Table → Ty → Bool
is_raw T t = is_raw_at T (out-Ty t)

-- a kept type has a view as a class that isn't raw, with these arguments
abbrev pub Views : Table → Ty → ClassId → List Ty → Type 0
Views T k id ks = (view T id k ≡ Some (Class id (map Exact ks))) × (length ks ≡ length (vars_of T id))

-- A kept type fits a type, where `below` is what holds one level down: each type fits Object; a class type fits a raw type of a class
-- that it has a view as; it fits a class type whose arguments hold those of its view; arrays go by their elements; an intersection
-- asks all of its parts
mutual
  -- one type, by one of these
  pub data FitsOver (T : Table) (below : Relation) (k : Ty) : Ty → Type 0 where
    to_object : {t : Ty} → is_object t ≡ true → FitsOver T below k t
    to_raw : {t : Ty} {id : ClassId} {v : Ty} → class_of t ≡ Some id → is_raw T t ≡ true → view T id k ≡ Some v → FitsOver T below k t
    to_class : {t : Ty} {id : ClassId} {args : List Arg} (ks : List Ty) → out-Ty t ≡ Ty-F.Class id args → length args ≡ length (vars_of T id) → Views T k id ks → AllHeld below args ks → FitsOver T below k t
    to_primitives : {t a : Ty} → element k ≡ Some a → element t ≡ Some a → is_primitive a ≡ true → FitsOver T below k t
    to_array : {t a b : Ty} → element k ≡ Some a → element t ≡ Some b → is_primitive a ≡ false → is_primitive b ≡ false → below a b → FitsOver T below k t
    to_meet : {t : Ty} {parts : List Ty} → out-Ty t ≡ Ty-F.Meet parts → FitsAll T below k parts → FitsOver T below k t

  -- .. and each type of a list, which are the parts of an intersection
  pub data FitsAll (T : Table) (below : Relation) (k : Ty) : List Ty → Type 0 where
    none : FitsAll T below k []
    more : {t : Ty} {ts : List Ty} → FitsOver T below k t → FitsAll T below k ts → FitsAll T below k (t ∷ ts)

-- each argument is a reference and below its declared bounds, with the arguments for the parameters (JLS 4.5)
abbrev pub BelowAll : Relation → Ty → List Ty → Type 0
BelowAll below k [] = Unit {0}
BelowAll below k (b ∷ bs) = below k b × BelowAll below k bs

-- `vars` and `by` are all parameters and their arguments; the lists behind them are those still to be looked at
abbrev pub ArgsSound : Table → Relation → List VarId → List Ty → List VarId → List Ty → Type 0
ArgsSound T below vars by [] ks = Unit {0}
ArgsSound T below vars by (p ∷ ps) [] = Unit {0}
ArgsSound T below vars by (p ∷ ps) (k ∷ ks) = (is_primitive k ≡ false) × BelowAll below k (map (subst vars by) (bounds_of T p)) × ArgsSound T below vars by ps ks

-- a kept type is sound: a class type with exact arguments within their bounds, or an array type
pub data SoundOver (T : Table) (below : Relation) : Ty → Type 0 where
  sound_class : {k : Ty} {id : ClassId} (ks : List Ty) → k ≡ Class id (map Exact ks) → length ks ≡ length (vars_of T id) → ArgsSound T below (vars_of T id) ks (vars_of T id) ks → SoundOver T below k
  sound_array : {k a : Ty} → element k ≡ Some a → SoundOver T below k

-- primitive types are below primitive ones alone (JLS 4.10.1)
abbrev pub PrimitivesBelow : Relation
PrimitivesBelow s t = (is_primitive s || is_primitive t) ≡ true → primitives_below s t ≡ true

-- one type is below another where each sound kept type that fits the one fits the other, at each level up to n
unfoldable pub BelowAt : Table → ℕ → Ty → Ty → Type 0
BelowAt T zero s t = PrimitivesBelow s t
BelowAt T (suc n) s t = BelowAt T n s t × ((k : Ty) → SoundOver T (BelowAt T n) k → FitsOver T (BelowAt T n) k s → FitsOver T (BelowAt T n) k t)

-- a kept type fits a type, and is sound, at a level; at level 0 it fits each type that isn't primitive, and is sound
abbrev pub FitsAt : Table → ℕ → Ty → Ty → Type 0
FitsAt T zero k t = is_primitive t ≡ false
FitsAt T (suc n) k t = FitsOver T (BelowAt T n) k t

abbrev pub SoundAt : Table → ℕ → Ty → Type 0
SoundAt T zero k = Unit {0}
SoundAt T (suc n) k = SoundOver T (BelowAt T n) k
