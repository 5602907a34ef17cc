-- Ways from a class up to another one, and the supertypes along them.
use Rattle.std.specs.Prelude.{◌≡◌, ◌≢◌, ℕ, ◌==◌, Option, Some, None, List, [], ◌∷◌, length, take, slice_get, if◌then◌else◌}
use Rattle.jc_types.specs.declared.form.Ty.{Ty, Ty-F, out-Ty}
use Rattle.jc_types.specs.declared.form.Ty.TheVariants.{Class, Variable}
use Rattle.jc_types.specs.declared.form.Arg.{Arg}
use Rattle.jc_types.specs.declared.form.Arg.TheVariants.{Exact}
use Rattle.jc_types.specs.declared.ids.ClassId.{ClassId}
use Rattle.jc_types.specs.declared.ids.VarId.{VarId}
use Rattle.jc_types.specs.declared.table.Table.{Table}
use Rattle.jc_types.specs.Substitution.{subst}
use Rattle.jc_types.specs.Accessors.{vars_of, supers_of}
use Rattle.jc_judge.specs.Kinds.{class_of}
use Rattle.jc_judge.specs.Supers.{numbered}
use Rattle.jc_judge.specs.Views.{view_within, supers, exacts, erased}
use Rattle.jc_sub.specs.declared.reaching.Turn.{Turn}
use Rattle.jc_sub.specs.declared.reaching.Way.{Way}
use Rattle.jc_sub.specs.declared.reaching.Way.TheVariants.{Missing, Found, Unknown}
use Rattle.jc_sub.specs.declared.reaching.Sight.{Sight}
use Rattle.jc_sub.specs.declared.reaching.Sight.TheVariants as sight

-- a type has no view as class k, in however many steps
abbrev pub HasNoView : Table → ClassId → Ty → Type 0
HasNoView T k t = (n : ℕ) → view_within T n k t ≡ None

-- no type of class x has one
abbrev pub IsDead : Table → ClassId → ℕ → Type 0
IsDead T k x = (t : Ty) → class_of t ≡ Some (numbered x) → HasNoView T k t

-- the same of the class that a type has; of a type without a class it isn't said
abbrev pub ClassDead : Table → ClassId → Option ClassId → Type 0
ClassDead T k None = ⊥
ClassDead T k (Some id) = IsDead T k id.0

-- no type of the class of any of these has one
abbrev pub AllDead : Table → ClassId → List Ty → Type 0
AllDead T k [] = Unit {0}
AllDead T k (t ∷ ts) = ClassDead T k (class_of t) × AllDead T k ts

-- supertype i of class x is of class y
pub record IsUp (T : Table) (x i y : ℕ) : Type 0 where
  pub up : Ty
  pub is : slice_get (supers_of T (numbered x)) i ≡ Some up
  pub class : class_of up ≡ Some (numbered y)

-- it is the first one that may have a view as class k, which class x is not
pub record Leads (T : Table) (k : ClassId) (x i y : ℕ) : Type 0 where
  pub other : x ≢ k.0
  pub dead : AllDead T k (take i (supers_of T (numbered x)))
  pub goes : IsUp T x i y

-- turns that lead from class x to class y
abbrev pub IsWay : Table → ClassId → ℕ → List Turn → ℕ → Type 0
IsWay T k x [] y = x ≡ y
IsWay T k x (f ∷ fs) y = (f.from.0 ≡ x) × (z : ℕ) × Leads T k x f.next z × IsWay T k z fs y

-- what a way from class x to class k says: none is there, these turns lead there, or nothing is said
abbrev pub WayIs : Table → ClassId → ℕ → Way → Type 0
WayIs T k x Missing = IsDead T k x
WayIs T k x (Found turns) = IsWay T k x turns k.0
WayIs T k x Unknown = Unit {0}

-- what is seen at supertype i of class x, where `marked` tells which classes were left without success
abbrev pub SightIs : Table → ClassId → (ℕ → Type 0) → ℕ → ℕ → Sight → Type 0
SightIs T k Marked x i sight.Goal = IsUp T x i k.0
SightIs T k Marked x i sight.Left = (y : ℕ) × IsUp T x i y × Marked y
SightIs T k Marked x i (sight.Open up) = IsUp T x i up.0 × (up.0 ≢ k.0)
SightIs T k Marked x i sight.End = slice_get (supers_of T (numbered x)) i ≡ None
SightIs T k Marked x i sight.Odd = Unit {0}

-- a declared supertype as one of a type of the class, with the arguments that the type counts as having
abbrev pub super_with : Table → ClassId → Option (List Arg) → Ty → Ty
super_with T id None t = erased t
super_with T id (Some args) t = if length (exacts args) == length (vars_of T id) then subst (vars_of T id) (exacts args) t else erased t

-- f of the type, if there is one
abbrev pub and_then : Option Ty → (Ty → Option Ty) → Option Ty
and_then None f = None
and_then (Some t) f = f t

-- the type to which turns lead
abbrev pub follow : Table → List Turn → Ty → Option Ty
follow T [] t = Some t
follow T (f ∷ fs) t = and_then (slice_get (supers T t) f.next) (follow T fs)

-- a parameter as an argument
abbrev pub own_arg : VarId → Arg
own_arg v = Exact (Variable v)

-- a class type with class k in place of its own, and its arguments kept; any other type stays as it is
abbrev pub renamed_at : ClassId → Ty → Ty-F Arg Ty → Ty
renamed_at k t (Ty-F.Class id args) = Class k args
renamed_at k t _ = t

-- a class type with another class
unfoldable pub renamed : ClassId → Ty → Ty
renamed k t = renamed_at k t (out-Ty t)
