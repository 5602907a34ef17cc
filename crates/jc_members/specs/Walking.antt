-- One walk upwards from a class.
use Rattle.std.specs.Prelude.{◌≡◌, ℕ, Bool, true, Option, None, List, [], ◌∷◌, slice_get}
use Rattle.jc_types.specs.declared.form.Ty.{Ty}
use Rattle.jc_types.specs.declared.ids.ClassId.{ClassId}
use Rattle.jc_types.specs.declared.table.Table.{Table}
use Rattle.jc_types.specs.Accessors.{supers_of}
use Rattle.jc_judge.specs.Supers.{numbered}
use Rattle.jc_sub.specs.Reaching.{IsUp, Leads}
use Rattle.jc_members.specs.declared.walking.Turn.{Turn}
use Rattle.jc_members.specs.declared.walking.Sight.{Sight}
use Rattle.jc_members.specs.declared.walking.Sight.TheVariants as sight

-- turns that lead from class x to class y, each by the first supertype that may have a view as class k
abbrev pub IsWay : Table → ClassId → ℕ → List Turn → ℕ → Type 0
IsWay T k x [] y = x ≡ y
IsWay T k x (f ∷ fs) y = (f.from.0 ≡ x) × (z : ℕ) × Leads T k x f.next z × IsWay T k z fs y

-- what is seen at supertype i of class x, by the views of the classes that were come to, and the classes that were left
abbrev pub SightIs : Table → (ℕ → Option Ty) → (ℕ → Bool) → ℕ → ℕ → Sight → Type 0
SightIs T views left x i sight.Left = (y : ℕ) × IsUp T x i y × (left y ≡ true)
SightIs T views left x i (sight.Open up) = IsUp T x i up.0 × (views up.0 ≡ None)
SightIs T views left x i sight.End = slice_get (supers_of T (numbered x)) i ≡ None
SightIs T views left x i sight.Odd = Unit {0}
