-- What is inserted into a list of warnings is in it, beside what was there; and an ascending list ascends still.
use Rattle.std.proofs.Common.{◌≡◌, ◌⊎◌, inl, inr, Bool, true, false, List, [], ◌∷◌, ◌++◌, refl, sym, ◌∙◌}
use Rattle.std.specs.Prelude.{if◌then◌else◌}
use Rattle.jc_rules.specs.declared.rule.Place.{Place}
use Rattle.jc_typed.specs.declared.program.TypedProgram.{TypedProgram}
use Rattle.jc_unchecked_spec.specs.declared.warning.Warning.{Warning}
use Rattle.jc_unchecked_spec.specs.declared.warning.WarningKind.{WarningKind}
use Rattle.jc_unchecked_spec.specs.Kinds.{warned_if}
use Rattle.jc_unchecked_spec.specs.Warnings.{all_warned, comes_before, in_order, inserted, warnings}
use Rattle.jc_unchecked_laws.specs.Told.{Ascends, AscendsFrom, IsTold, IsToldAnywhere, PartsAreTold, warning}
use Rattle.jc_unchecked_laws.proofs.Same.{same_warning}

-- where a warning goes that isn't there yet, by whether it comes before the first one, or that before it
abbrev put : Warning → Warning → List Warning → List Warning → Bool → Bool → List Warning
put w v vs further b c = if b then w ∷ v ∷ vs else if c then v ∷ further else v ∷ vs

-- ---- what is told

told_of : (x w : Warning) (vs : List Warning) → IsTold x (inserted w vs) → IsTold x (w ∷ vs)
told_of x w [] t = t
told_of x w (v ∷ vs) t = by (comes_before w v) (comes_before v w) (told_of x w vs) t
  where
    later : IsTold x (w ∷ vs) → IsTold x (w ∷ v ∷ vs)
    later (inl e) = inl e
    later (inr t) = inr (inr t)

    by : (b c : Bool) → (IsTold x (inserted w vs) → IsTold x (w ∷ vs)) → IsTold x (put w v vs (inserted w vs) b c) → IsTold x (w ∷ v ∷ vs)
    by true c further t = t
    by false true further (inl e) = inr (inl e)
    by false true further (inr t) = later (further t)
    by false false further t = inr t

is_inserted : (x w : Warning) (vs : List Warning) → IsTold x (w ∷ vs) → IsTold x (inserted w vs)
is_inserted x w [] t = t
is_inserted x w (v ∷ vs) t = by (comes_before w v) (comes_before v w) refl refl (is_inserted x w vs) t
  where
    by : (b c : Bool) → comes_before w v ≡ b → comes_before v w ≡ c → (IsTold x (w ∷ vs) → IsTold x (inserted w vs)) → IsTold x (w ∷ v ∷ vs)
        → IsTold x (put w v vs (inserted w vs) b c)
    by true c e f further t = t
    by false true e f further (inl h) = inr (further (inl h))
    by false true e f further (inr (inl h)) = inl h
    by false true e f further (inr (inr h)) = inr (further (inr h))
    by false false e f further (inl h) = inl (sym (same_warning w v e f) ∙ h)
    by false false e f further (inr h) = h

pub ordered_told : (x : Warning) (ws : List Warning) → IsTold x (in_order ws) → IsTold x ws
ordered_told x [] t = t
ordered_told x (w ∷ ws) t = by (ordered_told x ws) (told_of x w (in_order ws) t)
  where
    by : (IsTold x (in_order ws) → IsTold x ws) → IsTold x (w ∷ in_order ws) → IsTold x (w ∷ ws)
    by further (inl e) = inl e
    by further (inr t) = inr (further t)

pub told_ordered : (x : Warning) (ws : List Warning) → IsTold x ws → IsTold x (in_order ws)
told_ordered x [] t = t
told_ordered x (w ∷ ws) t = is_inserted x w (in_order ws) (by (told_ordered x ws) t)
  where
    by : (IsTold x ws → IsTold x (in_order ws)) → IsTold x (w ∷ ws) → IsTold x (w ∷ in_order ws)
    by further (inl e) = inl e
    by further (inr t) = inr (further t)

pub listed_told : (P : TypedProgram) (w : Warning) → IsTold w (warnings P) → IsToldAnywhere P w
unfolding warnings
listed_told P w t = ordered_told w (all_warned P) t

pub told_listed : (P : TypedProgram) (w : Warning) → IsToldAnywhere P w → IsTold w (warnings P)
unfolding warnings
told_listed P w t = told_ordered w (all_warned P) t

-- ---- the order

from_inserted : (u w : Warning) (vs : List Warning) → comes_before u w ≡ true → AscendsFrom u vs → AscendsFrom u (inserted w vs)
from_inserted u w [] e a = (e, tt)
from_inserted u w (v ∷ vs) e a = by (comes_before w v) (comes_before v w) refl refl (from_inserted v w vs)
  where
    by : (b c : Bool) → comes_before w v ≡ b → comes_before v w ≡ c → (comes_before v w ≡ true → AscendsFrom v vs → AscendsFrom v (inserted w vs))
        → AscendsFrom u (put w v vs (inserted w vs) b c)
    by true c f g further = (e, (f, a.1))
    by false true f g further = (a.0, further g a.1)
    by false false f g further = a

inserted_ascends : (w : Warning) (vs : List Warning) → Ascends vs → Ascends (inserted w vs)
inserted_ascends w [] a = tt
inserted_ascends w (v ∷ vs) a = by (comes_before w v) (comes_before v w) refl refl
  where
    by : (b c : Bool) → comes_before w v ≡ b → comes_before v w ≡ c → Ascends (put w v vs (inserted w vs) b c)
    by true c f g = (f, a)
    by false true f g = from_inserted v w vs g a
    by false false f g = a

pub ordered_ascends : (ws : List Warning) → Ascends (in_order ws)
ordered_ascends [] = tt
ordered_ascends (w ∷ ws) = inserted_ascends w (in_order ws) (ordered_ascends ws)

pub list_ascends : (P : TypedProgram) → Ascends (warnings P)
unfolding warnings
list_ascends P = ordered_ascends (all_warned P)

-- ---- parts

of_two : (w : Warning) (vs ws : List Warning) → IsTold w (vs ++ ws) → IsTold w vs ⊎ IsTold w ws
of_two w [] ws t = inr t
of_two w (v ∷ vs) ws (inl e) = inl (inl e)
of_two w (v ∷ vs) ws (inr t) = by (of_two w vs ws t)
  where
    by : IsTold w vs ⊎ IsTold w ws → IsTold w (v ∷ vs) ⊎ IsTold w ws
    by (inl t) = inl (inr t)
    by (inr t) = inr t

of_first : (w : Warning) (vs ws : List Warning) → IsTold w vs → IsTold w (vs ++ ws)
of_first w [] ws t = absurd t
of_first w (v ∷ vs) ws (inl e) = inl e
of_first w (v ∷ vs) ws (inr t) = inr (of_first w vs ws t)

of_second : (w : Warning) (vs ws : List Warning) → IsTold w ws → IsTold w (vs ++ ws)
of_second w [] ws t = t
of_second w (v ∷ vs) ws t = inr (of_second w vs ws t)

where_told : (w : Warning) (b : Bool) (k : WarningKind) (place : Place) → IsTold w (warned_if b k place) → (b ≡ true) × (warning k place ≡ w)
where_told w true k place (inl e) = (refl, e)
where_told w true k place (inr t) = absurd t
where_told w false k place t = absurd t

told_where : (b : Bool) (k : WarningKind) (place : Place) → b ≡ true → IsTold (warning k place) (warned_if b k place)
told_where true k place e = inl refl
told_where false k place e = cc

pub parts_told : PartsAreTold
parts_told = record { of_two = of_two; of_first = of_first; of_second = of_second; where_told = where_told; told_where = told_where }
