-- Steps that are read from their last one.
use Rattle.std.proofs.Common.{◌≡◌, ◌||◌, Bool, true, false, List, [], ◌∷◌, ◌++◌, refl}
use Rattle.std.specs.List.{list_any}
use Rattle.jc_types.specs.declared.form.Ty.{Ty}
use Rattle.jc_types.specs.declared.form.Primitive.{Primitive}
use Rattle.jc_types.specs.declared.erased.Erased.{Erased}
use Rattle.jc_running.specs.declared.seen.Check.{Check}
use Rattle.jc_typed.specs.Trees.{Step}
use Rattle.jc_unchecked_spec.specs.Bodies.{has_unchecked, is_unchecked_step, type_behind}

or_none : (b : Bool) → (b || false) ≡ b
or_none true = refl
or_none false = refl

-- a step more, which isn't unchecked, or is
pub checked_more : (xs : List Step) (s : Step) → is_unchecked_step s ≡ false → has_unchecked (xs ++ s ∷ []) ≡ has_unchecked xs
checked_more [] s e = rw e refl
checked_more (x ∷ xs) s e = elim (is_unchecked_step x) as (λ b. (b || has_unchecked (xs ++ s ∷ [])) ≡ (b || has_unchecked xs)) [ true ↦ refl | false ↦ checked_more xs s e ]

pub unchecked_more : (xs : List Step) (s : Step) → is_unchecked_step s ≡ true → has_unchecked (xs ++ s ∷ []) ≡ true
unchecked_more [] s e = rw e refl
unchecked_more (x ∷ xs) s e = elim (is_unchecked_step x) as (λ b. (b || has_unchecked (xs ++ s ∷ [])) ≡ true) [ true ↦ refl | false ↦ unchecked_more xs s e ]

-- the type behind a step upwards, and behind another one
pub behind_up : (t to : Ty) (unchecked : Bool) (xs : List Step) → type_behind t (xs ++ Step.Up to unchecked ∷ []) ≡ to
behind_up t to unchecked [] = refl
behind_up t to unchecked (Step.Widen p ∷ xs) = behind_up t to unchecked xs
behind_up t to unchecked (Step.Narrow p ∷ xs) = behind_up t to unchecked xs
behind_up t to unchecked (Step.BoxUp p ∷ xs) = behind_up t to unchecked xs
behind_up t to unchecked (Step.Unbox p ∷ xs) = behind_up t to unchecked xs
behind_up t to unchecked (Step.Up u b ∷ xs) = behind_up u to unchecked xs
behind_up t to unchecked (Step.Test c e ∷ xs) = behind_up t to unchecked xs

abbrev Stays : Step → Type 0
Stays s = (t : Ty) → type_behind t (s ∷ []) ≡ t

behind_other : (s : Step) → Stays s → (t : Ty) (xs : List Step) → type_behind t (xs ++ s ∷ []) ≡ type_behind t xs
behind_other s h t [] = h t
behind_other s h t (Step.Widen p ∷ xs) = behind_other s h t xs
behind_other s h t (Step.Narrow p ∷ xs) = behind_other s h t xs
behind_other s h t (Step.BoxUp p ∷ xs) = behind_other s h t xs
behind_other s h t (Step.Unbox p ∷ xs) = behind_other s h t xs
behind_other s h t (Step.Up u b ∷ xs) = behind_other s h u xs
behind_other s h t (Step.Test c e ∷ xs) = behind_other s h t xs

pub behind_widen : (t : Ty) (p : Primitive) (xs : List Step) → type_behind t (xs ++ Step.Widen p ∷ []) ≡ type_behind t xs
behind_widen t p xs = behind_other (Step.Widen p) (λ t. refl) t xs

pub behind_narrow : (t : Ty) (p : Primitive) (xs : List Step) → type_behind t (xs ++ Step.Narrow p ∷ []) ≡ type_behind t xs
behind_narrow t p xs = behind_other (Step.Narrow p) (λ t. refl) t xs

pub behind_box : (t : Ty) (p : Primitive) (xs : List Step) → type_behind t (xs ++ Step.BoxUp p ∷ []) ≡ type_behind t xs
behind_box t p xs = behind_other (Step.BoxUp p) (λ t. refl) t xs

pub behind_unbox : (t : Ty) (p : Primitive) (xs : List Step) → type_behind t (xs ++ Step.Unbox p ∷ []) ≡ type_behind t xs
behind_unbox t p xs = behind_other (Step.Unbox p) (λ t. refl) t xs

pub behind_test : (t : Ty) (c : Check) (e : Erased) (xs : List Step) → type_behind t (xs ++ Step.Test c e ∷ []) ≡ type_behind t xs
behind_test t c e xs = behind_other (Step.Test c e) (λ t. refl) t xs

pub ruleset steps_more = (checked_more, unchecked_more, behind_up, behind_widen, behind_narrow, behind_box, behind_unbox, behind_test)
