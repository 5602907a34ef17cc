-- Stacks of what lists hold.
use Rattle.std.proofs.Common.{◌≡◌, refl, List, [], ◌∷◌, ◌++◌, append_assoc}
use Rattle.std.proofs.lemmas.List.{append-nil}
use Rattle.jc_typed.specs.Trees.{Named}
use Rattle.jc_exprs_constants.specs.declared.lists.NamedLocal.{NamedLocal}
use Rattle.jc_exprs_constants.specs.Knowing.{named_of, unstacked, unstacked_names}

-- one more on a stack
pub stacked_more : {A : Type 0} (xs ys : List A) (x : A) → unstacked (xs ++ x ∷ []) ys ≡ x ∷ unstacked xs ys
stacked_more [] ys x = refl
stacked_more (y ∷ xs) ys x = stacked_more xs (y ∷ ys) x

pub names_more : (xs : List NamedLocal) (ys : List Named) (x : NamedLocal) → unstacked_names (xs ++ x ∷ []) ys ≡ named_of x ∷ unstacked_names xs ys
names_more [] ys x = refl
names_more (y ∷ xs) ys x = names_more xs (named_of y ∷ ys) x

pub append_more : {A : Type 0} (xs ys : List A) (x : A) → (xs ++ x ∷ []) ++ ys ≡ xs ++ x ∷ ys
append_more xs ys x = append_assoc xs (x ∷ []) ys

pub append_none : {A : Type 0} (xs : List A) → xs ++ [] ≡ xs
append_none xs = append-nil xs

pub ruleset stacking = (stacked_more, names_more, append_more, append_none)
