-- What has no break, part by part.
use Rattle.std.proofs.Common.{◌≡◌, ℕ, suc, Bool, true, false, not, ◌&&◌, inl, inr, List, [], ◌∷◌, ◌++◌, refl, sym, ap, ◌∙◌}
use Rattle.std.specs.List.{list_any}
use Rattle.std.proofs.lemmas.Bool.{or_parts}
use Rattle.jc_rules.specs.declared.rule.Place.{Place}
use Rattle.jc_rules.specs.declared.rule.Refusal.{Refusal}
use Rattle.jc_header_rules.specs.Checked.{IsAmong}
use Rattle.jc_header_rules.specs.Places.{broken_if, of_each}
use Rattle.jc_header_laws.specs.Facts.{IsNumber}

pub fore : {X : Type 0} (xs ys : List X) → xs ++ ys ≡ [] → xs ≡ []
fore [] ys e = refl
fore (x ∷ xs) ys e = absurd cc

pub rear : {X : Type 0} (xs ys : List X) → xs ++ ys ≡ [] → ys ≡ []
rear [] ys e = e
rear (x ∷ xs) ys e = absurd cc

pub each_unbroken : {X : Type 0} (f : ℕ → X → List Refusal) (i n : ℕ) (x : X) (xs : List X) → of_each f i xs ≡ [] → IsNumber i n x xs → f n x ≡ []
each_unbroken f i n x [] e h = absurd h
each_unbroken f i n x (y ∷ ys) e (inl h) = ap (λ k. f k x) h.0 ∙ ap (f i) h.1 ∙ fore (f i y) (of_each f (suc i) ys) e
each_unbroken f i n x (y ∷ ys) e (inr h) = each_unbroken f (suc i) n x ys (rear (f i y) (of_each f (suc i) ys) e) h

-- where it doesn't matter which number it is
pub some_number : {X : Type 0} (i : ℕ) (x : X) (xs : List X) → IsAmong x xs → (n : ℕ) × IsNumber i n x xs
some_number i x [] h = absurd h
some_number i x (y ∷ ys) (inl h) = (i, inl (refl, h))
some_number i x (y ∷ ys) (inr h) = let r = some_number (suc i) x ys h in (r.0, inr r.1)

pub not_broken : (b : Bool) (rule : ℕ) (place : Place) → broken_if b rule place ≡ [] → b ≡ false
not_broken false rule place e = refl
not_broken true rule place e = absurd cc

pub none_is : {X : Type 0} (p : X → Bool) (x : X) (xs : List X) → list_any p xs ≡ false → IsAmong x xs → p x ≡ false
none_is p x [] e h = absurd h
none_is p x (y ∷ ys) e (inl h) = ap p h ∙ (or_parts (p y) (list_any p ys) e).0
none_is p x (y ∷ ys) e (inr h) = none_is p x ys (or_parts (p y) (list_any p ys) e).1 h

-- of a conjunction that fails, where its first part holds
pub and_rest : (a b : Bool) → a ≡ true → (a && b) ≡ false → b ≡ false
and_rest a b h e = ap (λ c. c && b) (sym h) ∙ e

pub not_false : (b : Bool) → not b ≡ false → b ≡ true
not_false true e = refl
not_false false e = absurd cc
