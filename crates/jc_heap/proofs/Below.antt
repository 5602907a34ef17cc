-- What stands below what by the direct supertypes.
use Rattle.std.proofs.Common.{◌≡◌, ℕ, zero, suc, ◌+◌, ◌-◌, ◌<◌, arith, length, take, get_or, Bool, false, ◌||◌, ◌==◌, List, [], ◌∷◌, ◌++◌, slice_get, option_and_then, refl, sym, ap, ◌∙◌, append_assoc}
use Rattle.std.proofs.lemmas.Option.{slice_get-map}
use Rattle.std.proofs.lemmas.List.{take_more}
use Rattle.std.proofs.lemmas.List.Elements.{filter_map-append}
use Rattle.std.specs.List.{list_any, filter_map, cons_option}
use Rattle.std.specs.Option.{option_map}
use Rattle.std.specs.declared.option.Option.{Option}
use Rattle.std.specs.declared.option.Option.TheVariants.{Some, None}
use Rattle.jc_class_out.specs.declared.model.ClassModel.{ClassModel}
use Rattle.jc_jvm.specs.Classes.{class_named, listed, super_of, interfaces_of, below_on}
use Rattle.jc_heap.specs.Supers.{supers_in, all_supers, supers_at, below_by}

list_any-ext : {A : Type 0} (f g : A → Bool) (xs : List A) → ((x : A) → f x ≡ g x) → list_any f xs ≡ list_any g xs
list_any-ext f g [] same = refl
list_any-ext f g (x ∷ xs) same = rw (same x) (ap (λ b. g x || b) (list_any-ext f g xs same))

row_of : Option (List ℕ) → List ℕ
row_of (Some row) = row
row_of None = []

supers_by : List ClassModel → Option ClassModel → List ℕ
supers_by classes (Some c) = supers_in classes c
supers_by classes None = []

from_some : (classes : List ClassModel) (c : Option ClassModel) → (elim (option_map (supers_in classes) c) [ Some row ↦ row | None ↦ [] ]) ≡ listed (option_and_then (λ (x : ClassModel). option_and_then (class_named classes) x.superclass) c) ++ (elim c [ Some x ↦ filter_map (class_named classes) x.interfaces | None ↦ [] ])
from_some classes (Some c) = refl
from_some classes None = refl

supers_at-all : (classes : List ClassModel) (k : ℕ) → supers_at (all_supers classes) k ≡ listed (super_of classes k) ++ interfaces_of classes k
unfolding all_supers
supers_at-all classes k =
    ap (λ (o : Option (List ℕ)). elim o [ Some row ↦ row | None ↦ [] ]) (slice_get-map (supers_in classes) classes k)
    ∙ from_some classes (slice_get classes k)

pub below_by_all : (classes : List ClassModel) (n wanted k : ℕ) → below_by (all_supers classes) n wanted k ≡ below_on classes n wanted k
unfolding below_by below_on
below_by_all classes zero wanted k = refl
below_by_all classes (suc n) wanted k =
    rw (supers_at-all classes k)
    (ap (λ b. (k == wanted) || b) (list_any-ext (below_by (all_supers classes) n wanted) (below_on classes n wanted) (listed (super_of classes k) ++ interfaces_of classes k) (below_by_all classes n wanted)))

pub below_by-none : (supers : List (List ℕ)) (wanted k : ℕ) → below_by supers 0 wanted k ≡ false
unfolding below_by
below_by-none supers wanted k = refl

pub below_by-suc : (supers : List (List ℕ)) (n wanted k : ℕ) → below_by supers (suc n) wanted k ≡ ((k == wanted) || list_any (below_by supers n wanted) (supers_at supers k))
unfolding below_by
below_by-suc supers n wanted k = refl

cons_listed : {B : Type 0} (o : Option B) → cons_option o [] ≡ listed o
cons_listed (Some y) = refl
cons_listed None = refl

-- one element more
pub filter_map_more : {A B : Type 0} (f : A → Option B) (xs : List A) (i : ℕ) (d : A) → i < length xs → filter_map f (take (i + 1) xs) ≡ filter_map f (take i xs) ++ listed (f (get_or xs i d))
filter_map_more {A = A} {B = B} f xs i d h =
    ap (λ (ys : List A). filter_map f ys) (take_more xs i d h) ∙ filter_map-append f (take i xs) (get_or xs i d ∷ [])
    ∙ ap (λ (ys : List B). filter_map f (take i xs) ++ ys) (cons_listed (f (get_or xs i d)))

-- what a loop over names has found after one more
pub named_more : {A B : Type 0} (f : A → Option B) (xs : List A) (i : ℕ) (x : A) (before found after : List B) → i < length xs → x ≡ get_or xs i x →
    after ≡ found ++ listed (f x) → found ≡ before ++ filter_map f (take i xs) → after ≡ before ++ filter_map f (take (i + 1) xs)
named_more {A = A} {B = B} f xs i x before found after h is grown so =
    grown
    ∙ ap (λ (bs : List B). bs ++ listed (f x)) so
    ∙ append_assoc before (filter_map f (take i xs)) (listed (f x))
    ∙ ap (λ (bs : List B). before ++ bs) (ap (λ (y : A). filter_map f (take i xs) ++ listed (f y)) is ∙ sym (filter_map_more f xs i x h))
