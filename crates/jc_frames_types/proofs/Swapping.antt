-- Units that a loop swaps one after the other.
use Rattle.std.proofs.Common.{◌≡◌, ◌∙◌, ◌<◌, ◌≤◌, ◌+◌, ◌++◌, ℕ, zero, suc, Bool, true, false, cond, List, [], ◌∷◌, length, map, take, drop, get_or, set, sym, ap, refl, add-one, arith}
use Rattle.std.proofs.lemmas.List.{drop_more, map-append, map-set, take_all, take_more, take_more_set}
use Rattle.jc_class_out.specs.declared.model.Item.{Item}
use Rattle.jc_class_out.specs.Forms.{same_item}
use Rattle.jc_frames_types.specs.States.{swapped}

-- the first of these are swapped, the others are as they were
pub record SwappedTo (old new : Item) (i : ℕ) (were are : List Item) : Type 0 where
  pub long : length are ≡ length were
  pub front : take i are ≡ map (swapped old new) (take i were)
  pub back : drop i are ≡ drop i were

drop_set : (xs : List Item) (i : ℕ) (y : Item) → drop (suc i) (set xs i y) ≡ drop (suc i) xs
drop_set [] i y = refl
drop_set (x ∷ xs) zero y = refl
drop_set (x ∷ xs) (suc i) y = drop_set xs i y

length_set : (xs : List Item) (i : ℕ) (y : Item) → length (set xs i y) ≡ length xs
length_set [] i y = refl
length_set (x ∷ xs) zero y = refl
length_set (x ∷ xs) (suc i) y = ap suc (length_set xs i y)

-- the type of a unit among the types
pub get_or-map : {A B : Type 0} (f : A → B) (xs : List A) (i : ℕ) (d : A) → get_or (map f xs) i (f d) ≡ f (get_or xs i d)
get_or-map f [] i d = refl
get_or-map f (x ∷ xs) zero d = refl
get_or-map f (x ∷ xs) (suc i) d = get_or-map f xs i d

head_of : (x y : Item) (xs ys : List Item) → x ∷ xs ≡ y ∷ ys → x ≡ y
head_of x y xs ys e = cc

tail_of : (x y : Item) (xs ys : List Item) → x ∷ xs ≡ y ∷ ys → xs ≡ ys
tail_of x y xs ys e = cc

-- the unit at the place is what it was, and so are those behind it
place_is : (old new : Item) (i : ℕ) (were are : List Item) (d : Item) → i < length were → SwappedTo old new i were are → get_or are i d ∷ drop (i + 1) are ≡ get_or were i d ∷ drop (i + 1) were
place_is old new i were are d less so =
    let less_too : i < length are = omega (arith, less, so.long) in
    sym (drop_more are i d less_too) ∙ so.back ∙ drop_more were i d less

front_more : (old new : Item) (i : ℕ) (were are : List Item) (d : Item) → i < length were → SwappedTo old new i were are →
    take i are ++ swapped old new (get_or were i d) ∷ [] ≡ map (swapped old new) (take (i + 1) were)
front_more old new i were are d less so =
    ap (λ (xs : List Item). xs ++ swapped old new (get_or were i d) ∷ []) so.front
    ∙ sym (map-append (swapped old new) (take i were) (get_or were i d ∷ []))
    ∙ ap (map (swapped old new)) (sym (take_more were i d less))

-- one that is the same is swapped
pub swapped_one : (old new : Item) (i : ℕ) (were are after : List Item) (d : Item) → i < length were → SwappedTo old new i were are → same_item (get_or are i d) old ≡ true → after ≡ set are i new → SwappedTo old new (i + 1) were after
swapped_one old new i were are after d less so same is =
    let both = place_is old new i were are d less so in
    let here : get_or are i d ≡ get_or were i d = head_of (get_or are i d) (get_or were i d) (drop (i + 1) are) (drop (i + 1) were) both in
    let same_was : same_item (get_or were i d) old ≡ true = ap (λ (x : Item). same_item x old) (sym here) ∙ same in
    let gets : swapped old new (get_or were i d) ≡ new = ap (λ (b : Bool). cond b new (get_or were i d)) same_was in
    let less_too : i < length are = omega (arith, less, so.long) in
    record {
      long = ap (length {A = Item}) is ∙ length_set are i new ∙ so.long;
      front = ap (take (i + 1)) is ∙ take_more_set are i new less_too ∙ ap (λ (x : Item). take i are ++ x ∷ []) (sym gets) ∙ front_more old new i were are d less so;
      back = ap (drop (i + 1)) is ∙ ap (λ (n : ℕ). drop n (set are i new)) (add-one i) ∙ drop_set are i new ∙ ap (λ (n : ℕ). drop n are) (sym (add-one i))
          ∙ tail_of (get_or are i d) (get_or were i d) (drop (i + 1) are) (drop (i + 1) were) both;
    }

-- another one stays
pub kept_one : (old new : Item) (i : ℕ) (were are : List Item) (d : Item) → i < length were → SwappedTo old new i were are → same_item (get_or are i d) old ≡ false → SwappedTo old new (i + 1) were are
kept_one old new i were are d less so other =
    let both = place_is old new i were are d less so in
    let here : get_or are i d ≡ get_or were i d = head_of (get_or are i d) (get_or were i d) (drop (i + 1) are) (drop (i + 1) were) both in
    let other_was : same_item (get_or were i d) old ≡ false = ap (λ (x : Item). same_item x old) (sym here) ∙ other in
    let keeps : swapped old new (get_or were i d) ≡ get_or are i d = ap (λ (b : Bool). cond b new (get_or were i d)) other_was ∙ sym here in
    let less_too : i < length are = omega (arith, less, so.long) in
    record {
      long = so.long;
      front = take_more are i d less_too ∙ ap (λ (x : Item). take i are ++ x ∷ []) (sym keeps) ∙ front_more old new i were are d less so;
      back = tail_of (get_or are i d) (get_or were i d) (drop (i + 1) are) (drop (i + 1) were) both;
    }

-- behind the last one
pub swapped_all : (old new : Item) (i : ℕ) (were are : List Item) → length were ≤ i → SwappedTo old new i were are → are ≡ map (swapped old new) were
swapped_all old new i were are past so =
    sym (take_all i are (omega (arith, past, so.long))) ∙ so.front ∙ ap (map (swapped old new)) (take_all i were past)

-- before the first one
pub swapped_none : (old new : Item) (were are : List Item) → are ≡ were → SwappedTo old new 0 were are
swapped_none old new were are is = record { long = ap (length {A = Item}) is; front = refl; back = is }

pub ruleset swap_rules = (swapped_none)
