-- Types of arguments, as loops read them from a descriptor and take them from a stack.
use Rattle.std.proofs.Common.{◌≡◌, ◌∙◌, ◌+◌, ◌-◌, ◌<◌, ◌≤◌, ◌++◌, ℕ, zero, suc, List, [], ◌∷◌, length, map, take, sym, ap, refl, append_assoc, arith}
use Rattle.std.proofs.lemmas.List.{map-append}
use Rattle.std.specs.Prelude.{option_and_then}
use Rattle.std.specs.declared.option.Option.{Option}
use Rattle.std.specs.declared.option.Option.TheVariants.{Some, None}
use Rattle.jc_class_out.specs.Descriptors.{item_of_type, items_on, type_end}
use Rattle.jc_class_out.specs.declared.model.ClassModel.{ClassModel}
use Rattle.jc_class_out.specs.declared.model.Item.{Item}
use Rattle.jc_frames_types.specs.Items.{item_of}
use Rattle.jc_frames_types.specs.States.{TypeState, taken_as}
use Rattle.jc_frames_types.specs.declared.units.UnitType.{UnitType}
use Rattle.jc_frames_steps.specs.Rules.{all_taken}

-- ---- taken from a stack

none_taken : (classes : List ClassModel) (o : Option TypeState) → o ≡ option_and_then (all_taken classes []) o
unfolding all_taken
none_taken classes (Some s) = refl
none_taken classes None = refl

one_taken : (classes : List ClassModel) (x : Item) (xs : List Item) (o : Option TypeState) → option_and_then (taken_as classes x) (option_and_then (all_taken classes xs) o) ≡ option_and_then (all_taken classes (x ∷ xs)) o
unfolding all_taken
one_taken classes x xs (Some s) = refl
one_taken classes x xs None = refl

-- the last type is taken first
taken_last : (classes : List ClassModel) (xs : List Item) (x : Item) (s : TypeState) → all_taken classes (xs ++ x ∷ []) s ≡ option_and_then (all_taken classes xs) (taken_as classes x s)
unfolding all_taken
taken_last classes [] x s = none_taken classes (taken_as classes x s)
taken_last classes (y ∷ ys) x s = ap (option_and_then (taken_as classes y)) (taken_last classes ys x s) ∙ one_taken classes y ys (taken_as classes x s)

taken_of : (classes : List ClassModel) (units left : List UnitType) (u : UnitType) (s : TypeState) → units ≡ left ++ u ∷ [] →
    all_taken classes (map item_of units) s ≡ option_and_then (all_taken classes (map item_of left)) (taken_as classes (item_of u) s)
taken_of classes units left u s is =
    ap (λ (us : List UnitType). all_taken classes (map item_of us) s) is
    ∙ ap (λ (xs : List Item). all_taken classes xs s) (map-append item_of left (u ∷ []))
    ∙ taken_last classes (map item_of left) (item_of u) s

pub taken_more : (classes : List ClassModel) (units left : List UnitType) (u : UnitType) (s t : TypeState) → units ≡ left ++ u ∷ [] → taken_as classes (item_of u) s ≡ Some t →
    all_taken classes (map item_of left) t ≡ all_taken classes (map item_of units) s
taken_more classes units left u s t is one = sym (taken_of classes units left u s is ∙ ap (option_and_then (all_taken classes (map item_of left))) one)

pub taken_not : (classes : List ClassModel) (units left : List UnitType) (u : UnitType) (s : TypeState) → units ≡ left ++ u ∷ [] → taken_as classes (item_of u) s ≡ None →
    all_taken classes (map item_of units) s ≡ None
taken_not classes units left u s is one = taken_of classes units left u s is ∙ ap (option_and_then (all_taken classes (map item_of left))) one

pub taken_all : (classes : List ClassModel) (units : List UnitType) (s : TypeState) → units ≡ [] → all_taken classes (map item_of units) s ≡ Some s
unfolding all_taken
taken_all classes units s none = ap (λ (us : List UnitType). all_taken classes (map item_of us) s) none

pub ruleset argument_rules = (taken_more, taken_not, taken_all)

-- ---- read from a descriptor

items_more : (n i : ℕ) (us rest : List ℕ) → i < n → type_end 0 us ≡ Some rest → items_on (n - i) us ≡ item_of_type (take (length us - length rest) us) ∷ items_on (n - (i + 1)) rest
unfolding items_on
items_more n i us rest less is =
    let k : n - i ≡ suc (n - (i + 1)) = omega arith in
    rw (k, is) refl

items_none : (m : ℕ) (us : List ℕ) → type_end 0 us ≡ None → items_on m us ≡ []
unfolding items_on
items_none zero us is = refl
items_none (suc m) us is = rw is refl

-- one type more
pub items_read : (n i : ℕ) (us rest : List ℕ) (units more : List UnitType) (u : UnitType) (all : List Item) → i < n → type_end 0 us ≡ Some rest → more ≡ units ++ u ∷ [] →
    item_of u ≡ item_of_type (take (length us - length rest) us) → map item_of units ++ items_on (n - i) us ≡ all → map item_of more ++ items_on (n - (i + 1)) rest ≡ all
items_read n i us rest units more u all less is grown one so =
    let behind : List Item = items_on (n - (i + 1)) rest in
    ap (λ (xs : List UnitType). map item_of xs ++ behind) grown
    ∙ ap (λ (xs : List Item). xs ++ behind) (map-append item_of units (u ∷ []))
    ∙ append_assoc (map item_of units) (item_of u ∷ []) behind
    ∙ ap (λ (x : Item). map item_of units ++ x ∷ behind) one
    ∙ ap (λ (xs : List Item). map item_of units ++ xs) (sym (items_more n i us rest less is))
    ∙ so

append_nothing : (xs : List Item) → xs ≡ xs ++ []
append_nothing [] = refl
append_nothing (x ∷ xs) = ap (λ (ys : List Item). x ∷ ys) (append_nothing xs)

-- no type more
pub items_end : (n i : ℕ) (us : List ℕ) (units : List UnitType) (all : List Item) → type_end 0 us ≡ None → map item_of units ++ items_on (n - i) us ≡ all → map item_of units ≡ all
items_end n i us units all none so =
    append_nothing (map item_of units) ∙ ap (λ (xs : List Item). map item_of units ++ xs) (sym (items_none (n - i) us none)) ∙ so

pub items_last : (n i : ℕ) (us : List ℕ) (units : List UnitType) (all : List Item) → n ≤ i → map item_of units ++ items_on (n - i) us ≡ all → map item_of units ≡ all
unfolding items_on
items_last n i us units all past so =
    let k : n - i ≡ 0 = omega arith in
    let none : items_on (n - i) us ≡ [] = rw k refl in
    append_nothing (map item_of units) ∙ ap (λ (xs : List Item). map item_of units ++ xs) (sym none) ∙ so

pub ruleset item_rules = (items_read, items_end, items_last)
