-- The sorts of parameters, one after the other.
use Rattle.std.proofs.Common.{◌≡◌, ◌<◌, ◌+◌, ◌-◌, ◌||◌, ◌==◌, ℕ, zero, suc, Bool, true, false, List, [], ◌∷◌, ◌++◌, map, take, length, refl, sym, ap, ◌∙◌, arith, append_assoc, if◌then◌else◌}
use Rattle.std.proofs.lemmas.List.{append-nil}
use Rattle.std.specs.declared.option.Option.{Option}
use Rattle.std.specs.declared.option.Option.TheVariants.{Some, None}
use Rattle.jc_class_out.specs.declared.model.Item.{Item}
use Rattle.jc_class_out.specs.declared.model.Item.TheVariants.{Integer, Long, Object}
use Rattle.jc_class_out.specs.Descriptors.{item_of_type, items_by, items_on, type_end}
use Rattle.jc_jvm.specs.Types.{sort_of_item, sort_of_descriptor}
use Rattle.jc_jvm.specs.declared.operands.Sort.{Sort}
use Rattle.jc_jvm.specs.declared.operands.Sort.TheVariants.{WholeSort, LongSort, ReferenceSort}

sort_by : (a b c : Bool) (x y : List ℕ) → (if a then LongSort else if b || c then ReferenceSort else WholeSort) ≡ sort_of_item (if a then Long else if b then Object x else if c then Object y else Integer)
sort_by true b c x y = refl
sort_by false true c x y = refl
sort_by false false true x y = refl
sort_by false false false x y = refl

pub type_sort : (us : List ℕ) → sort_of_descriptor us ≡ sort_of_item (item_of_type us)
type_sort [] = refl
type_sort (u ∷ us) = sort_by (u == 74) (u == 76) (u == 91) (take (length us - 1) us) (u ∷ us)

pub ruleset sort_rules = (type_sort)

items_on-zero : (us : List ℕ) → items_on 0 us ≡ []
unfolding items_on
items_on-zero us = refl

items_on-suc : (n : ℕ) (us : List ℕ) → items_on (suc n) us ≡ items_by us (λ (rest : List ℕ). items_on n rest) (type_end 0 us)
unfolding items_on
items_on-suc n us = refl

-- one parameter more
pub sort_more : (found whole : List Sort) (n i : ℕ) (us rest : List ℕ) (sort : Sort) → i < n → type_end 0 us ≡ Some rest → sort ≡ sort_of_item (item_of_type (take (length us - length rest) us)) →
    found ++ map sort_of_item (items_on (n - i) us) ≡ whole → (found ++ sort ∷ []) ++ map sort_of_item (items_on (n - (i + 1)) rest) ≡ whole
sort_more found whole n i us rest sort below ends is so =
    let k : n - i ≡ suc (n - (i + 1)) = omega arith in
    append_assoc found (sort ∷ []) (map sort_of_item (items_on (n - (i + 1)) rest))
    ∙ ap (λ (s : Sort). found ++ s ∷ map sort_of_item (items_on (n - (i + 1)) rest)) is
    ∙ ap (λ (o : Option (List ℕ)). found ++ map sort_of_item (items_by us (λ (r : List ℕ). items_on (n - (i + 1)) r) o)) (sym ends)
    ∙ ap (λ (items : List Item). found ++ map sort_of_item items) (sym (items_on-suc (n - (i + 1)) us))
    ∙ ap (λ (m : ℕ). found ++ map sort_of_item (items_on m us)) (sym k)
    ∙ so

no_items : (m : ℕ) (us : List ℕ) → type_end 0 us ≡ None → items_on m us ≡ []
no_items zero us ends = items_on-zero us
no_items (suc n) us ends = items_on-suc n us ∙ ap (λ (o : Option (List ℕ)). items_by us (λ (r : List ℕ). items_on n r) o) ends

-- there is no further one
pub sorts_end : (found whole : List Sort) (m : ℕ) (us : List ℕ) → type_end 0 us ≡ None → found ++ map sort_of_item (items_on m us) ≡ whole → found ≡ whole
sorts_end found whole m us ends so =
    sym (append-nil found) ∙ ap (λ (items : List Item). found ++ map sort_of_item items) (sym (no_items m us ends)) ∙ so

pub sorts_over : (found whole : List Sort) (m : ℕ) (us : List ℕ) → m ≡ 0 → found ++ map sort_of_item (items_on m us) ≡ whole → found ≡ whole
sorts_over found whole m us none so =
    sym (append-nil found) ∙ ap (λ (items : List Item). found ++ map sort_of_item items) (sym (items_on-zero us)) ∙ ap (λ (n : ℕ). found ++ map sort_of_item (items_on n us)) (sym none) ∙ so
