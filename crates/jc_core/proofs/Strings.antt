-- Strings of texts, one after the other.
use Rattle.std.proofs.Common.{◌≡◌, ◌<◌, ◌+◌, ◌∙◌, ◌++◌, ◌∷◌, [], ℕ, suc, List, length, map, drop, get_or, refl, sym, ap, add-one}
use Rattle.std.proofs.Math.Seq.{drop-cons}
use Rattle.std.specs.Prelude.{option_and_then}
use Rattle.std.specs.declared.option.Option.{Option}
use Rattle.std.specs.declared.option.Option.TheVariants.{Some, None}
use Rattle.jc_class_out.specs.declared.model.ClassModel.{ClassModel}
use Rattle.jc_jvm.specs.Start.{units_of_text, with_strings}
use Rattle.jc_jvm.specs.Worlds.{with_string, string_address}
use Rattle.jc_jvm.specs.declared.value.Value.{Value}
use Rattle.jc_jvm.specs.declared.value.Value.TheVariants.{Address}
use Rattle.jc_jvm.specs.declared.world.World.{World}

-- one String more
pub strings_more : (classes : List ClassModel) (texts : List (List ℕ)) (world made : World) (found after : List Value) (i : ℕ) (d units : List ℕ) (address : ℕ) →
    i < length texts → units ≡ units_of_text (get_or texts i d) → with_string classes units world ≡ Some made → address ≡ string_address world → after ≡ found ++ Address address ∷ [] →
    with_strings classes (drop (i + 1) texts) (made, after) ≡ with_strings classes (drop i texts) (world, found)
strings_more classes texts world made found after i d units address below is so at grown =
    let values : after ≡ found ++ Address (string_address world) ∷ [] = grown ∙ ap (λ (a : ℕ). found ++ Address a ∷ []) at in
    let one : with_string classes (units_of_text (get_or texts i d)) world ≡ Some made = ap (λ (us : List ℕ). with_string classes us world) (sym is) ∙ so in
    ap (λ (j : ℕ). with_strings classes (drop j texts) (made, after)) (add-one i)
    ∙ ap (λ (vs : List Value). with_strings classes (drop (suc i) texts) (made, vs)) values
    ∙ ap (λ (o : Option World). option_and_then (λ (w : World). with_strings classes (drop (suc i) texts) (w, found ++ Address (string_address world) ∷ [])) o) (sym one)
    ∙ ap (λ (ts : List (List ℕ)). with_strings classes ts (world, found)) (sym (drop-cons texts i d below))

-- there can't be one
pub strings_none : (classes : List ClassModel) (texts : List (List ℕ)) (world : World) (found : List Value) (i : ℕ) (d units : List ℕ) (whole : Option (World × List Value)) →
    i < length texts → units ≡ units_of_text (get_or texts i d) → with_string classes units world ≡ None → with_strings classes (drop i texts) (world, found) ≡ whole → whole ≡ None
strings_none classes texts world found i d units whole below is so same =
    let one : with_string classes (units_of_text (get_or texts i d)) world ≡ None = ap (λ (us : List ℕ). with_string classes us world) (sym is) ∙ so in
    sym same
    ∙ ap (λ (ts : List (List ℕ)). with_strings classes ts (world, found)) (drop-cons texts i d below)
    ∙ ap (λ (o : Option World). option_and_then (λ (w : World). with_strings classes (drop (suc i) texts) (w, found ++ Address (string_address world) ∷ [])) o) one

pub map_same : (xs : List ℕ) → map (λ (x : ℕ). x) xs ≡ xs
map_same [] = refl
map_same (x ∷ xs) = ap (λ (ys : List ℕ). x ∷ ys) (map_same xs)

pub ruleset string_rules = (strings_more, strings_none)
