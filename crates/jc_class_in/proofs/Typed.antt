-- The loop that tells what the types of parameters are to the verifier.
use Rattle.std.proofs.Common.{◌≡◌, ◌<◌, ◌≤◌, ℕ, suc, ◌-◌, ◌+◌, List, [], ◌∷◌, ◌++◌, length, take, Some, None, refl, sym, ap, ◌∙◌, append_assoc, arith}
use Rattle.std.proofs.lemmas.List.{append-nil}
use Rattle.jc_class_out.specs.declared.model.Item.{Item}
use Rattle.jc_class_out.specs.Descriptors.{type_end, item_of_type, items_on}

pub items_more : (front new : List Item) (most i : ℕ) (rest first after : List ℕ) (n : Item) (whole : List Item) → new ≡ front ++ n ∷ [] → i < most → type_end 0 rest ≡ Some after → first ≡ take (length rest - length after) rest → n ≡ item_of_type first
    → front ++ items_on (most - i) rest ≡ whole → new ++ items_on (most - (i + 1)) after ≡ whole
unfolding items_on
items_more front new most i rest first after n whole e lt h f is so_far =
    let k : most - i ≡ suc (most - (i + 1)) = omega arith in
    let later = items_on (most - (i + 1)) after in
    let item : item_of_type (take (length rest - length after) rest) ≡ n = ap item_of_type (sym f) ∙ sym is in
    let one : front ++ items_on (most - i) rest ≡ front ++ (item_of_type (take (length rest - length after) rest) ∷ later) = rw (k, h) refl in
    rw e (append_assoc front (n ∷ []) later ∙ ap (λ (x : Item). front ++ (x ∷ later)) (sym item) ∙ sym one ∙ so_far)

pub items_over : (front : List Item) (most i : ℕ) (rest : List ℕ) (whole : List Item) → i < most → type_end 0 rest ≡ None → front ++ items_on (most - i) rest ≡ whole → whole ≡ front
unfolding items_on
items_over front most i rest whole lt h so_far =
    let k : most - i ≡ suc (most - (i + 1)) = omega arith in
    let one : front ++ items_on (most - i) rest ≡ front = rw (k, h) (append-nil front) in
    sym so_far ∙ one

pub items_out : (front : List Item) (most i : ℕ) (rest : List ℕ) (whole : List Item) → most ≤ i → front ++ items_on (most - i) rest ≡ whole → whole ≡ front
unfolding items_on
items_out front most i rest whole le so_far =
    let k : most - i ≡ 0 = omega arith in
    let one : front ++ items_on (most - i) rest ≡ front = rw k (append-nil front) in
    sym so_far ∙ one
