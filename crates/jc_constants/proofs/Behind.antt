-- Lists that go on only where all of the rest is there.
use Rattle.std.proofs.Common.{◌≡◌, ◌<◌, ◌+◌, ℕ, List, [], ◌∷◌, ◌++◌, map, drop, length, get_or, Option, Some, None, append_assoc, refl, sym, ap, ◌∙◌}
use Rattle.jc_types.specs.declared.constant.ConstantPart.{ConstantPart}
use Rattle.jc_declares.specs.Constants.{Right, and_then, all_parts}
use Rattle.jc_written.proofs.Counting.{first_left}
use Rattle.jc_constants.specs.Forms.{behind}

pub behind_turn : {X : Type 0} (list : List X) (x : X) (rest : Option (List X)) → behind (list ++ x ∷ []) rest ≡ behind list (and_then rest (λ xs. Some (x ∷ xs)))
behind_turn list x None = refl
behind_turn list x (Some xs) = ap Some (append_assoc list (x ∷ []) xs)

pub behind_none : {X : Type 0} (rest : Option (List X)) → behind [] rest ≡ rest
behind_none None = refl
behind_none (Some xs) = refl

pub behind_one : {X : Type 0} (x : X) (rest : Option (List X)) → behind (x ∷ []) rest ≡ and_then rest (λ xs. Some (x ∷ xs))
behind_one x None = refl
behind_one x (Some xs) = refl

-- one turn of the loop over the operators of a chain
pub parts_turn : {X : Type 0} (F : X → Right) (list new : List ConstantPart) (xs : List X) (i : ℕ) (x : X) (p : ConstantPart) → i < length xs → x ≡ get_or xs i x → Some p ≡ (F x).part → new ≡ list ++ p ∷ []
    → behind new (all_parts (map F (drop (i + 1) xs))) ≡ behind list (all_parts (map F (drop i xs)))
parts_turn {X = X} F list new xs i x p within is formed made =
    ap (λ l. behind l (all_parts (map F (drop (i + 1) xs)))) made
    ∙ behind_turn list p (all_parts (map F (drop (i + 1) xs)))
    ∙ ap (λ (o : Option ConstantPart). behind list (and_then o (λ q. and_then (all_parts (map F (drop (i + 1) xs))) (λ qs. Some (q ∷ qs))))) formed
    ∙ ap (λ (l : List X). behind list (all_parts (map F l))) (sym (first_left xs i x within is))

-- where one of them has no constant form
pub parts_stop : {X : Type 0} (F : X → Right) (list : List ConstantPart) (whole : Option (List ConstantPart)) (xs : List X) (i : ℕ) (x : X) → i < length xs → x ≡ get_or xs i x → None ≡ (F x).part
    → behind list (all_parts (map F (drop i xs))) ≡ whole → None ≡ whole
parts_stop {X = X} F list whole xs i x within is formed e =
    ap (λ (o : Option ConstantPart). behind list (and_then o (λ q. and_then (all_parts (map F (drop (i + 1) xs))) (λ qs. Some (q ∷ qs))))) formed
    ∙ ap (λ (l : List X). behind list (all_parts (map F l))) (sym (first_left xs i x within is))
    ∙ e

pub ruleset behinds = (behind_turn, behind_none, behind_one)
