-- Chains of operators from left to right.
use Rattle.std.proofs.Common.{◌≡◌, ℕ, ◌+◌, ◌<◌, List, ◌∷◌, map, drop, length, get_or, Option, sym, ap, ◌∙◌}
use Rattle.std.proofs.lemmas.List.{at_drop_more}
use Rattle.jc_types.specs.declared.constant.Constant.{Constant}
use Rattle.jc_types.specs.declared.constant.ConstantPart.{ConstantPart}
use Rattle.jc_types.specs.declared.constant.Op.{Op}
use Rattle.jc_folding.specs.Folding.{fold}
use Rattle.jc_exprs_parts_spec.specs.Constants.{Right, chained, from_some}

-- one turn of the loop over the operands of a chain
pub chained_turn : (F : ConstantPart → Right) (value new : Option Constant) (ps : List ConstantPart) (i : ℕ) (p : ConstantPart) (o : Op) (right : Option Constant) → i < length ps → p ≡ get_or ps i p → o ≡ (F p).op → right ≡ (F p).operand
    → new ≡ from_some value (λ x. from_some right (λ y. fold o x y)) → chained new (map F (drop (i + 1) ps)) ≡ chained value (map F (drop i ps))
chained_turn F value new ps i p o right within is op operand made =
    ap (λ (c : Option Constant). chained c (map F (drop (i + 1) ps))) made
    ∙ ap (λ (q : Op). chained (from_some value (λ x. from_some right (λ y. fold q x y))) (map F (drop (i + 1) ps))) op
    ∙ ap (λ (c : Option Constant). chained (from_some value (λ x. from_some c (λ y. fold (F p).op x y))) (map F (drop (i + 1) ps))) operand
    ∙ ap (λ (q : ConstantPart). chained value (map F (q ∷ drop (i + 1) ps))) is
    ∙ sym (at_drop_more (λ (l : List ConstantPart). chained value (map F l)) ps i p within)
