-- Two structs with the same parts are the same.
use Rattle.std.proofs.Common.{◌≡◌, List, sym, ap, ◌∙◌}
use Rattle.jc_tree.specs.declared.types.TypePart.{TypePart}
use Rattle.jc_tree.specs.declared.types.ClassTree.{ClassTree, roll-ClassTree, out-ClassTree, roll-out-ClassTree}

pub class_made : (a b : ClassTree) → (out-ClassTree a).first ≡ (out-ClassTree b).first → (out-ClassTree a).more ≡ (out-ClassTree b).more → a ≡ b
class_made a b e f =
    sym (roll-out-ClassTree a)
    ∙ ap (λ (x : TypePart). roll-ClassTree (record { first = x; more = (out-ClassTree a).more })) e
    ∙ ap (λ (x : List TypePart). roll-ClassTree (record { first = (out-ClassTree b).first; more = x })) f
    ∙ roll-out-ClassTree b
