-- The heights of types by their parts.
use Rattle.std.proofs.Common.{ap, ◌∙◌}
use Rattle.std.specs.Prelude.{◌≡◌, List, map, max, suc, ℕ}
use Rattle.jc_tree.specs.declared.name.Ident.{Ident}
use Rattle.jc_tree.specs.declared.types.BaseTree.{BaseTree, BaseTree-F, fold_out-BaseTree, map-BaseTree, out-BaseTree}
use Rattle.jc_tree.specs.declared.types.BaseTree.TheVariants as anBaseTree
use Rattle.jc_tree.specs.declared.types.ClassTree.{ClassTree, fold-roll-ClassTree, fold_out-ClassTree, map-ClassTree, out-ClassTree, roll-ClassTree}
use Rattle.jc_tree.specs.declared.types.PrimitiveWord.{PrimitiveWord}
use Rattle.jc_tree.specs.declared.types.TypeArg.{TypeArg, TypeArg-F, fold_out-TypeArg, map-TypeArg, out-TypeArg}
use Rattle.jc_tree.specs.declared.types.TypeArg.TheVariants as anTypeArg
use Rattle.jc_tree.specs.declared.types.TypePart.{TypePart, fold-roll-TypePart, fold_out-TypePart, map-TypePart, out-TypePart, roll-TypePart}
use Rattle.jc_tree.specs.declared.types.TypeTree.{TypeTree, fold-roll-TypeTree, fold_out-TypeTree, map-TypeTree, out-TypeTree, roll-TypeTree}
use Rattle.jc_tree.specs.Heights.{arg_height, arg_step, base_height, base_step, class_height, class_step, most, part_height, part_step, type_height, type_step}

pub base_height-out : (node : BaseTree) → base_height node ≡ base_step (map-BaseTree BaseTree TypeArg ClassTree TypePart TypeTree ℕ ℕ ℕ ℕ ℕ base_height arg_height class_height part_height type_height (out-BaseTree node))
unfolding base_height arg_height class_height part_height type_height
base_height-out node = fold_out-BaseTree ℕ ℕ ℕ ℕ ℕ base_step arg_step class_step part_step type_step node

base_height-at : (node : BaseTree) (l : BaseTree-F BaseTree TypeArg ClassTree TypePart TypeTree) → out-BaseTree node ≡ l → base_height node ≡ base_step (map-BaseTree BaseTree TypeArg ClassTree TypePart TypeTree ℕ ℕ ℕ ℕ ℕ base_height arg_height class_height part_height type_height l)
base_height-at node l e = base_height-out node ∙ ap (λ (l : BaseTree-F BaseTree TypeArg ClassTree TypePart TypeTree). base_step (map-BaseTree BaseTree TypeArg ClassTree TypePart TypeTree ℕ ℕ ℕ ℕ ℕ base_height arg_height class_height part_height type_height l)) e

pub base_height-Primitive : (at : ℕ) (word : PrimitiveWord) → base_height (anBaseTree.Primitive at word) ≡ 0
base_height-Primitive at word = base_height-at (anBaseTree.Primitive at word) _ (anBaseTree.outs-Primitive at word)

pub base_height-Class : (it : ClassTree) → base_height (anBaseTree.Class it) ≡ class_height it
base_height-Class it = base_height-at (anBaseTree.Class it) _ (anBaseTree.outs-Class it)

pub arg_height-out : (node : TypeArg) → arg_height node ≡ arg_step (map-TypeArg BaseTree TypeArg ClassTree TypePart TypeTree ℕ ℕ ℕ ℕ ℕ base_height arg_height class_height part_height type_height (out-TypeArg node))
unfolding base_height arg_height class_height part_height type_height
arg_height-out node = fold_out-TypeArg ℕ ℕ ℕ ℕ ℕ base_step arg_step class_step part_step type_step node

arg_height-at : (node : TypeArg) (l : TypeArg-F BaseTree TypeArg ClassTree TypePart TypeTree) → out-TypeArg node ≡ l → arg_height node ≡ arg_step (map-TypeArg BaseTree TypeArg ClassTree TypePart TypeTree ℕ ℕ ℕ ℕ ℕ base_height arg_height class_height part_height type_height l)
arg_height-at node l e = arg_height-out node ∙ ap (λ (l : TypeArg-F BaseTree TypeArg ClassTree TypePart TypeTree). arg_step (map-TypeArg BaseTree TypeArg ClassTree TypePart TypeTree ℕ ℕ ℕ ℕ ℕ base_height arg_height class_height part_height type_height l)) e

pub arg_height-Exact : (it : TypeTree) → arg_height (anTypeArg.Exact it) ≡ type_height it
arg_height-Exact it = arg_height-at (anTypeArg.Exact it) _ (anTypeArg.outs-Exact it)

pub arg_height-Any : (at : ℕ) → arg_height (anTypeArg.Any at) ≡ 0
arg_height-Any at = arg_height-at (anTypeArg.Any at) _ (anTypeArg.outs-Any at)

pub arg_height-Extends : (at : ℕ) (bound : TypeTree) → arg_height (anTypeArg.Extends at bound) ≡ type_height bound
arg_height-Extends at bound = arg_height-at (anTypeArg.Extends at bound) _ (anTypeArg.outs-Extends at bound)

pub arg_height-Super : (at : ℕ) (bound : TypeTree) → arg_height (anTypeArg.Super at bound) ≡ type_height bound
arg_height-Super at bound = arg_height-at (anTypeArg.Super at bound) _ (anTypeArg.outs-Super at bound)

pub class_height-out : (node : ClassTree) → class_height node ≡ class_step (map-ClassTree BaseTree TypeArg ClassTree TypePart TypeTree ℕ ℕ ℕ ℕ ℕ base_height arg_height class_height part_height type_height (out-ClassTree node))
unfolding base_height arg_height class_height part_height type_height
class_height-out node = fold_out-ClassTree ℕ ℕ ℕ ℕ ℕ base_step arg_step class_step part_step type_step node

pub class_height-parts : (node : ClassTree) → class_height node ≡ max (part_height (out-ClassTree node).first) (most (map part_height (out-ClassTree node).more))
class_height-parts node = class_height-out node

pub class_height-made : (first : TypePart) (more : List TypePart) → class_height (roll-ClassTree (record { first = first; more = more })) ≡ max (part_height first) (most (map part_height more))
unfolding base_height arg_height class_height part_height type_height
class_height-made first more = fold-roll-ClassTree ℕ ℕ ℕ ℕ ℕ base_step arg_step class_step part_step type_step (record { first = first; more = more })

pub part_height-out : (node : TypePart) → part_height node ≡ part_step (map-TypePart BaseTree TypeArg ClassTree TypePart TypeTree ℕ ℕ ℕ ℕ ℕ base_height arg_height class_height part_height type_height (out-TypePart node))
unfolding base_height arg_height class_height part_height type_height
part_height-out node = fold_out-TypePart ℕ ℕ ℕ ℕ ℕ base_step arg_step class_step part_step type_step node

pub part_height-parts : (node : TypePart) → part_height node ≡ most (map arg_height (out-TypePart node).args)
part_height-parts node = part_height-out node

pub part_height-made : (name : Ident) (args : List TypeArg) → part_height (roll-TypePart (record { name = name; args = args })) ≡ most (map arg_height args)
unfolding base_height arg_height class_height part_height type_height
part_height-made name args = fold-roll-TypePart ℕ ℕ ℕ ℕ ℕ base_step arg_step class_step part_step type_step (record { name = name; args = args })

pub type_height-out : (node : TypeTree) → type_height node ≡ type_step (map-TypeTree BaseTree TypeArg ClassTree TypePart TypeTree ℕ ℕ ℕ ℕ ℕ base_height arg_height class_height part_height type_height (out-TypeTree node))
unfolding base_height arg_height class_height part_height type_height
type_height-out node = fold_out-TypeTree ℕ ℕ ℕ ℕ ℕ base_step arg_step class_step part_step type_step node

pub type_height-parts : (node : TypeTree) → type_height node ≡ suc (base_height (out-TypeTree node).base)
type_height-parts node = type_height-out node

pub type_height-made : (base : BaseTree) (dims : ℕ) → type_height (roll-TypeTree (record { base = base; dims = dims })) ≡ suc (base_height base)
unfolding base_height arg_height class_height part_height type_height
type_height-made base dims = fold-roll-TypeTree ℕ ℕ ℕ ℕ ℕ base_step arg_step class_step part_step type_step (record { base = base; dims = dims })
