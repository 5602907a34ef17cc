-- The first offsets of types by their parts.
use Rattle.std.proofs.Common.{ap, ◌∙◌}
use Rattle.std.specs.Prelude.{◌≡◌, List, ℕ}
use Rattle.jc_tree.specs.declared.name.Ident.{Ident}
use Rattle.jc_tree.specs.declared.types.BaseTree.{BaseTree, BaseTree-F, fold_out-BaseTree, map-BaseTree, out-BaseTree}
use Rattle.jc_tree.specs.declared.types.BaseTree.TheVariants as anBaseTree
use Rattle.jc_tree.specs.declared.types.ClassTree.{ClassTree, fold-roll-ClassTree, fold_out-ClassTree, map-ClassTree, out-ClassTree, roll-ClassTree}
use Rattle.jc_tree.specs.declared.types.PrimitiveWord.{PrimitiveWord}
use Rattle.jc_tree.specs.declared.types.TypeArg.{TypeArg, TypeArg-F, fold_out-TypeArg, map-TypeArg, out-TypeArg}
use Rattle.jc_tree.specs.declared.types.TypeArg.TheVariants as anTypeArg
use Rattle.jc_tree.specs.declared.types.TypePart.{TypePart, fold-roll-TypePart, fold_out-TypePart, map-TypePart, out-TypePart, roll-TypePart}
use Rattle.jc_tree.specs.declared.types.TypeTree.{TypeTree, fold-roll-TypeTree, fold_out-TypeTree, map-TypeTree, out-TypeTree, roll-TypeTree}
use Rattle.jc_tree.specs.Offsets.{arg_first, base_first, class_first, first_offset_of_arg, first_offset_of_base, first_offset_of_class, first_offset_of_part, first_offset_of_type, part_first, type_first}

pub first_offset_of_base-out : (node : BaseTree) → first_offset_of_base node ≡ base_first (map-BaseTree BaseTree TypeArg ClassTree TypePart TypeTree ℕ ℕ ℕ ℕ ℕ first_offset_of_base first_offset_of_arg first_offset_of_class first_offset_of_part first_offset_of_type (out-BaseTree node))
unfolding first_offset_of_base first_offset_of_arg first_offset_of_class first_offset_of_part first_offset_of_type
first_offset_of_base-out node = fold_out-BaseTree ℕ ℕ ℕ ℕ ℕ base_first arg_first class_first part_first type_first node

first_offset_of_base-at : (node : BaseTree) (l : BaseTree-F BaseTree TypeArg ClassTree TypePart TypeTree) → out-BaseTree node ≡ l → first_offset_of_base node ≡ base_first (map-BaseTree BaseTree TypeArg ClassTree TypePart TypeTree ℕ ℕ ℕ ℕ ℕ first_offset_of_base first_offset_of_arg first_offset_of_class first_offset_of_part first_offset_of_type l)
first_offset_of_base-at node l e = first_offset_of_base-out node ∙ ap (λ (l : BaseTree-F BaseTree TypeArg ClassTree TypePart TypeTree). base_first (map-BaseTree BaseTree TypeArg ClassTree TypePart TypeTree ℕ ℕ ℕ ℕ ℕ first_offset_of_base first_offset_of_arg first_offset_of_class first_offset_of_part first_offset_of_type l)) e

pub first_offset_of_base-Primitive : (at : ℕ) (word : PrimitiveWord) → first_offset_of_base (anBaseTree.Primitive at word) ≡ at
first_offset_of_base-Primitive at word = first_offset_of_base-at (anBaseTree.Primitive at word) _ (anBaseTree.outs-Primitive at word)

pub first_offset_of_base-Class : (it : ClassTree) → first_offset_of_base (anBaseTree.Class it) ≡ first_offset_of_class it
first_offset_of_base-Class it = first_offset_of_base-at (anBaseTree.Class it) _ (anBaseTree.outs-Class it)

pub first_offset_of_arg-out : (node : TypeArg) → first_offset_of_arg node ≡ arg_first (map-TypeArg BaseTree TypeArg ClassTree TypePart TypeTree ℕ ℕ ℕ ℕ ℕ first_offset_of_base first_offset_of_arg first_offset_of_class first_offset_of_part first_offset_of_type (out-TypeArg node))
unfolding first_offset_of_base first_offset_of_arg first_offset_of_class first_offset_of_part first_offset_of_type
first_offset_of_arg-out node = fold_out-TypeArg ℕ ℕ ℕ ℕ ℕ base_first arg_first class_first part_first type_first node

first_offset_of_arg-at : (node : TypeArg) (l : TypeArg-F BaseTree TypeArg ClassTree TypePart TypeTree) → out-TypeArg node ≡ l → first_offset_of_arg node ≡ arg_first (map-TypeArg BaseTree TypeArg ClassTree TypePart TypeTree ℕ ℕ ℕ ℕ ℕ first_offset_of_base first_offset_of_arg first_offset_of_class first_offset_of_part first_offset_of_type l)
first_offset_of_arg-at node l e = first_offset_of_arg-out node ∙ ap (λ (l : TypeArg-F BaseTree TypeArg ClassTree TypePart TypeTree). arg_first (map-TypeArg BaseTree TypeArg ClassTree TypePart TypeTree ℕ ℕ ℕ ℕ ℕ first_offset_of_base first_offset_of_arg first_offset_of_class first_offset_of_part first_offset_of_type l)) e

pub first_offset_of_arg-Exact : (it : TypeTree) → first_offset_of_arg (anTypeArg.Exact it) ≡ first_offset_of_type it
first_offset_of_arg-Exact it = first_offset_of_arg-at (anTypeArg.Exact it) _ (anTypeArg.outs-Exact it)

pub first_offset_of_arg-Any : (at : ℕ) → first_offset_of_arg (anTypeArg.Any at) ≡ at
first_offset_of_arg-Any at = first_offset_of_arg-at (anTypeArg.Any at) _ (anTypeArg.outs-Any at)

pub first_offset_of_arg-Extends : (at : ℕ) (bound : TypeTree) → first_offset_of_arg (anTypeArg.Extends at bound) ≡ at
first_offset_of_arg-Extends at bound = first_offset_of_arg-at (anTypeArg.Extends at bound) _ (anTypeArg.outs-Extends at bound)

pub first_offset_of_arg-Super : (at : ℕ) (bound : TypeTree) → first_offset_of_arg (anTypeArg.Super at bound) ≡ at
first_offset_of_arg-Super at bound = first_offset_of_arg-at (anTypeArg.Super at bound) _ (anTypeArg.outs-Super at bound)

pub first_offset_of_class-out : (node : ClassTree) → first_offset_of_class node ≡ class_first (map-ClassTree BaseTree TypeArg ClassTree TypePart TypeTree ℕ ℕ ℕ ℕ ℕ first_offset_of_base first_offset_of_arg first_offset_of_class first_offset_of_part first_offset_of_type (out-ClassTree node))
unfolding first_offset_of_base first_offset_of_arg first_offset_of_class first_offset_of_part first_offset_of_type
first_offset_of_class-out node = fold_out-ClassTree ℕ ℕ ℕ ℕ ℕ base_first arg_first class_first part_first type_first node

pub first_offset_of_class-parts : (node : ClassTree) → first_offset_of_class node ≡ first_offset_of_part (out-ClassTree node).first
first_offset_of_class-parts node = first_offset_of_class-out node

pub first_offset_of_class-made : (first : TypePart) (more : List TypePart) → first_offset_of_class (roll-ClassTree (record { first = first; more = more })) ≡ first_offset_of_part first
unfolding first_offset_of_base first_offset_of_arg first_offset_of_class first_offset_of_part first_offset_of_type
first_offset_of_class-made first more = fold-roll-ClassTree ℕ ℕ ℕ ℕ ℕ base_first arg_first class_first part_first type_first (record { first = first; more = more })

pub first_offset_of_part-out : (node : TypePart) → first_offset_of_part node ≡ part_first (map-TypePart BaseTree TypeArg ClassTree TypePart TypeTree ℕ ℕ ℕ ℕ ℕ first_offset_of_base first_offset_of_arg first_offset_of_class first_offset_of_part first_offset_of_type (out-TypePart node))
unfolding first_offset_of_base first_offset_of_arg first_offset_of_class first_offset_of_part first_offset_of_type
first_offset_of_part-out node = fold_out-TypePart ℕ ℕ ℕ ℕ ℕ base_first arg_first class_first part_first type_first node

pub first_offset_of_part-parts : (node : TypePart) → first_offset_of_part node ≡ (out-TypePart node).name.at
first_offset_of_part-parts node = first_offset_of_part-out node

pub first_offset_of_part-made : (name : Ident) (args : List TypeArg) → first_offset_of_part (roll-TypePart (record { name = name; args = args })) ≡ name.at
unfolding first_offset_of_base first_offset_of_arg first_offset_of_class first_offset_of_part first_offset_of_type
first_offset_of_part-made name args = fold-roll-TypePart ℕ ℕ ℕ ℕ ℕ base_first arg_first class_first part_first type_first (record { name = name; args = args })

pub first_offset_of_type-out : (node : TypeTree) → first_offset_of_type node ≡ type_first (map-TypeTree BaseTree TypeArg ClassTree TypePart TypeTree ℕ ℕ ℕ ℕ ℕ first_offset_of_base first_offset_of_arg first_offset_of_class first_offset_of_part first_offset_of_type (out-TypeTree node))
unfolding first_offset_of_base first_offset_of_arg first_offset_of_class first_offset_of_part first_offset_of_type
first_offset_of_type-out node = fold_out-TypeTree ℕ ℕ ℕ ℕ ℕ base_first arg_first class_first part_first type_first node

pub first_offset_of_type-parts : (node : TypeTree) → first_offset_of_type node ≡ first_offset_of_base (out-TypeTree node).base
first_offset_of_type-parts node = first_offset_of_type-out node

pub first_offset_of_type-made : (base : BaseTree) (dims : ℕ) → first_offset_of_type (roll-TypeTree (record { base = base; dims = dims })) ≡ first_offset_of_base base
unfolding first_offset_of_base first_offset_of_arg first_offset_of_class first_offset_of_part first_offset_of_type
first_offset_of_type-made base dims = fold-roll-TypeTree ℕ ℕ ℕ ℕ ℕ base_first arg_first class_first part_first type_first (record { base = base; dims = dims })
