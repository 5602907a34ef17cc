-- What written types mean, by their parts.
use Rattle.std.proofs.Common.{◌≡◌, ℕ, map, ap, ◌∙◌}
use Rattle.jc_tree.specs.declared.types.BaseTree.{BaseTree, BaseTree-F, out-BaseTree, map-BaseTree, fold_out-BaseTree}
use Rattle.jc_tree.specs.declared.types.BaseTree.TheVariants as anBaseTree
use Rattle.jc_tree.specs.declared.types.TypeArg.{TypeArg, TypeArg-F, out-TypeArg, map-TypeArg, fold_out-TypeArg}
use Rattle.jc_tree.specs.declared.types.TypeArg.TheVariants as anTypeArg
use Rattle.jc_tree.specs.declared.types.ClassTree.{ClassTree, out-ClassTree, map-ClassTree, fold_out-ClassTree}
use Rattle.jc_tree.specs.declared.types.TypePart.{TypePart, out-TypePart, map-TypePart, fold_out-TypePart}
use Rattle.jc_tree.specs.declared.types.TypeTree.{TypeTree, out-TypeTree, map-TypeTree, fold_out-TypeTree}
use Rattle.jc_tree.specs.declared.types.PrimitiveWord.{PrimitiveWord}
use Rattle.jc_declares.specs.declared.heads.Heads.{Heads}
use Rattle.jc_declares.specs.Looking.{Knowledge}
use Rattle.jc_declares.specs.Writing.{Reading, Wrote, WroteArg, WrotePart, base_wrote, arg_wrote, class_tree_wrote, part_wrote, type_wrote, wrote_base, wrote_arg, wrote_class, wrote_part, wrote_type}

wrote_base-out : (H : Heads) (K : Knowledge) (r : Reading) (node : BaseTree) → wrote_base H K r node ≡ base_wrote (map-BaseTree BaseTree TypeArg ClassTree TypePart TypeTree Wrote WroteArg Wrote WrotePart Wrote (wrote_base H K r) (wrote_arg H K r) (wrote_class H K r) (wrote_part H K r) (wrote_type H K r) (out-BaseTree node))
unfolding wrote_base wrote_arg wrote_class wrote_part wrote_type
wrote_base-out H K r node = fold_out-BaseTree Wrote WroteArg Wrote WrotePart Wrote base_wrote arg_wrote (class_tree_wrote H K r) part_wrote type_wrote node

wrote_base-at : (H : Heads) (K : Knowledge) (r : Reading) (node : BaseTree) (l : BaseTree-F BaseTree TypeArg ClassTree TypePart TypeTree) → out-BaseTree node ≡ l → wrote_base H K r node ≡ base_wrote (map-BaseTree BaseTree TypeArg ClassTree TypePart TypeTree Wrote WroteArg Wrote WrotePart Wrote (wrote_base H K r) (wrote_arg H K r) (wrote_class H K r) (wrote_part H K r) (wrote_type H K r) l)
wrote_base-at H K r node l e = wrote_base-out H K r node ∙ ap (λ (l : BaseTree-F BaseTree TypeArg ClassTree TypePart TypeTree). base_wrote (map-BaseTree BaseTree TypeArg ClassTree TypePart TypeTree Wrote WroteArg Wrote WrotePart Wrote (wrote_base H K r) (wrote_arg H K r) (wrote_class H K r) (wrote_part H K r) (wrote_type H K r) l)) e

pub wrote_base-Primitive : (H : Heads) (K : Knowledge) (r : Reading) (at : ℕ) (word : PrimitiveWord) → wrote_base H K r (anBaseTree.Primitive at word) ≡ base_wrote (BaseTree-F.Primitive at word)
wrote_base-Primitive H K r at word = wrote_base-at H K r (anBaseTree.Primitive at word) _ (anBaseTree.outs-Primitive at word)

pub wrote_base-Class : (H : Heads) (K : Knowledge) (r : Reading) (it : ClassTree) → wrote_base H K r (anBaseTree.Class it) ≡ base_wrote (BaseTree-F.Class (wrote_class H K r it))
wrote_base-Class H K r it = wrote_base-at H K r (anBaseTree.Class it) _ (anBaseTree.outs-Class it)

wrote_arg-out : (H : Heads) (K : Knowledge) (r : Reading) (node : TypeArg) → wrote_arg H K r node ≡ arg_wrote (map-TypeArg BaseTree TypeArg ClassTree TypePart TypeTree Wrote WroteArg Wrote WrotePart Wrote (wrote_base H K r) (wrote_arg H K r) (wrote_class H K r) (wrote_part H K r) (wrote_type H K r) (out-TypeArg node))
unfolding wrote_base wrote_arg wrote_class wrote_part wrote_type
wrote_arg-out H K r node = fold_out-TypeArg Wrote WroteArg Wrote WrotePart Wrote base_wrote arg_wrote (class_tree_wrote H K r) part_wrote type_wrote node

wrote_arg-at : (H : Heads) (K : Knowledge) (r : Reading) (node : TypeArg) (l : TypeArg-F BaseTree TypeArg ClassTree TypePart TypeTree) → out-TypeArg node ≡ l → wrote_arg H K r node ≡ arg_wrote (map-TypeArg BaseTree TypeArg ClassTree TypePart TypeTree Wrote WroteArg Wrote WrotePart Wrote (wrote_base H K r) (wrote_arg H K r) (wrote_class H K r) (wrote_part H K r) (wrote_type H K r) l)
wrote_arg-at H K r node l e = wrote_arg-out H K r node ∙ ap (λ (l : TypeArg-F BaseTree TypeArg ClassTree TypePart TypeTree). arg_wrote (map-TypeArg BaseTree TypeArg ClassTree TypePart TypeTree Wrote WroteArg Wrote WrotePart Wrote (wrote_base H K r) (wrote_arg H K r) (wrote_class H K r) (wrote_part H K r) (wrote_type H K r) l)) e

pub wrote_arg-Exact : (H : Heads) (K : Knowledge) (r : Reading) (it : TypeTree) → wrote_arg H K r (anTypeArg.Exact it) ≡ arg_wrote (TypeArg-F.Exact (wrote_type H K r it))
wrote_arg-Exact H K r it = wrote_arg-at H K r (anTypeArg.Exact it) _ (anTypeArg.outs-Exact it)

pub wrote_arg-Any : (H : Heads) (K : Knowledge) (r : Reading) (at : ℕ) → wrote_arg H K r (anTypeArg.Any at) ≡ arg_wrote (TypeArg-F.Any at)
wrote_arg-Any H K r at = wrote_arg-at H K r (anTypeArg.Any at) _ (anTypeArg.outs-Any at)

pub wrote_arg-Extends : (H : Heads) (K : Knowledge) (r : Reading) (at : ℕ) (bound : TypeTree) → wrote_arg H K r (anTypeArg.Extends at bound) ≡ arg_wrote (TypeArg-F.Extends at (wrote_type H K r bound))
wrote_arg-Extends H K r at bound = wrote_arg-at H K r (anTypeArg.Extends at bound) _ (anTypeArg.outs-Extends at bound)

pub wrote_arg-Super : (H : Heads) (K : Knowledge) (r : Reading) (at : ℕ) (bound : TypeTree) → wrote_arg H K r (anTypeArg.Super at bound) ≡ arg_wrote (TypeArg-F.Super at (wrote_type H K r bound))
wrote_arg-Super H K r at bound = wrote_arg-at H K r (anTypeArg.Super at bound) _ (anTypeArg.outs-Super at bound)

wrote_class-out : (H : Heads) (K : Knowledge) (r : Reading) (node : ClassTree) → wrote_class H K r node ≡ class_tree_wrote H K r (map-ClassTree BaseTree TypeArg ClassTree TypePart TypeTree Wrote WroteArg Wrote WrotePart Wrote (wrote_base H K r) (wrote_arg H K r) (wrote_class H K r) (wrote_part H K r) (wrote_type H K r) (out-ClassTree node))
unfolding wrote_base wrote_arg wrote_class wrote_part wrote_type
wrote_class-out H K r node = fold_out-ClassTree Wrote WroteArg Wrote WrotePart Wrote base_wrote arg_wrote (class_tree_wrote H K r) part_wrote type_wrote node

pub wrote_class-parts : (H : Heads) (K : Knowledge) (r : Reading) (node : ClassTree) → wrote_class H K r node ≡ class_tree_wrote H K r (record { first = (wrote_part H K r (out-ClassTree node).first); more = (map (wrote_part H K r) (out-ClassTree node).more) })
wrote_class-parts H K r node = wrote_class-out H K r node

wrote_part-out : (H : Heads) (K : Knowledge) (r : Reading) (node : TypePart) → wrote_part H K r node ≡ part_wrote (map-TypePart BaseTree TypeArg ClassTree TypePart TypeTree Wrote WroteArg Wrote WrotePart Wrote (wrote_base H K r) (wrote_arg H K r) (wrote_class H K r) (wrote_part H K r) (wrote_type H K r) (out-TypePart node))
unfolding wrote_base wrote_arg wrote_class wrote_part wrote_type
wrote_part-out H K r node = fold_out-TypePart Wrote WroteArg Wrote WrotePart Wrote base_wrote arg_wrote (class_tree_wrote H K r) part_wrote type_wrote node

pub wrote_part-parts : (H : Heads) (K : Knowledge) (r : Reading) (node : TypePart) → wrote_part H K r node ≡ part_wrote (record { name = (out-TypePart node).name; args = (map (wrote_arg H K r) (out-TypePart node).args) })
wrote_part-parts H K r node = wrote_part-out H K r node

wrote_type-out : (H : Heads) (K : Knowledge) (r : Reading) (node : TypeTree) → wrote_type H K r node ≡ type_wrote (map-TypeTree BaseTree TypeArg ClassTree TypePart TypeTree Wrote WroteArg Wrote WrotePart Wrote (wrote_base H K r) (wrote_arg H K r) (wrote_class H K r) (wrote_part H K r) (wrote_type H K r) (out-TypeTree node))
unfolding wrote_base wrote_arg wrote_class wrote_part wrote_type
wrote_type-out H K r node = fold_out-TypeTree Wrote WroteArg Wrote WrotePart Wrote base_wrote arg_wrote (class_tree_wrote H K r) part_wrote type_wrote node

pub wrote_type-parts : (H : Heads) (K : Knowledge) (r : Reading) (node : TypeTree) → wrote_type H K r node ≡ type_wrote (record { base = (wrote_base H K r (out-TypeTree node).base); dims = (out-TypeTree node).dims })
wrote_type-parts H K r node = wrote_type-out H K r node

pub ruleset parts = (wrote_base-Primitive, wrote_base-Class, wrote_arg-Exact, wrote_arg-Any, wrote_arg-Extends, wrote_arg-Super, wrote_class-parts, wrote_part-parts, wrote_type-parts)
