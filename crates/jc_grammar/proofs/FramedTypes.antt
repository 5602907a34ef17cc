-- Types put their tokens before those that follow.
use Rattle.std.proofs.Common.{subst}
use Rattle.std.specs.Prelude.{List}
use Rattle.jc_lexer.specs.declared.token.Key.TheVariants as key_of
use Rattle.jc_lexer.specs.declared.token.Sign.TheVariants as sign_of
use Rattle.jc_tree.specs.declared.types.BaseTree.{BaseTree, BaseTree-F, fold-roll-BaseTree, ind-BaseTree, map-BaseTree, roll-BaseTree}
use Rattle.jc_tree.specs.declared.types.ClassTree.{ClassTree, ClassTree-F, fold-roll-ClassTree, ind-ClassTree, map-ClassTree, roll-ClassTree}
use Rattle.jc_tree.specs.declared.types.TypeArg.{TypeArg, TypeArg-F, fold-roll-TypeArg, ind-TypeArg, map-TypeArg, roll-TypeArg}
use Rattle.jc_tree.specs.declared.types.TypePart.{TypePart, TypePart-F, fold-roll-TypePart, map-TypePart, roll-TypePart}
use Rattle.jc_tree.specs.declared.types.TypeTree.{TypeTree, TypeTree-F, fold-roll-TypeTree, ind-TypeTree, map-TypeTree, roll-TypeTree}
use Rattle.jc_grammar.proofs.Framed.{Frames, after_dots_frames, all_frame, all_given, angled_frames, brackets_frame, frames_along, seq, token}
use Rattle.jc_grammar.specs.Told.{Spelled, ident, key, key_at, sign_at}
use Rattle.jc_grammar.specs.Types.{arg_tokens, arg_told, args_tokens, base_tokens, base_told, class_tokens, class_told, part_tokens, part_told, primitive_key, type_tokens, type_told}

abbrev SomeBaseTree : Type 0
SomeBaseTree = (x : BaseTree) × Frames (base_tokens x)

abbrev SomeTypeArg : Type 0
SomeTypeArg = (x : TypeArg) × Frames (arg_tokens x)

abbrev SomeClassTree : Type 0
SomeClassTree = (x : ClassTree) × Frames (class_tokens x)

abbrev SomeTypePart : Type 0
SomeTypePart = (x : TypePart) × Frames (part_tokens x)

abbrev SomeTypeTree : Type 0
SomeTypeTree = (x : TypeTree) × Frames (type_tokens x)

abbrev plain_base : BaseTree-F SomeBaseTree SomeTypeArg SomeClassTree SomeTypePart SomeTypeTree → BaseTree-F BaseTree TypeArg ClassTree TypePart TypeTree
plain_base y = map-BaseTree SomeBaseTree SomeTypeArg SomeClassTree SomeTypePart SomeTypeTree BaseTree TypeArg ClassTree TypePart TypeTree (λ z. z.0) (λ z. z.0) (λ z. z.0) (λ z. z.0) (λ z. z.0) y

base_layer : (y : BaseTree-F SomeBaseTree SomeTypeArg SomeClassTree SomeTypePart SomeTypeTree) → Frames (base_told (map-BaseTree BaseTree TypeArg ClassTree TypePart TypeTree Spelled Spelled Spelled Spelled Spelled base_tokens arg_tokens class_tokens part_tokens type_tokens (plain_base y)))
base_layer (BaseTree-F.Primitive at word) = token (key_at (primitive_key word) at)
base_layer (BaseTree-F.Class class) = class.1

base_rolled : (y : BaseTree-F SomeBaseTree SomeTypeArg SomeClassTree SomeTypePart SomeTypeTree) → Frames (base_tokens (roll-BaseTree (plain_base y)))
unfolding base_tokens arg_tokens class_tokens part_tokens type_tokens
base_rolled y = frames_along (fold-roll-BaseTree Spelled Spelled Spelled Spelled Spelled base_told arg_told class_told part_told type_told (plain_base y)) (base_layer y)

abbrev plain_arg : TypeArg-F SomeBaseTree SomeTypeArg SomeClassTree SomeTypePart SomeTypeTree → TypeArg-F BaseTree TypeArg ClassTree TypePart TypeTree
plain_arg y = map-TypeArg SomeBaseTree SomeTypeArg SomeClassTree SomeTypePart SomeTypeTree BaseTree TypeArg ClassTree TypePart TypeTree (λ z. z.0) (λ z. z.0) (λ z. z.0) (λ z. z.0) (λ z. z.0) y

arg_layer : (y : TypeArg-F SomeBaseTree SomeTypeArg SomeClassTree SomeTypePart SomeTypeTree) → Frames (arg_told (map-TypeArg BaseTree TypeArg ClassTree TypePart TypeTree Spelled Spelled Spelled Spelled Spelled base_tokens arg_tokens class_tokens part_tokens type_tokens (plain_arg y)))
arg_layer (TypeArg-F.Exact ty) = ty.1
arg_layer (TypeArg-F.Any at) = token (sign_at sign_of.Question at)
arg_layer (TypeArg-F.Extends at bound) = seq (token (sign_at sign_of.Question at)) (seq (token (key key_of.Extends)) bound.1)
arg_layer (TypeArg-F.Super at bound) = seq (token (sign_at sign_of.Question at)) (seq (token (key key_of.Super)) bound.1)

arg_rolled : (y : TypeArg-F SomeBaseTree SomeTypeArg SomeClassTree SomeTypePart SomeTypeTree) → Frames (arg_tokens (roll-TypeArg (plain_arg y)))
unfolding base_tokens arg_tokens class_tokens part_tokens type_tokens
arg_rolled y = frames_along (fold-roll-TypeArg Spelled Spelled Spelled Spelled Spelled base_told arg_told class_told part_told type_told (plain_arg y)) (arg_layer y)

abbrev plain_class : ClassTree-F SomeBaseTree SomeTypeArg SomeClassTree SomeTypePart SomeTypeTree → ClassTree-F BaseTree TypeArg ClassTree TypePart TypeTree
plain_class y = map-ClassTree SomeBaseTree SomeTypeArg SomeClassTree SomeTypePart SomeTypeTree BaseTree TypeArg ClassTree TypePart TypeTree (λ z. z.0) (λ z. z.0) (λ z. z.0) (λ z. z.0) (λ z. z.0) y

class_layer : (y : ClassTree-F SomeBaseTree SomeTypeArg SomeClassTree SomeTypePart SomeTypeTree) → Frames (class_told (map-ClassTree BaseTree TypeArg ClassTree TypePart TypeTree Spelled Spelled Spelled Spelled Spelled base_tokens arg_tokens class_tokens part_tokens type_tokens (plain_class y)))
class_layer y = seq y.first.1 (after_dots_frames (all_given part_tokens y.more))

class_rolled : (y : ClassTree-F SomeBaseTree SomeTypeArg SomeClassTree SomeTypePart SomeTypeTree) → Frames (class_tokens (roll-ClassTree (plain_class y)))
unfolding base_tokens arg_tokens class_tokens part_tokens type_tokens
class_rolled y = frames_along (fold-roll-ClassTree Spelled Spelled Spelled Spelled Spelled base_told arg_told class_told part_told type_told (plain_class y)) (class_layer y)

abbrev plain_part : TypePart-F SomeBaseTree SomeTypeArg SomeClassTree SomeTypePart SomeTypeTree → TypePart-F BaseTree TypeArg ClassTree TypePart TypeTree
plain_part y = map-TypePart SomeBaseTree SomeTypeArg SomeClassTree SomeTypePart SomeTypeTree BaseTree TypeArg ClassTree TypePart TypeTree (λ z. z.0) (λ z. z.0) (λ z. z.0) (λ z. z.0) (λ z. z.0) y

part_layer : (y : TypePart-F SomeBaseTree SomeTypeArg SomeClassTree SomeTypePart SomeTypeTree) → Frames (part_told (map-TypePart BaseTree TypeArg ClassTree TypePart TypeTree Spelled Spelled Spelled Spelled Spelled base_tokens arg_tokens class_tokens part_tokens type_tokens (plain_part y)))
part_layer y = seq (token (ident y.name)) (angled_frames (all_given arg_tokens y.args))

part_rolled : (y : TypePart-F SomeBaseTree SomeTypeArg SomeClassTree SomeTypePart SomeTypeTree) → Frames (part_tokens (roll-TypePart (plain_part y)))
unfolding base_tokens arg_tokens class_tokens part_tokens type_tokens
part_rolled y = frames_along (fold-roll-TypePart Spelled Spelled Spelled Spelled Spelled base_told arg_told class_told part_told type_told (plain_part y)) (part_layer y)

abbrev plain_type : TypeTree-F SomeBaseTree SomeTypeArg SomeClassTree SomeTypePart SomeTypeTree → TypeTree-F BaseTree TypeArg ClassTree TypePart TypeTree
plain_type y = map-TypeTree SomeBaseTree SomeTypeArg SomeClassTree SomeTypePart SomeTypeTree BaseTree TypeArg ClassTree TypePart TypeTree (λ z. z.0) (λ z. z.0) (λ z. z.0) (λ z. z.0) (λ z. z.0) y

type_layer : (y : TypeTree-F SomeBaseTree SomeTypeArg SomeClassTree SomeTypePart SomeTypeTree) → Frames (type_told (map-TypeTree BaseTree TypeArg ClassTree TypePart TypeTree Spelled Spelled Spelled Spelled Spelled base_tokens arg_tokens class_tokens part_tokens type_tokens (plain_type y)))
type_layer y = seq y.base.1 (brackets_frame y.dims)

type_rolled : (y : TypeTree-F SomeBaseTree SomeTypeArg SomeClassTree SomeTypePart SomeTypeTree) → Frames (type_tokens (roll-TypeTree (plain_type y)))
unfolding base_tokens arg_tokens class_tokens part_tokens type_tokens
type_rolled y = frames_along (fold-roll-TypeTree Spelled Spelled Spelled Spelled Spelled base_told arg_told class_told part_told type_told (plain_type y)) (type_layer y)

pub base_frames : (x : BaseTree) → Frames (base_tokens x)
base_frames = ind-BaseTree (λ x. Frames (base_tokens x)) (λ x. Frames (arg_tokens x)) (λ x. Frames (class_tokens x)) (λ x. Frames (part_tokens x)) (λ x. Frames (type_tokens x))
    (λ x y is. subst (λ (x : BaseTree-F BaseTree TypeArg ClassTree TypePart TypeTree). Frames (base_tokens (roll-BaseTree x))) is (base_rolled y))
    (λ x y is. subst (λ (x : TypeArg-F BaseTree TypeArg ClassTree TypePart TypeTree). Frames (arg_tokens (roll-TypeArg x))) is (arg_rolled y))
    (λ x y is. subst (λ (x : ClassTree-F BaseTree TypeArg ClassTree TypePart TypeTree). Frames (class_tokens (roll-ClassTree x))) is (class_rolled y))
    (λ x y is. subst (λ (x : TypePart-F BaseTree TypeArg ClassTree TypePart TypeTree). Frames (part_tokens (roll-TypePart x))) is (part_rolled y))
    (λ x y is. subst (λ (x : TypeTree-F BaseTree TypeArg ClassTree TypePart TypeTree). Frames (type_tokens (roll-TypeTree x))) is (type_rolled y))

pub arg_frames : (x : TypeArg) → Frames (arg_tokens x)
arg_frames = ind-TypeArg (λ x. Frames (base_tokens x)) (λ x. Frames (arg_tokens x)) (λ x. Frames (class_tokens x)) (λ x. Frames (part_tokens x)) (λ x. Frames (type_tokens x))
    (λ x y is. subst (λ (x : BaseTree-F BaseTree TypeArg ClassTree TypePart TypeTree). Frames (base_tokens (roll-BaseTree x))) is (base_rolled y))
    (λ x y is. subst (λ (x : TypeArg-F BaseTree TypeArg ClassTree TypePart TypeTree). Frames (arg_tokens (roll-TypeArg x))) is (arg_rolled y))
    (λ x y is. subst (λ (x : ClassTree-F BaseTree TypeArg ClassTree TypePart TypeTree). Frames (class_tokens (roll-ClassTree x))) is (class_rolled y))
    (λ x y is. subst (λ (x : TypePart-F BaseTree TypeArg ClassTree TypePart TypeTree). Frames (part_tokens (roll-TypePart x))) is (part_rolled y))
    (λ x y is. subst (λ (x : TypeTree-F BaseTree TypeArg ClassTree TypePart TypeTree). Frames (type_tokens (roll-TypeTree x))) is (type_rolled y))

pub class_frames : (x : ClassTree) → Frames (class_tokens x)
class_frames = ind-ClassTree (λ x. Frames (base_tokens x)) (λ x. Frames (arg_tokens x)) (λ x. Frames (class_tokens x)) (λ x. Frames (part_tokens x)) (λ x. Frames (type_tokens x))
    (λ x y is. subst (λ (x : BaseTree-F BaseTree TypeArg ClassTree TypePart TypeTree). Frames (base_tokens (roll-BaseTree x))) is (base_rolled y))
    (λ x y is. subst (λ (x : TypeArg-F BaseTree TypeArg ClassTree TypePart TypeTree). Frames (arg_tokens (roll-TypeArg x))) is (arg_rolled y))
    (λ x y is. subst (λ (x : ClassTree-F BaseTree TypeArg ClassTree TypePart TypeTree). Frames (class_tokens (roll-ClassTree x))) is (class_rolled y))
    (λ x y is. subst (λ (x : TypePart-F BaseTree TypeArg ClassTree TypePart TypeTree). Frames (part_tokens (roll-TypePart x))) is (part_rolled y))
    (λ x y is. subst (λ (x : TypeTree-F BaseTree TypeArg ClassTree TypePart TypeTree). Frames (type_tokens (roll-TypeTree x))) is (type_rolled y))

pub type_frames : (x : TypeTree) → Frames (type_tokens x)
type_frames = ind-TypeTree (λ x. Frames (base_tokens x)) (λ x. Frames (arg_tokens x)) (λ x. Frames (class_tokens x)) (λ x. Frames (part_tokens x)) (λ x. Frames (type_tokens x))
    (λ x y is. subst (λ (x : BaseTree-F BaseTree TypeArg ClassTree TypePart TypeTree). Frames (base_tokens (roll-BaseTree x))) is (base_rolled y))
    (λ x y is. subst (λ (x : TypeArg-F BaseTree TypeArg ClassTree TypePart TypeTree). Frames (arg_tokens (roll-TypeArg x))) is (arg_rolled y))
    (λ x y is. subst (λ (x : ClassTree-F BaseTree TypeArg ClassTree TypePart TypeTree). Frames (class_tokens (roll-ClassTree x))) is (class_rolled y))
    (λ x y is. subst (λ (x : TypePart-F BaseTree TypeArg ClassTree TypePart TypeTree). Frames (part_tokens (roll-TypePart x))) is (part_rolled y))
    (λ x y is. subst (λ (x : TypeTree-F BaseTree TypeArg ClassTree TypePart TypeTree). Frames (type_tokens (roll-TypeTree x))) is (type_rolled y))

pub args_frames : (args : List TypeArg) → Frames (args_tokens args)
args_frames args = angled_frames (all_frame arg_tokens arg_frames args)
