-- The tokens of types have no parentheses that stay open.
use Rattle.std.proofs.Common.{subst}
use Rattle.std.specs.Prelude.{List}
use Rattle.jc_lexer.specs.declared.token.Key.TheVariants as key_of
use Rattle.jc_lexer.specs.declared.token.Sign.TheVariants as sign_of
use Rattle.jc_tree.specs.declared.types.BaseTree.{BaseTree, BaseTree-F, fold-roll-BaseTree, ind-BaseTree, map-BaseTree, roll-BaseTree}
use Rattle.jc_tree.specs.declared.types.ClassTree.{ClassTree, ClassTree-F, fold-roll-ClassTree, ind-ClassTree, map-ClassTree, roll-ClassTree}
use Rattle.jc_tree.specs.declared.types.TypeArg.{TypeArg, TypeArg-F, fold-roll-TypeArg, ind-TypeArg, map-TypeArg, roll-TypeArg}
use Rattle.jc_tree.specs.declared.types.TypePart.{TypePart, TypePart-F, fold-roll-TypePart, map-TypePart, roll-TypePart}
use Rattle.jc_tree.specs.declared.types.TypeTree.{TypeTree, TypeTree-F, fold-roll-TypeTree, ind-TypeTree, map-TypeTree, roll-TypeTree}
use Rattle.jc_expr_laws.proofs.PrimeClosed.{Closed, after_dots_closed, all_closed, all_given, angled_closed, brackets_closed, closed_along, seq, token}
use Rattle.std.proofs.Common.{refl}
use Rattle.jc_grammar.specs.Told.{Spelled, ident, key, key_at, sign_at}
use Rattle.jc_grammar.specs.Types.{arg_tokens, arg_told, args_tokens, base_tokens, base_told, class_tokens, class_told, part_tokens, part_told, primitive_key, type_tokens, type_told}

abbrev SomeBaseTree : Type 0
SomeBaseTree = (x : BaseTree) × Closed (base_tokens x)

abbrev SomeTypeArg : Type 0
SomeTypeArg = (x : TypeArg) × Closed (arg_tokens x)

abbrev SomeClassTree : Type 0
SomeClassTree = (x : ClassTree) × Closed (class_tokens x)

abbrev SomeTypePart : Type 0
SomeTypePart = (x : TypePart) × Closed (part_tokens x)

abbrev SomeTypeTree : Type 0
SomeTypeTree = (x : TypeTree) × Closed (type_tokens x)

abbrev plain_base : BaseTree-F SomeBaseTree SomeTypeArg SomeClassTree SomeTypePart SomeTypeTree → BaseTree-F BaseTree TypeArg ClassTree TypePart TypeTree
plain_base y = map-BaseTree SomeBaseTree SomeTypeArg SomeClassTree SomeTypePart SomeTypeTree BaseTree TypeArg ClassTree TypePart TypeTree (λ z. z.0) (λ z. z.0) (λ z. z.0) (λ z. z.0) (λ z. z.0) y

base_layer : (y : BaseTree-F SomeBaseTree SomeTypeArg SomeClassTree SomeTypePart SomeTypeTree) → Closed (base_told (map-BaseTree BaseTree TypeArg ClassTree TypePart TypeTree Spelled Spelled Spelled Spelled Spelled base_tokens arg_tokens class_tokens part_tokens type_tokens (plain_base y)))
base_layer (BaseTree-F.Primitive at word) = token (key_at (primitive_key word) at) (λ s. refl)
base_layer (BaseTree-F.Class class) = class.1

base_rolled : (y : BaseTree-F SomeBaseTree SomeTypeArg SomeClassTree SomeTypePart SomeTypeTree) → Closed (base_tokens (roll-BaseTree (plain_base y)))
unfolding base_tokens arg_tokens class_tokens part_tokens type_tokens
base_rolled y = closed_along (fold-roll-BaseTree Spelled Spelled Spelled Spelled Spelled base_told arg_told class_told part_told type_told (plain_base y)) (base_layer y)

abbrev plain_arg : TypeArg-F SomeBaseTree SomeTypeArg SomeClassTree SomeTypePart SomeTypeTree → TypeArg-F BaseTree TypeArg ClassTree TypePart TypeTree
plain_arg y = map-TypeArg SomeBaseTree SomeTypeArg SomeClassTree SomeTypePart SomeTypeTree BaseTree TypeArg ClassTree TypePart TypeTree (λ z. z.0) (λ z. z.0) (λ z. z.0) (λ z. z.0) (λ z. z.0) y

arg_layer : (y : TypeArg-F SomeBaseTree SomeTypeArg SomeClassTree SomeTypePart SomeTypeTree) → Closed (arg_told (map-TypeArg BaseTree TypeArg ClassTree TypePart TypeTree Spelled Spelled Spelled Spelled Spelled base_tokens arg_tokens class_tokens part_tokens type_tokens (plain_arg y)))
arg_layer (TypeArg-F.Exact ty) = ty.1
arg_layer (TypeArg-F.Any at) = token (sign_at sign_of.Question at) (λ s. refl)
arg_layer (TypeArg-F.Extends at bound) = seq (token (sign_at sign_of.Question at) (λ s. refl)) (seq (token (key key_of.Extends) (λ s. refl)) bound.1)
arg_layer (TypeArg-F.Super at bound) = seq (token (sign_at sign_of.Question at) (λ s. refl)) (seq (token (key key_of.Super) (λ s. refl)) bound.1)

arg_rolled : (y : TypeArg-F SomeBaseTree SomeTypeArg SomeClassTree SomeTypePart SomeTypeTree) → Closed (arg_tokens (roll-TypeArg (plain_arg y)))
unfolding base_tokens arg_tokens class_tokens part_tokens type_tokens
arg_rolled y = closed_along (fold-roll-TypeArg Spelled Spelled Spelled Spelled Spelled base_told arg_told class_told part_told type_told (plain_arg y)) (arg_layer y)

abbrev plain_class : ClassTree-F SomeBaseTree SomeTypeArg SomeClassTree SomeTypePart SomeTypeTree → ClassTree-F BaseTree TypeArg ClassTree TypePart TypeTree
plain_class y = map-ClassTree SomeBaseTree SomeTypeArg SomeClassTree SomeTypePart SomeTypeTree BaseTree TypeArg ClassTree TypePart TypeTree (λ z. z.0) (λ z. z.0) (λ z. z.0) (λ z. z.0) (λ z. z.0) y

class_layer : (y : ClassTree-F SomeBaseTree SomeTypeArg SomeClassTree SomeTypePart SomeTypeTree) → Closed (class_told (map-ClassTree BaseTree TypeArg ClassTree TypePart TypeTree Spelled Spelled Spelled Spelled Spelled base_tokens arg_tokens class_tokens part_tokens type_tokens (plain_class y)))
class_layer y = seq y.first.1 (after_dots_closed (all_given part_tokens y.more))

class_rolled : (y : ClassTree-F SomeBaseTree SomeTypeArg SomeClassTree SomeTypePart SomeTypeTree) → Closed (class_tokens (roll-ClassTree (plain_class y)))
unfolding base_tokens arg_tokens class_tokens part_tokens type_tokens
class_rolled y = closed_along (fold-roll-ClassTree Spelled Spelled Spelled Spelled Spelled base_told arg_told class_told part_told type_told (plain_class y)) (class_layer y)

abbrev plain_part : TypePart-F SomeBaseTree SomeTypeArg SomeClassTree SomeTypePart SomeTypeTree → TypePart-F BaseTree TypeArg ClassTree TypePart TypeTree
plain_part y = map-TypePart SomeBaseTree SomeTypeArg SomeClassTree SomeTypePart SomeTypeTree BaseTree TypeArg ClassTree TypePart TypeTree (λ z. z.0) (λ z. z.0) (λ z. z.0) (λ z. z.0) (λ z. z.0) y

part_layer : (y : TypePart-F SomeBaseTree SomeTypeArg SomeClassTree SomeTypePart SomeTypeTree) → Closed (part_told (map-TypePart BaseTree TypeArg ClassTree TypePart TypeTree Spelled Spelled Spelled Spelled Spelled base_tokens arg_tokens class_tokens part_tokens type_tokens (plain_part y)))
part_layer y = seq (token (ident y.name) (λ s. refl)) (angled_closed (all_given arg_tokens y.args))

part_rolled : (y : TypePart-F SomeBaseTree SomeTypeArg SomeClassTree SomeTypePart SomeTypeTree) → Closed (part_tokens (roll-TypePart (plain_part y)))
unfolding base_tokens arg_tokens class_tokens part_tokens type_tokens
part_rolled y = closed_along (fold-roll-TypePart Spelled Spelled Spelled Spelled Spelled base_told arg_told class_told part_told type_told (plain_part y)) (part_layer y)

abbrev plain_type : TypeTree-F SomeBaseTree SomeTypeArg SomeClassTree SomeTypePart SomeTypeTree → TypeTree-F BaseTree TypeArg ClassTree TypePart TypeTree
plain_type y = map-TypeTree SomeBaseTree SomeTypeArg SomeClassTree SomeTypePart SomeTypeTree BaseTree TypeArg ClassTree TypePart TypeTree (λ z. z.0) (λ z. z.0) (λ z. z.0) (λ z. z.0) (λ z. z.0) y

type_layer : (y : TypeTree-F SomeBaseTree SomeTypeArg SomeClassTree SomeTypePart SomeTypeTree) → Closed (type_told (map-TypeTree BaseTree TypeArg ClassTree TypePart TypeTree Spelled Spelled Spelled Spelled Spelled base_tokens arg_tokens class_tokens part_tokens type_tokens (plain_type y)))
type_layer y = seq y.base.1 (brackets_closed y.dims)

type_rolled : (y : TypeTree-F SomeBaseTree SomeTypeArg SomeClassTree SomeTypePart SomeTypeTree) → Closed (type_tokens (roll-TypeTree (plain_type y)))
unfolding base_tokens arg_tokens class_tokens part_tokens type_tokens
type_rolled y = closed_along (fold-roll-TypeTree Spelled Spelled Spelled Spelled Spelled base_told arg_told class_told part_told type_told (plain_type y)) (type_layer y)

pub base_closed : (x : BaseTree) → Closed (base_tokens x)
base_closed = ind-BaseTree (λ x. Closed (base_tokens x)) (λ x. Closed (arg_tokens x)) (λ x. Closed (class_tokens x)) (λ x. Closed (part_tokens x)) (λ x. Closed (type_tokens x))
    (λ x y is. subst (λ (x : BaseTree-F BaseTree TypeArg ClassTree TypePart TypeTree). Closed (base_tokens (roll-BaseTree x))) is (base_rolled y))
    (λ x y is. subst (λ (x : TypeArg-F BaseTree TypeArg ClassTree TypePart TypeTree). Closed (arg_tokens (roll-TypeArg x))) is (arg_rolled y))
    (λ x y is. subst (λ (x : ClassTree-F BaseTree TypeArg ClassTree TypePart TypeTree). Closed (class_tokens (roll-ClassTree x))) is (class_rolled y))
    (λ x y is. subst (λ (x : TypePart-F BaseTree TypeArg ClassTree TypePart TypeTree). Closed (part_tokens (roll-TypePart x))) is (part_rolled y))
    (λ x y is. subst (λ (x : TypeTree-F BaseTree TypeArg ClassTree TypePart TypeTree). Closed (type_tokens (roll-TypeTree x))) is (type_rolled y))

pub arg_closed : (x : TypeArg) → Closed (arg_tokens x)
arg_closed = ind-TypeArg (λ x. Closed (base_tokens x)) (λ x. Closed (arg_tokens x)) (λ x. Closed (class_tokens x)) (λ x. Closed (part_tokens x)) (λ x. Closed (type_tokens x))
    (λ x y is. subst (λ (x : BaseTree-F BaseTree TypeArg ClassTree TypePart TypeTree). Closed (base_tokens (roll-BaseTree x))) is (base_rolled y))
    (λ x y is. subst (λ (x : TypeArg-F BaseTree TypeArg ClassTree TypePart TypeTree). Closed (arg_tokens (roll-TypeArg x))) is (arg_rolled y))
    (λ x y is. subst (λ (x : ClassTree-F BaseTree TypeArg ClassTree TypePart TypeTree). Closed (class_tokens (roll-ClassTree x))) is (class_rolled y))
    (λ x y is. subst (λ (x : TypePart-F BaseTree TypeArg ClassTree TypePart TypeTree). Closed (part_tokens (roll-TypePart x))) is (part_rolled y))
    (λ x y is. subst (λ (x : TypeTree-F BaseTree TypeArg ClassTree TypePart TypeTree). Closed (type_tokens (roll-TypeTree x))) is (type_rolled y))

pub class_closed : (x : ClassTree) → Closed (class_tokens x)
class_closed = ind-ClassTree (λ x. Closed (base_tokens x)) (λ x. Closed (arg_tokens x)) (λ x. Closed (class_tokens x)) (λ x. Closed (part_tokens x)) (λ x. Closed (type_tokens x))
    (λ x y is. subst (λ (x : BaseTree-F BaseTree TypeArg ClassTree TypePart TypeTree). Closed (base_tokens (roll-BaseTree x))) is (base_rolled y))
    (λ x y is. subst (λ (x : TypeArg-F BaseTree TypeArg ClassTree TypePart TypeTree). Closed (arg_tokens (roll-TypeArg x))) is (arg_rolled y))
    (λ x y is. subst (λ (x : ClassTree-F BaseTree TypeArg ClassTree TypePart TypeTree). Closed (class_tokens (roll-ClassTree x))) is (class_rolled y))
    (λ x y is. subst (λ (x : TypePart-F BaseTree TypeArg ClassTree TypePart TypeTree). Closed (part_tokens (roll-TypePart x))) is (part_rolled y))
    (λ x y is. subst (λ (x : TypeTree-F BaseTree TypeArg ClassTree TypePart TypeTree). Closed (type_tokens (roll-TypeTree x))) is (type_rolled y))

pub type_closed : (x : TypeTree) → Closed (type_tokens x)
type_closed = ind-TypeTree (λ x. Closed (base_tokens x)) (λ x. Closed (arg_tokens x)) (λ x. Closed (class_tokens x)) (λ x. Closed (part_tokens x)) (λ x. Closed (type_tokens x))
    (λ x y is. subst (λ (x : BaseTree-F BaseTree TypeArg ClassTree TypePart TypeTree). Closed (base_tokens (roll-BaseTree x))) is (base_rolled y))
    (λ x y is. subst (λ (x : TypeArg-F BaseTree TypeArg ClassTree TypePart TypeTree). Closed (arg_tokens (roll-TypeArg x))) is (arg_rolled y))
    (λ x y is. subst (λ (x : ClassTree-F BaseTree TypeArg ClassTree TypePart TypeTree). Closed (class_tokens (roll-ClassTree x))) is (class_rolled y))
    (λ x y is. subst (λ (x : TypePart-F BaseTree TypeArg ClassTree TypePart TypeTree). Closed (part_tokens (roll-TypePart x))) is (part_rolled y))
    (λ x y is. subst (λ (x : TypeTree-F BaseTree TypeArg ClassTree TypePart TypeTree). Closed (type_tokens (roll-TypeTree x))) is (type_rolled y))

pub args_closed : (args : List TypeArg) → Closed (args_tokens args)
args_closed args = angled_closed (all_closed arg_tokens arg_closed args)
