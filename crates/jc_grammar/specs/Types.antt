-- The tokens of types: Type = (Prim | ClassT) {"[" "]"}, ClassT = Id [Args] {"." Id [Args]}, Args = "<" Arg {"," Arg} ">",
-- Arg = Type | "?" [("extends" | "super") Type] (JLS 4).
use Rattle.std.specs.Prelude.{List, [], ◌∷◌, map}
use Rattle.jc_lexer.specs.declared.token.Key.{Key}
use Rattle.jc_lexer.specs.declared.token.Key.TheVariants as key_of
use Rattle.jc_lexer.specs.declared.token.Sign.TheVariants.{Less, Greater, Question}
use Rattle.jc_tree.specs.declared.types.BaseTree.{BaseTree, BaseTree-F, fold-BaseTree}
use Rattle.jc_tree.specs.declared.types.TypeArg.{TypeArg, TypeArg-F, fold-TypeArg}
use Rattle.jc_tree.specs.declared.types.ClassTree.{ClassTree, ClassTree-F, fold-ClassTree}
use Rattle.jc_tree.specs.declared.types.TypePart.{TypePart, TypePart-F, fold-TypePart}
use Rattle.jc_tree.specs.declared.types.TypeTree.{TypeTree, TypeTree-F, fold-TypeTree}
use Rattle.jc_tree.specs.declared.types.PrimitiveWord.{PrimitiveWord}
use Rattle.jc_tree.specs.declared.types.PrimitiveWord.TheVariants as word_of
use Rattle.jc_grammar.specs.Told.{Spelled, sign, sign_at, key, key_at, ident, commas, after_dots, brackets}

-- the keyword of a primitive type (JLS 4.2)
abbrev pub primitive_key : PrimitiveWord → Key
primitive_key word_of.Boolean = key_of.Boolean
primitive_key word_of.Byte = key_of.Byte
primitive_key word_of.Short = key_of.Short
primitive_key word_of.Char = key_of.Char
primitive_key word_of.Int = key_of.Int
primitive_key word_of.Long = key_of.Long

-- arguments between angle brackets, or nothing where there are none
abbrev pub angled : List Spelled → Spelled
angled [] r = r
angled (s ∷ spelled) r = sign Less ∷ commas (s ∷ spelled) (sign Greater ∷ r)

-- the tokens of a node of a type, by those of its parts: a base, an argument, a class type, a part of it, and a type with its brackets
abbrev pub base_told : BaseTree-F Spelled Spelled Spelled Spelled Spelled → Spelled
base_told (BaseTree-F.Primitive at word) r = key_at (primitive_key word) at ∷ r
base_told (BaseTree-F.Class class) r = class r

abbrev pub arg_told : TypeArg-F Spelled Spelled Spelled Spelled Spelled → Spelled
arg_told (TypeArg-F.Exact ty) r = ty r
arg_told (TypeArg-F.Any at) r = sign_at Question at ∷ r
arg_told (TypeArg-F.Extends at bound) r = sign_at Question at ∷ key key_of.Extends ∷ bound r
arg_told (TypeArg-F.Super at bound) r = sign_at Question at ∷ key key_of.Super ∷ bound r

abbrev pub class_told : ClassTree-F Spelled Spelled Spelled Spelled Spelled → Spelled
class_told class r = class.first (after_dots class.more r)

abbrev pub part_told : TypePart-F Spelled Spelled Spelled Spelled Spelled → Spelled
part_told part r = ident part.name ∷ angled part.args r

abbrev pub type_told : TypeTree-F Spelled Spelled Spelled Spelled Spelled → Spelled
type_told ty r = ty.base (brackets ty.dims r)

-- the tokens of a type, and then others
unfoldable pub type_tokens : TypeTree → Spelled
type_tokens ty = fold-TypeTree Spelled Spelled Spelled Spelled Spelled base_told arg_told class_told part_told type_told ty

-- the same of what stands in a type
unfoldable pub base_tokens : BaseTree → Spelled
base_tokens base = fold-BaseTree Spelled Spelled Spelled Spelled Spelled base_told arg_told class_told part_told type_told base

unfoldable pub class_tokens : ClassTree → Spelled
class_tokens class = fold-ClassTree Spelled Spelled Spelled Spelled Spelled base_told arg_told class_told part_told type_told class

unfoldable pub part_tokens : TypePart → Spelled
part_tokens part = fold-TypePart Spelled Spelled Spelled Spelled Spelled base_told arg_told class_told part_told type_told part

unfoldable pub arg_tokens : TypeArg → Spelled
arg_tokens arg = fold-TypeArg Spelled Spelled Spelled Spelled Spelled base_told arg_told class_told part_told type_told arg

-- type arguments between angle brackets
abbrev pub args_tokens : List TypeArg → Spelled
args_tokens args r = angled (map arg_tokens args) r
