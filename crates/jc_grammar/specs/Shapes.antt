-- Which expressions may stand where: the levels of the grammar, loosest first (JLS 15).
use Rattle.std.specs.Prelude.{ℕ, ◌+◌, Bool, true, false, not, ◌&&◌, ◌||◌, ◌==◌, nat_le, List, [], ◌∷◌, length, if◌then◌else◌}
use Rattle.std.specs.List.{list_all}
use Rattle.jc_lexer.specs.declared.token.Sign.{Sign}
use Rattle.jc_lexer.specs.declared.token.Sign.TheVariants as sign_of
use Rattle.jc_lexer.specs.declared.token.TokenKind.{TokenKind}
use Rattle.jc_lexer.specs.declared.token.TokenKind.TheVariants as kind_of
use Rattle.jc_tree.specs.declared.types.BaseTree.{BaseTree, BaseTree-F, out-BaseTree}
use Rattle.jc_tree.specs.declared.types.ClassTree.{ClassTree, out-ClassTree}
use Rattle.jc_tree.specs.declared.types.TypePart.{TypePart, out-TypePart}
use Rattle.jc_tree.specs.declared.types.TypeTree.{TypeTree, out-TypeTree}
use Rattle.jc_tree.specs.declared.types.TypeArg.{TypeArg}
use Rattle.jc_tree.specs.declared.expression.BinaryOp.{BinaryOp}
use Rattle.jc_tree.specs.declared.expression.BinaryOp.TheVariants as binary_of
use Rattle.jc_tree.specs.declared.expression.PrefixSign.{PrefixSign}
use Rattle.jc_tree.specs.declared.expression.PrefixSign.TheVariants as prefix_of
use Rattle.jc_tree.specs.declared.expression.Creation.{Creation, Creation-F, fold-Creation}
use Rattle.jc_tree.specs.declared.expression.Expr.{Expr, Expr-F, fold-Expr}
use Rattle.jc_tree.specs.declared.expression.Init.{Init, Init-F, fold-Init}
use Rattle.jc_tree.specs.declared.expression.Operand.{Operand, Operand-F, fold-Operand}
use Rattle.jc_tree.specs.declared.expression.ArrayInit.{ArrayInit, ArrayInit-F, fold-ArrayInit}
use Rattle.jc_tree.specs.declared.expression.Skip.{Skip, Skip-F, fold-Skip}
use Rattle.jc_tree.specs.declared.expression.SkipPart.{SkipPart, SkipPart-F, fold-SkipPart}

-- levels are numbers, the smaller the looser; at this one any expression stands, assignments too (JLS 15.26)
abbrev pub any_level : ℕ
any_level = 0

-- at this one any but an assignment (JLS 15.25)
abbrev pub conditional_level : ℕ
conditional_level = 1

-- Bin = levels, loosest first: || && | ^ & == !=, then < > <= >= instanceof, then << >> >>>, then + -, then * / %
abbrev pub binary_level : BinaryOp → ℕ
binary_level binary_of.OrElse = 2
binary_level binary_of.AndAlso = 3
binary_level binary_of.Or = 4
binary_level binary_of.Xor = 5
binary_level binary_of.And = 6
binary_level binary_of.Equal = 7
binary_level binary_of.NotEqual = 7
binary_level binary_of.Less = 8
binary_level binary_of.Greater = 8
binary_level binary_of.LessEqual = 8
binary_level binary_of.GreaterEqual = 8
binary_level binary_of.ShiftLeft = 9
binary_level binary_of.ShiftRight = 9
binary_level binary_of.ShiftRightZero = 9
binary_level binary_of.Plus = 10
binary_level binary_of.Minus = 10
binary_level binary_of.Times = 11
binary_level binary_of.Divide = 11
binary_level binary_of.Remainder = 11

-- `instanceof` is of the level of `<` and `>` (JLS 15.20)
abbrev pub instanceof_level : ℕ
instanceof_level = 8

-- Unary
abbrev pub unary_level : ℕ
unary_level = 12

-- Plain
abbrev pub plain_level : ℕ
plain_level = 13

-- Post
abbrev pub post_level : ℕ
post_level = 14

-- Prime
abbrev pub prime_level : ℕ
prime_level = 15

-- what the grammar says of an expression: the tightest level that it stands at, whether its parts stand where they may, whether it is a chain
-- of prefix operators, whether it is an array creation with lengths, and whether it may be a statement (JLS 14.8)
pub record Shape : Type 0 where
  pub level : ℕ
  pub good : Bool
  pub prefix : Bool
  pub sized : Bool
  pub effect : Bool

-- the shape of what is neither a chain of prefix operators nor an array creation with lengths
abbrev pub plainly : ℕ → Bool → Bool → Shape
plainly level good effect = record { level = level; good = good; prefix = false; sized = false; effect = effect }

-- an expression may stand at a level
abbrev pub stands : ℕ → Shape → Bool
stands level shape = shape.good && nat_le level shape.level

-- all of them may; where there are none, that holds
abbrev pub all_stand : ℕ → List Shape → Bool
all_stand level shapes = list_all (stands level) shapes

-- an operand: the level of its operator, whether its parts stand where they may, whether it is a type behind `instanceof` that arguments
-- could still follow, and whether its operator is `<`
pub record OperandShape : Type 0 where
  pub level : ℕ
  pub good : Bool
  pub bare : Bool
  pub less : Bool

-- what stands behind `new`: whether its parts stand where they may, whether it is an array with lengths, and whether it is an object
pub record CreationShape : Type 0 where
  pub good : Bool
  pub sized : Bool
  pub object : Bool

-- what follows is of one level
abbrev pub of_level : ℕ → OperandShape → Bool
of_level level operand = operand.good && (operand.level == level)

-- behind `instanceof` stands the longest type, so a `<` that could begin its arguments is no operator
abbrev pub longest_types : OperandShape → List OperandShape → Bool
longest_types operand [] = true
longest_types operand (next ∷ rest) = not (operand.bare && next.less) && longest_types next rest

-- a chain: all operators are of the level of the first one, and the first expression is tighter than they; without operators it is bad
abbrev pub chain_shape : Shape → List OperandShape → Shape
chain_shape first [] = plainly any_level false false
chain_shape first (operand ∷ rest) =
    plainly operand.level (stands (operand.level + 1) first && list_all (of_level operand.level) (operand ∷ rest) && longest_types operand rest) false

-- `+ - ++ --` make a Unary, `! ~` a Plain
abbrev pub prefix_level : PrefixSign → ℕ
prefix_level prefix_of.Not = plain_level
prefix_level prefix_of.Complement = plain_level
prefix_level _ = unary_level

-- `++` and `--`, with which an expression may be a statement (JLS 14.8)
abbrev pub changes : PrefixSign → Bool
changes prefix_of.Increment = true
changes prefix_of.Decrement = true
changes _ = false

-- a primitive type, where brackets behind it are left aside
abbrev pub is_primitive_base : BaseTree-F BaseTree TypeArg ClassTree TypePart TypeTree → Bool
is_primitive_base (BaseTree-F.Primitive at word) = true
is_primitive_base (BaseTree-F.Class class) = false

-- a primitive type that is no array
abbrev pub is_primitive : TypeTree → Bool
is_primitive ty = is_primitive_base (out-BaseTree (out-TypeTree ty).base) && ((out-TypeTree ty).dims == 0)

-- the list has no elements
abbrev pub is_none : {X : Type 0} → List X → Bool
is_none [] = true
is_none (x ∷ xs) = false

-- the last one of a first part and those behind it
abbrev pub last_of : TypePart → List TypePart → TypePart
last_of first [] = first
last_of first (part ∷ more) = last_of part more

-- the last part of a class type has no arguments
abbrev pub ends_bare : ClassTree → Bool
ends_bare class = is_none (out-TypePart (last_of (out-ClassTree class).first (out-ClassTree class).more)).args

-- a class type without arguments at its end, where brackets behind it are left aside
abbrev pub base_takes_args : BaseTree-F BaseTree TypeArg ClassTree TypePart TypeTree → Bool
base_takes_args (BaseTree-F.Primitive at word) = false
base_takes_args (BaseTree-F.Class class) = ends_bare class

-- arguments could follow a type
abbrev pub takes_args : TypeTree → Bool
takes_args ty = base_takes_args (out-BaseTree (out-TypeTree ty).base) && ((out-TypeTree ty).dims == 0)

-- no arguments stand behind this part of a class type
abbrev pub part_is_bare : TypePart → Bool
part_is_bare part = is_none (out-TypePart part).args

-- no arguments stand behind any part; a primitive type has none
abbrev pub base_is_bare : BaseTree-F BaseTree TypeArg ClassTree TypePart TypeTree → Bool
base_is_bare (BaseTree-F.Primitive at word) = true
base_is_bare (BaseTree-F.Class class) = part_is_bare (out-ClassTree class).first && list_all part_is_bare (out-ClassTree class).more

-- a type without arguments
abbrev pub is_bare : TypeTree → Bool
is_bare ty = base_is_bare (out-BaseTree (out-TypeTree ty).base)

-- the sign `<`, which could begin arguments; `<=` and `<<` are tokens of their own
abbrev pub is_less : BinaryOp → Bool
is_less binary_of.Less = true
is_less _ = false

-- the signs `{` and `}`, and tokens that are one of them
abbrev pub is_brace_sign : Sign → Bool
is_brace_sign sign_of.LeftBrace = true
is_brace_sign sign_of.RightBrace = true
is_brace_sign _ = false

abbrev pub is_brace : TokenKind → Bool
is_brace (kind_of.Sign s) = is_brace_sign s
is_brace _ = false

-- a token of a skipped body is no brace; a body in it has its own pair
abbrev pub skip_part_step : SkipPart-F Bool Bool → Bool
skip_part_step (SkipPart-F.Inner skip) = skip
skip_part_step (SkipPart-F.Token kind) = not (is_brace kind)

-- each of them is true; where there are none, that holds
abbrev pub all_true : List Bool → Bool
all_true goods = list_all (λ (good : Bool). good) goods

-- a skipped body is good where its parts are
abbrev pub skip_step : Skip-F Bool Bool → Bool
skip_step skip = all_true skip.parts

-- what is skipped between braces has braces in pairs
unfoldable pub is_skip : Skip → Bool
is_skip skip = fold-Skip Bool Bool skip_part_step skip_step skip

-- the same of a part of it
unfoldable pub is_skip_part : SkipPart → Bool
is_skip_part part = fold-SkipPart Bool Bool skip_part_step skip_step part

-- a diamond stands behind a class without arguments; there is one skipped body at most
abbrev pub creation_shape_step : Creation-F CreationShape Shape Bool OperandShape Bool → CreationShape
creation_shape_step (Creation-F.Object class diamond actuals body) =
    record { good = (not diamond || ends_bare class) && all_stand any_level actuals && list_all is_skip body && nat_le (length body) 1; sized = false; object = true }
creation_shape_step (Creation-F.Sized element first more dims) =
    record { good = stands any_level first && all_stand any_level more; sized = true; object = false }
creation_shape_step (Creation-F.Initialised element dims init) = record { good = init; sized = false; object = false }

-- what stands behind an operator is tighter than it; behind `instanceof` any type is good
abbrev pub operand_shape_step : Operand-F CreationShape Shape Bool OperandShape Bool → OperandShape
operand_shape_step (Operand-F.Binary op right) = record { level = binary_level op; good = stands (binary_level op + 1) right; bare = false; less = is_less op }
operand_shape_step (Operand-F.InstanceOf ty) = record { level = instanceof_level; good = true; bare = takes_args ty; less = false }

-- an initialiser is any expression, or a list in braces
abbrev pub init_step : Init-F CreationShape Shape Bool OperandShape Bool → Bool
init_step (Init-F.Value expr) = stands any_level expr
init_step (Init-F.Nested array) = array

-- a list in braces is good where its initialisers are (JLS 10.6)
abbrev pub array_step : ArrayInit-F CreationShape Shape Bool OperandShape Bool → Bool
array_step array = all_true array.inits

-- Expr = Cond | Post Assign Expr, Cond = Bin ["?" Expr ":" Cond], and so on down to Prime and Start
abbrev pub expr_shape_step : Expr-F CreationShape Shape Bool OperandShape Bool → Shape
expr_shape_step (Expr-F.Assign target op value) = plainly any_level (stands post_level target && stands any_level value) true
expr_shape_step (Expr-F.Conditional test then_it else_it) =
    plainly conditional_level (stands (binary_level binary_of.OrElse) test && stands any_level then_it && stands conditional_level else_it) false
expr_shape_step (Expr-F.Chain first rest) = chain_shape first rest
expr_shape_step (Expr-F.Prefix first more operand) =
    record { level = prefix_level first.sign; good = stands plain_level operand && not operand.prefix; prefix = true; sized = false; effect = changes first.sign }
expr_shape_step (Expr-F.Cast at ty operand) = plainly plain_level (stands (if is_primitive ty then unary_level else plain_level) operand) false
expr_shape_step (Expr-F.Postfix of_it op) = plainly post_level (stands post_level of_it) true
expr_shape_step (Expr-F.Field of_it name) = plainly prime_level (stands prime_level of_it) false
expr_shape_step (Expr-F.Call of_it type_args name actuals) = plainly prime_level (stands prime_level of_it && all_stand any_level actuals) true
expr_shape_step (Expr-F.Index of_it index) = plainly prime_level (stands prime_level of_it && not of_it.sized && stands any_level index) false
expr_shape_step (Expr-F.InnerNew of_it creation) =
    record { level = prime_level; good = stands prime_level of_it && creation.good; prefix = false; sized = creation.sized; effect = creation.object }
expr_shape_step (Expr-F.Literal at value) = plainly prime_level true false
expr_shape_step (Expr-F.This at) = plainly prime_level true false
expr_shape_step (Expr-F.SuperField at name) = plainly prime_level true false
expr_shape_step (Expr-F.SuperCall at type_args name actuals) = plainly prime_level (all_stand any_level actuals) true
expr_shape_step (Expr-F.Paren at inner) = plainly prime_level (stands any_level inner) false
expr_shape_step (Expr-F.Name name) = plainly prime_level true false
expr_shape_step (Expr-F.Invoke name actuals) = plainly prime_level (all_stand any_level actuals) true
expr_shape_step (Expr-F.New at creation) =
    record { level = prime_level; good = creation.good; prefix = false; sized = creation.sized; effect = creation.object }
expr_shape_step (Expr-F.ClassLiteral ty) = plainly prime_level (is_bare ty) false
expr_shape_step (Expr-F.VoidLiteral at) = plainly prime_level true false
expr_shape_step (Expr-F.OuterThis first more) = plainly prime_level true false

-- the shape of an expression, as the fold of these steps
unfoldable pub expr_shape : Expr → Shape
expr_shape expr = fold-Expr CreationShape Shape Bool OperandShape Bool creation_shape_step expr_shape_step init_step operand_shape_step array_step expr

-- the tree is one that the grammar has
abbrev pub is_expr : Expr → Bool
is_expr expr = stands any_level (expr_shape expr)

-- an expression that may be a statement: an assignment, `++`, `--`, a call, or the creation of an object
abbrev pub is_effect : Expr → Bool
is_effect expr = (expr_shape expr).effect

-- the same of what stands in an expression
unfoldable pub creation_shape : Creation → CreationShape
creation_shape creation = fold-Creation CreationShape Shape Bool OperandShape Bool creation_shape_step expr_shape_step init_step operand_shape_step array_step creation

unfoldable pub operand_shape : Operand → OperandShape
operand_shape operand = fold-Operand CreationShape Shape Bool OperandShape Bool creation_shape_step expr_shape_step init_step operand_shape_step array_step operand

unfoldable pub is_init : Init → Bool
is_init init = fold-Init CreationShape Shape Bool OperandShape Bool creation_shape_step expr_shape_step init_step operand_shape_step array_step init

unfoldable pub is_array : ArrayInit → Bool
is_array array = fold-ArrayInit CreationShape Shape Bool OperandShape Bool creation_shape_step expr_shape_step init_step operand_shape_step array_step array
