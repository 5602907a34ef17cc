-- The tokens of expressions (JLS 15).
use Rattle.std.specs.Prelude.{Bool, true, false, List, [], ◌∷◌, map, Some, None}
use Rattle.jc_lexer.specs.declared.token.Key.TheVariants as key_of
use Rattle.jc_lexer.specs.declared.token.Sign.{Sign}
use Rattle.jc_lexer.specs.declared.token.Sign.TheVariants as sign_of
use Rattle.jc_lexer.specs.declared.token.TokenKind.{TokenKind}
use Rattle.jc_lexer.specs.declared.token.TokenKind.TheVariants as kind_of
use Rattle.jc_tree.specs.declared.expression.AssignOp.{AssignOp}
use Rattle.jc_tree.specs.declared.expression.AssignOp.TheVariants as assign_of
use Rattle.jc_tree.specs.declared.expression.BinaryOp.{BinaryOp}
use Rattle.jc_tree.specs.declared.expression.BinaryOp.TheVariants as binary_of
use Rattle.jc_tree.specs.declared.expression.PrefixSign.{PrefixSign}
use Rattle.jc_tree.specs.declared.expression.PrefixSign.TheVariants as prefix_of
use Rattle.jc_tree.specs.declared.expression.PrefixOp.{PrefixOp}
use Rattle.jc_tree.specs.declared.expression.PostfixOp.{PostfixOp}
use Rattle.jc_tree.specs.declared.expression.PostfixOp.TheVariants as postfix_of
use Rattle.jc_tree.specs.declared.expression.Literal.{Literal}
use Rattle.jc_tree.specs.declared.expression.Literal.TheVariants as literal_of
use Rattle.jc_tree.specs.declared.expression.Creation.{Creation-F, Creation, fold-Creation}
use Rattle.jc_tree.specs.declared.expression.Expr.{Expr, Expr-F, fold-Expr}
use Rattle.jc_tree.specs.declared.expression.Init.{Init, Init-F, fold-Init}
use Rattle.jc_tree.specs.declared.expression.Operand.{Operand-F, Operand, fold-Operand}
use Rattle.jc_tree.specs.declared.expression.ArrayInit.{ArrayInit, ArrayInit-F, fold-ArrayInit}
use Rattle.jc_tree.specs.declared.expression.Skip.{Skip, Skip-F, fold-Skip}
use Rattle.jc_tree.specs.declared.expression.SkipPart.{SkipPart, SkipPart-F, fold-SkipPart}
use Rattle.jc_grammar.specs.Told.{Told, Spelled, told, sign, sign_at, key, key_at, ident, each, commas, actuals, names_after, brackets}
use Rattle.jc_grammar.specs.Types.{type_tokens, base_tokens, class_tokens, args_tokens}

-- the token of a literal (JLS 3.10); those of `true`, `false` and `null` are keywords here
abbrev pub literal_kind : Literal → TokenKind
literal_kind (literal_of.Number value long decimal) = kind_of.Number value long decimal
literal_kind (literal_of.Char unit) = kind_of.CharLit unit
literal_kind (literal_of.String units) = kind_of.StringLit units
literal_kind (literal_of.Boolean true) = kind_of.Key key_of.True
literal_kind (literal_of.Boolean false) = kind_of.Key key_of.False
literal_kind literal_of.Null = kind_of.Key key_of.Null

-- a `>` at which an operator begins: no `>` before it touches it, and it touches the next token where the operator goes on
abbrev pub opening : Bool → Told
opening goes_on = record { kind = kind_of.Sign sign_of.Greater; at = None; joins = goes_on; apart = true }

-- a `>` inside of an operator that goes on
abbrev pub inner : Told
inner = record { kind = kind_of.Sign sign_of.Greater; at = None; joins = true; apart = false }

-- JLS 15.26; `>>=` and `>>>=` are runs of tokens that touch
abbrev pub assign_tokens : AssignOp → Spelled
assign_tokens assign_of.Plain r = sign sign_of.Assign ∷ r
assign_tokens assign_of.Plus r = sign sign_of.PlusAssign ∷ r
assign_tokens assign_of.Minus r = sign sign_of.MinusAssign ∷ r
assign_tokens assign_of.Times r = sign sign_of.StarAssign ∷ r
assign_tokens assign_of.Divide r = sign sign_of.SlashAssign ∷ r
assign_tokens assign_of.Remainder r = sign sign_of.PercentAssign ∷ r
assign_tokens assign_of.And r = sign sign_of.AndAssign ∷ r
assign_tokens assign_of.Or r = sign sign_of.OrAssign ∷ r
assign_tokens assign_of.Xor r = sign sign_of.CaretAssign ∷ r
assign_tokens assign_of.ShiftLeft r = sign sign_of.ShiftLeftAssign ∷ r
assign_tokens assign_of.ShiftRight r = opening true ∷ inner ∷ sign sign_of.Assign ∷ r
assign_tokens assign_of.ShiftRightZero r = opening true ∷ inner ∷ inner ∷ sign sign_of.Assign ∷ r

-- JLS 15.17 to 15.24; `>=`, `>>` and `>>>` are runs of tokens that touch
abbrev pub binary_tokens : BinaryOp → Spelled
binary_tokens binary_of.OrElse r = sign sign_of.OrOr ∷ r
binary_tokens binary_of.AndAlso r = sign sign_of.AndAnd ∷ r
binary_tokens binary_of.Or r = sign sign_of.Or ∷ r
binary_tokens binary_of.Xor r = sign sign_of.Caret ∷ r
binary_tokens binary_of.And r = sign sign_of.And ∷ r
binary_tokens binary_of.Equal r = sign sign_of.Equal ∷ r
binary_tokens binary_of.NotEqual r = sign sign_of.NotEqual ∷ r
binary_tokens binary_of.Less r = sign sign_of.Less ∷ r
binary_tokens binary_of.Greater r = opening false ∷ r
binary_tokens binary_of.LessEqual r = sign sign_of.LessEqual ∷ r
binary_tokens binary_of.GreaterEqual r = opening true ∷ sign sign_of.Assign ∷ r
binary_tokens binary_of.ShiftLeft r = sign sign_of.ShiftLeft ∷ r
binary_tokens binary_of.ShiftRight r = opening true ∷ sign sign_of.Greater ∷ r
binary_tokens binary_of.ShiftRightZero r = opening true ∷ inner ∷ sign sign_of.Greater ∷ r
binary_tokens binary_of.Plus r = sign sign_of.Plus ∷ r
binary_tokens binary_of.Minus r = sign sign_of.Minus ∷ r
binary_tokens binary_of.Times r = sign sign_of.Star ∷ r
binary_tokens binary_of.Divide r = sign sign_of.Slash ∷ r
binary_tokens binary_of.Remainder r = sign sign_of.Percent ∷ r

-- the sign of a prefix operator (JLS 15.15)
abbrev pub prefix_sign : PrefixSign → Sign
prefix_sign prefix_of.Plus = sign_of.Plus
prefix_sign prefix_of.Minus = sign_of.Minus
prefix_sign prefix_of.Increment = sign_of.Increment
prefix_sign prefix_of.Decrement = sign_of.Decrement
prefix_sign prefix_of.Not = sign_of.Not
prefix_sign prefix_of.Complement = sign_of.Tilde

-- prefix operators, each at its offset
abbrev pub prefix_tokens : List PrefixOp → Spelled
prefix_tokens [] r = r
prefix_tokens (op ∷ ops) r = sign_at (prefix_sign op.sign) op.at ∷ prefix_tokens ops r

-- the sign of a postfix operator (JLS 15.14)
abbrev pub postfix_sign : PostfixOp → Sign
postfix_sign postfix_of.Increment = sign_of.Increment
postfix_sign postfix_of.Decrement = sign_of.Decrement

-- a skipped token, of which the tree has no offset, or a body between braces
abbrev pub skip_part_told : SkipPart-F Spelled Spelled → Spelled
skip_part_told (SkipPart-F.Inner skip) r = skip r
skip_part_told (SkipPart-F.Token kind) r = told kind None ∷ r

-- a skipped body between its braces
abbrev pub skip_told : Skip-F Spelled Spelled → Spelled
skip_told skip r = sign sign_of.LeftBrace ∷ each skip.parts (sign sign_of.RightBrace ∷ r)

-- the tokens of what is skipped, its braces included, and then others
unfoldable pub skip_tokens : Skip → Spelled
skip_tokens skip = fold-Skip Spelled Spelled skip_part_told skip_told skip

-- the same of a part of it
unfoldable pub skip_part_tokens : SkipPart → Spelled
skip_part_tokens part = fold-SkipPart Spelled Spelled skip_part_told skip_told part

-- between `[` and `]`
abbrev pub in_brackets : Spelled → Spelled
in_brackets inside r = sign sign_of.LeftBracket ∷ inside (sign sign_of.RightBracket ∷ r)

-- the sign, or nothing where it is not there
abbrev pub if_there : Bool → Sign → Spelled
if_there true s r = sign s ∷ r
if_there false s r = r

-- "<" ">" of a diamond
abbrev pub diamond_tokens : Bool → Spelled
diamond_tokens true r = sign sign_of.Less ∷ sign sign_of.Greater ∷ r
diamond_tokens false r = r

-- JLS 15.9, 15.10: what stands behind `new`
abbrev pub creation_told : Creation-F Spelled Spelled Spelled Spelled Spelled → Spelled
creation_told (Creation-F.Object class diamond args body) r =
    class_tokens class (diamond_tokens diamond (actuals args (each (map skip_tokens body) r)))
creation_told (Creation-F.Sized element first more dims) r =
    base_tokens element (in_brackets first (each (map in_brackets more) (brackets dims r)))
creation_told (Creation-F.Initialised element dims init) r =
    base_tokens element (sign sign_of.LeftBracket ∷ sign sign_of.RightBracket ∷ brackets dims (init r))

-- JLS 15
abbrev pub expr_told : Expr-F Spelled Spelled Spelled Spelled Spelled → Spelled
expr_told (Expr-F.Assign target op value) r = target (assign_tokens op (value r))
expr_told (Expr-F.Conditional test then_it else_it) r = test (sign sign_of.Question ∷ then_it (sign sign_of.Colon ∷ else_it r))
expr_told (Expr-F.Chain first rest) r = first (each rest r)
expr_told (Expr-F.Prefix first more operand) r = prefix_tokens (first ∷ more) (operand r)
expr_told (Expr-F.Cast at ty operand) r = sign_at sign_of.LeftParen at ∷ type_tokens ty (sign sign_of.RightParen ∷ operand r)
expr_told (Expr-F.Postfix of_it op) r = of_it (sign (postfix_sign op) ∷ r)
expr_told (Expr-F.Field of_it name) r = of_it (sign sign_of.Dot ∷ ident name ∷ r)
expr_told (Expr-F.Call of_it type_args name args) r = of_it (sign sign_of.Dot ∷ args_tokens type_args (ident name ∷ actuals args r))
expr_told (Expr-F.Index of_it index) r = of_it (in_brackets index r)
expr_told (Expr-F.InnerNew of_it creation) r = of_it (sign sign_of.Dot ∷ key key_of.New ∷ creation r)
expr_told (Expr-F.Literal at value) r = told (literal_kind value) (Some at) ∷ r
expr_told (Expr-F.This at) r = key_at key_of.This at ∷ r
expr_told (Expr-F.SuperField at name) r = key_at key_of.Super at ∷ sign sign_of.Dot ∷ ident name ∷ r
expr_told (Expr-F.SuperCall at type_args name args) r = key_at key_of.Super at ∷ sign sign_of.Dot ∷ args_tokens type_args (ident name ∷ actuals args r)
expr_told (Expr-F.Paren at inside) r = sign_at sign_of.LeftParen at ∷ inside (sign sign_of.RightParen ∷ r)
expr_told (Expr-F.Name name) r = ident name ∷ r
expr_told (Expr-F.Invoke name args) r = ident name ∷ actuals args r
expr_told (Expr-F.New at creation) r = key_at key_of.New at ∷ creation r
expr_told (Expr-F.ClassLiteral ty) r = type_tokens ty (sign sign_of.Dot ∷ key key_of.Class ∷ r)
expr_told (Expr-F.VoidLiteral at) r = key_at key_of.Void at ∷ sign sign_of.Dot ∷ key key_of.Class ∷ r
expr_told (Expr-F.OuterThis first more) r = ident first ∷ names_after more (sign sign_of.Dot ∷ key key_of.This ∷ r)

-- an initialiser: an expression, or a list in braces
abbrev pub init_told : Init-F Spelled Spelled Spelled Spelled Spelled → Spelled
init_told (Init-F.Value expr) r = expr r
init_told (Init-F.Nested array) r = array r

-- an operator and what stands behind it
abbrev pub operand_told : Operand-F Spelled Spelled Spelled Spelled Spelled → Spelled
operand_told (Operand-F.Binary op right) r = binary_tokens op (right r)
operand_told (Operand-F.InstanceOf ty) r = key key_of.Instanceof ∷ type_tokens ty r

-- JLS 10.6
abbrev pub array_told : ArrayInit-F Spelled Spelled Spelled Spelled Spelled → Spelled
array_told array r =
    sign_at sign_of.LeftBrace array.at ∷ commas array.inits (if_there array.trailing sign_of.Comma (sign sign_of.RightBrace ∷ r))

-- the tokens of an expression, and then others
unfoldable pub expr_tokens : Expr → Spelled
expr_tokens expr = fold-Expr Spelled Spelled Spelled Spelled Spelled creation_told expr_told init_told operand_told array_told expr

-- the same of what stands in an expression
unfoldable pub array_tokens : ArrayInit → Spelled
array_tokens array = fold-ArrayInit Spelled Spelled Spelled Spelled Spelled creation_told expr_told init_told operand_told array_told array

unfoldable pub init_tokens : Init → Spelled
init_tokens init = fold-Init Spelled Spelled Spelled Spelled Spelled creation_told expr_told init_told operand_told array_told init

unfoldable pub operand_tokens : Operand → Spelled
operand_tokens operand = fold-Operand Spelled Spelled Spelled Spelled Spelled creation_told expr_told init_told operand_told array_told operand

unfoldable pub creation_tokens : Creation → Spelled
creation_tokens creation = fold-Creation Spelled Spelled Spelled Spelled Spelled creation_told expr_told init_told operand_told array_told creation
