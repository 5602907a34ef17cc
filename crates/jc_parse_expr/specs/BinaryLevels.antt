-- The levels of binary operators by name, loosest first, as the code goes over them (JLS 15.17 to 15.24), and parts of readers for which the
-- code has functions of their own.
use Rattle.std.specs.Prelude.{ℕ, Bool, true, false, not, ◌&&◌, ◌||◌, List, [], ◌∷◌, map, length}
use Rattle.jc_lexer.specs.declared.token.Token.{Token}
use Rattle.jc_lexer.specs.declared.token.TokenKind.{TokenKind}
use Rattle.jc_lexer.specs.declared.token.TokenKind.TheVariants as kind_of
use Rattle.jc_lexer.specs.declared.token.Key.TheVariants as key_of
use Rattle.jc_lexer.specs.declared.token.Sign.TheVariants as sign_of
use Rattle.jc_tree.specs.declared.types.TypeTree.{TypeTree}
use Rattle.jc_tree.specs.declared.expression.AssignOp.{AssignOp}
use Rattle.jc_tree.specs.declared.expression.AssignOp.TheVariants as assign_of
use Rattle.jc_tree.specs.declared.expression.BinaryOp.{BinaryOp}
use Rattle.jc_tree.specs.declared.expression.BinaryOp.TheVariants as binary_of
use Rattle.jc_tree.specs.declared.expression.PrefixOp.{PrefixOp}
use Rattle.jc_tree.specs.declared.expression.Expr.{Expr}
use Rattle.jc_tree.specs.declared.expression.Expr.TheVariants as expr_of
use Rattle.jc_tree.specs.declared.expression.Operand.{Operand, Operand-F, out-Operand}
use Rattle.jc_tree.specs.declared.expression.Creation.{Creation}
use Rattle.jc_tree.specs.declared.expression.Init.{Init}
use Rattle.jc_tree.specs.declared.expression.ArrayInit.{ArrayInit}
use Rattle.jc_grammar.specs.Shapes.{takes_args}
use Rattle.jc_tree.specs.Heights.{operand_height}
use Rattle.jc_reading.specs.Kinds.{sign_code, key_code, one_of}
use Rattle.jc_reading.specs.Reading.{Run, noting, becoming, as_new, in_turn, any_number, Either, This, That, either, of_kind, behind_it, before_it}
use Rattle.jc_reading.specs.Further.{preferring}
use Rattle.jc_parse_type.specs.TypeReading.{type_run}
use Rattle.jc_expr_laws.specs.LevelReading.{Levels, or_else_run, and_also_run, or_run, xor_run, and_run, equal_run, less_run, shift_run, plus_run, times_run, operand_made, prefix_op_run, prefix_made, CastParts, Touched, touching_run}
use Rattle.jc_expr_laws.specs.CompareReading.{compared_operand, comparisons_run, next_comparison_run}
use Rattle.jc_expr_laws.specs.ExprReading.{readers}
use Rattle.jc_parse_expr.specs.Measuring.{of_height, measured}
use Rattle.jc_parse_expr.specs.declared.measured.Measured.{Measured}
use Rattle.jc_parse_expr.specs.declared.operators.Level.{Level}
use Rattle.jc_parse_expr.specs.declared.operators.Level.TheVariants as level_of

-- the operators of a level; `instanceof` is none
abbrev pub operator_run : Level → Run BinaryOp
operator_run level_of.OrElse = or_else_run
operator_run level_of.AndAlso = and_also_run
operator_run level_of.Or = or_run
operator_run level_of.Xor = xor_run
operator_run level_of.And = and_run
operator_run level_of.Equal = equal_run
operator_run level_of.Compared = less_run
operator_run level_of.Shift = shift_run
operator_run level_of.Plus = plus_run
operator_run level_of.Times = times_run

-- what is read at a level
abbrev pub level_run : Level → Levels → Run Expr
level_run level_of.OrElse levels = levels.or_else
level_run level_of.AndAlso levels = levels.and_also
level_run level_of.Or levels = levels.bit_or
level_run level_of.Xor levels = levels.bit_xor
level_run level_of.And levels = levels.bit_and
level_run level_of.Equal levels = levels.equal
level_run level_of.Compared levels = levels.compared
level_run level_of.Shift levels = levels.shift
level_run level_of.Plus levels = levels.plus
level_run level_of.Times levels = levels.times

-- what is read at the next tighter level: an operand
abbrev pub tighter_run : Level → Levels → Run Expr
tighter_run level_of.OrElse levels = levels.and_also
tighter_run level_of.AndAlso levels = levels.bit_or
tighter_run level_of.Or levels = levels.bit_xor
tighter_run level_of.Xor levels = levels.bit_and
tighter_run level_of.And levels = levels.equal
tighter_run level_of.Equal levels = levels.compared
tighter_run level_of.Compared levels = levels.shift
tighter_run level_of.Shift levels = levels.plus
tighter_run level_of.Plus levels = levels.times
tighter_run level_of.Times levels = levels.unary

-- how many levels are tighter
abbrev pub looseness : Level → ℕ
looseness level_of.OrElse = 9
looseness level_of.AndAlso = 8
looseness level_of.Or = 7
looseness level_of.Xor = 6
looseness level_of.And = 5
looseness level_of.Equal = 4
looseness level_of.Compared = 3
looseness level_of.Shift = 2
looseness level_of.Plus = 1
looseness level_of.Times = 0

-- an operator of a level, or at the level of comparisons `instanceof`, may begin with the token at the front
abbrev pub may_operate : Level → List Token → Bool
may_operate level_of.OrElse ts = one_of (sign_code sign_of.OrOr ∷ []) ts
may_operate level_of.AndAlso ts = one_of (sign_code sign_of.AndAnd ∷ []) ts
may_operate level_of.Or ts = one_of (sign_code sign_of.Or ∷ []) ts
may_operate level_of.Xor ts = one_of (sign_code sign_of.Caret ∷ []) ts
may_operate level_of.And ts = one_of (sign_code sign_of.And ∷ []) ts
may_operate level_of.Equal ts = one_of (sign_code sign_of.Equal ∷ []) ts || one_of (sign_code sign_of.NotEqual ∷ []) ts
may_operate level_of.Compared ts =
    one_of (sign_code sign_of.Less ∷ []) ts || one_of (sign_code sign_of.LessEqual ∷ []) ts || one_of (sign_code sign_of.Greater ∷ []) ts || one_of (key_code key_of.Instanceof ∷ []) ts
may_operate level_of.Shift ts = one_of (sign_code sign_of.ShiftLeft ∷ []) ts || one_of (sign_code sign_of.Greater ∷ []) ts
may_operate level_of.Plus ts = one_of (sign_code sign_of.Plus ∷ []) ts || one_of (sign_code sign_of.Minus ∷ []) ts
may_operate level_of.Times ts = one_of (sign_code sign_of.Star ∷ []) ts || one_of (sign_code sign_of.Slash ∷ []) ts || one_of (sign_code sign_of.Percent ∷ []) ts

-- what makes more of a name before it: arguments, members, indices and postfix operators
abbrev pub takes_more : List Token → Bool
takes_more ts =
    one_of (sign_code sign_of.LeftParen ∷ []) ts || one_of (sign_code sign_of.Dot ∷ []) ts || one_of (sign_code sign_of.LeftBracket ∷ []) ts || one_of (sign_code sign_of.Increment ∷ []) ts
    || one_of (sign_code sign_of.Decrement ∷ []) ts

-- an identifier, which no keyword is
abbrev pub is_name : TokenKind → Bool
is_name (kind_of.Word text) = true
is_name _ = false

-- a name that is a whole operand
abbrev pub is_lone_name : List Token → Bool
is_lone_name [] = false
is_lone_name (t ∷ ts) = is_name t.kind && not (takes_more ts)

-- `!` or `~`
abbrev pub plain_op_codes : List ℕ
plain_op_codes = sign_code sign_of.Not ∷ sign_code sign_of.Tilde ∷ []

-- parts of operators that the code reads by a function of their own

-- a `>` that touches what is behind it, and a `=`
abbrev pub touching_equal_run : Run (Unit {0} × Unit {0})
touching_equal_run = in_turn touching_run (of_kind (sign_code sign_of.Assign))

-- `>=` or `>`
abbrev pub greater_run : Run (Either (Unit {0} × Unit {0}) (Unit {0}))
greater_run = preferring touching_equal_run (of_kind (sign_code sign_of.Greater))

-- `>=` (JLS 15.20.1), or `>`
abbrev pub greater_made : Either (Unit {0} × Unit {0}) (Unit {0}) → BinaryOp
greater_made (This p) = binary_of.GreaterEqual
greater_made (That u) = binary_of.Greater

-- two signs `>`, the first of which touches the second
abbrev pub touching_greater_run : Run (Unit {0} × Unit {0})
touching_greater_run = in_turn touching_run (of_kind (sign_code sign_of.Greater))

-- behind the first `>` of a shift to the right: two more or one (JLS 15.19)
abbrev pub right_run : Run (Either (Unit {0} × Unit {0}) (Unit {0}))
right_run = preferring touching_greater_run (of_kind (sign_code sign_of.Greater))

abbrev pub right_made : Either (Unit {0} × Unit {0}) (Unit {0}) → BinaryOp
right_made (This p) = binary_of.ShiftRightZero
right_made (That u) = binary_of.ShiftRight

-- behind two touching `>`: "=", or ">" and "=" (JLS 15.26.2)
abbrev pub ShiftAssign : Type 0
ShiftAssign = Either (Unit {0}) (Unit {0} × Unit {0})

abbrev pub shift_assign_run : Run ShiftAssign
shift_assign_run = either (sign_code sign_of.Assign ∷ []) (of_kind (sign_code sign_of.Assign)) touching_equal_run

abbrev pub shift_assign_made : ShiftAssign → AssignOp
shift_assign_made (This u) = assign_of.ShiftRight
shift_assign_made (That p) = assign_of.ShiftRightZero

abbrev pub touched_assign_made : Touched → AssignOp
touched_assign_made p = shift_assign_made p.1.1

-- the readers of all levels, of height at most h
abbrev pub levels_at : ℕ → Levels
levels_at h = (readers h).levels

abbrev pub post_at : ℕ → Run Expr
post_at h = (readers h).post

-- an operator and its operand
abbrev pub operand_run : Level → Run Expr → Run Operand
operand_run level next = as_new operand_made (in_turn (operator_run level) next)

-- any number of them, or of comparisons
abbrev pub operands_run : Level → ℕ → Run Expr → Run (List Operand)
operands_run level_of.OrElse h next = any_number (operand_run level_of.OrElse next)
operands_run level_of.AndAlso h next = any_number (operand_run level_of.AndAlso next)
operands_run level_of.Or h next = any_number (operand_run level_of.Or next)
operands_run level_of.Xor h next = any_number (operand_run level_of.Xor next)
operands_run level_of.And h next = any_number (operand_run level_of.And next)
operands_run level_of.Equal h next = any_number (operand_run level_of.Equal next)
operands_run level_of.Compared h next = as_new (map compared_operand) (comparisons_run h next)
operands_run level_of.Shift h next = any_number (operand_run level_of.Shift next)
operands_run level_of.Plus h next = any_number (operand_run level_of.Plus next)
operands_run level_of.Times h next = any_number (operand_run level_of.Times next)

-- a first operand alone where nothing stands behind it, and else a chain
abbrev pub chain_of : (Expr × List Operand) → Expr
chain_of (first, []) = first
chain_of (first, operand ∷ more) = expr_of.Chain first (operand ∷ more)

-- an operand with its height
abbrev pub measured_operand : Operand → Measured Operand
measured_operand operand = of_height operand (operand_height operand)

-- a comparison behind another one: whether type arguments could follow the type of that one, and whether its last token is a `>` that touches
abbrev pub next_operand_run : ℕ → Run Expr → Bool → Bool → Run Operand
next_operand_run h next opened touched = as_new compared_operand (next_comparison_run h next opened touched)

-- behind a first prefix operator
abbrev pub prefixed_run : PrefixOp → Run Expr → Run Expr
prefixed_run first bare ts = noting (length ts) (becoming (λ (p : List PrefixOp × Expr). prefix_made (first, p)) (in_turn (any_number prefix_op_run) bare ts))

-- a type in parentheses, behind the first of them
abbrev pub cast_type_run : ℕ → Run TypeTree
cast_type_run h = as_new before_it (in_turn (type_run h) (of_kind (sign_code sign_of.RightParen)))

-- a cast at the place of its parenthesis
abbrev pub cast_made : CastParts → Expr
cast_made p = expr_of.Cast p.0 p.1.0.0 p.1.1

-- behind a test
abbrev pub branches_run : Levels → Run (Unit {0} × (Expr × (Unit {0} × Expr)))
branches_run low = in_turn (of_kind (sign_code sign_of.Question)) (in_turn low.expr (in_turn (of_kind (sign_code sign_of.Colon)) low.conditional))

-- what stands behind a test or a target, with its heights
abbrev pub measured_branches : (Unit {0} × (Expr × (Unit {0} × Expr))) → Measured Expr × Measured Expr
measured_branches p = (measured p.1.0, measured p.1.1.1)

abbrev pub measured_right : (AssignOp × Expr) → AssignOp × Measured Expr
measured_right p = (p.0, measured p.1)

-- a colon and what stands behind it
abbrev pub otherwise_run : Levels → Run Expr
otherwise_run low = as_new behind_it (in_turn (of_kind (sign_code sign_of.Colon)) low.conditional)

-- a binary operand has no type at its end
abbrev pub open_over : Operand-F Creation Expr Init Operand ArrayInit → Bool
open_over (Operand-F.Binary op right) = false
open_over (Operand-F.InstanceOf ty) = takes_args ty

-- arguments could follow the type behind `instanceof`
abbrev pub ends_open : Operand → Bool
ends_open operand = open_over (out-Operand operand)

-- a question mark and what stands behind it
abbrev pub then_run : Levels → Run Expr
then_run low = as_new behind_it (in_turn (of_kind (sign_code sign_of.Question)) low.expr)
