-- How the levels of expressions are read: casts, prefix operators, binary operators, conditionals and assignments (JLS 15.15 to 15.26).
use Rattle.std.specs.Prelude.{ℕ, zero, suc, Bool, true, false, not, cond, ◌==◌, ◌&&◌, nat_le, List, [], ◌∷◌, map, length, Option, Some, None}
use Rattle.jc_lexer.specs.declared.token.Sign.{Sign}
use Rattle.jc_lexer.specs.declared.token.Sign.TheVariants as sign_of
use Rattle.jc_lexer.specs.declared.token.Token.{Token}
use Rattle.jc_lexer.specs.declared.token.TokenKind.{TokenKind}
use Rattle.jc_lexer.specs.declared.token.TokenKind.TheVariants as kind_of
use Rattle.jc_tree.specs.declared.types.TypeTree.{TypeTree}
use Rattle.jc_tree.specs.declared.expression.AssignOp.{AssignOp}
use Rattle.jc_tree.specs.declared.expression.AssignOp.TheVariants as assign_of
use Rattle.jc_tree.specs.declared.expression.BinaryOp.{BinaryOp}
use Rattle.jc_tree.specs.declared.expression.BinaryOp.TheVariants as binary_of
use Rattle.jc_tree.specs.declared.expression.PrefixOp.{PrefixOp}
use Rattle.jc_tree.specs.declared.expression.PrefixSign.{PrefixSign}
use Rattle.jc_tree.specs.declared.expression.PrefixSign.TheVariants as prefix_of
use Rattle.jc_tree.specs.declared.expression.Expr.{Expr}
use Rattle.jc_tree.specs.declared.expression.Expr.TheVariants as expr_of
use Rattle.jc_tree.specs.declared.expression.Operand.{Operand}
use Rattle.jc_tree.specs.declared.expression.Operand.TheVariants as operand_of
use Rattle.jc_tree.specs.Heights.{expr_height}
use Rattle.jc_reading.specs.Kinds.{kind_code, sign_code}
use Rattle.jc_reading.specs.Reading.{Stopped, Run, as_new, in_turn, perhaps, any_number, Either, This, That, either, picking, of_kind, at_kind}
use Rattle.jc_parse_type.specs.TypeReading.{type_run}
use Rattle.jc_grammar.specs.Shapes.{is_primitive, stands, post_level, expr_shape}
use Rattle.jc_reading.specs.Further.{either_one, followed, preferring, by_value}

-- a `>` that touches the next token
abbrev pub picks_touching : Token → Option (Unit {0})
picks_touching t = cond ((kind_code t.kind == sign_code sign_of.Greater) && t.touches) (Some tt) None

-- one such token
abbrev pub touching_run : Run (Unit {0})
touching_run = picking picks_touching

-- the operators of each level

-- `||`, `&&`, `|`, `^` and `&`, each the only operator of its level (JLS 15.22 to 15.24)
abbrev pub or_else_op : Unit {0} → BinaryOp
or_else_op u = binary_of.OrElse

abbrev pub and_also_op : Unit {0} → BinaryOp
and_also_op u = binary_of.AndAlso

abbrev pub or_op : Unit {0} → BinaryOp
or_op u = binary_of.Or

abbrev pub xor_op : Unit {0} → BinaryOp
xor_op u = binary_of.Xor

abbrev pub and_op : Unit {0} → BinaryOp
and_op u = binary_of.And

-- `==`, `!=`
abbrev pub equal_op : Either (Unit {0}) (Unit {0}) → BinaryOp
equal_op (This u) = binary_of.Equal
equal_op (That u) = binary_of.NotEqual

-- `<`, `<=`, `>=`, `>`
abbrev pub less_op : Either (Unit {0}) (Either (Unit {0}) (Either (Unit {0} × Unit {0}) (Unit {0}))) → BinaryOp
less_op (This u) = binary_of.Less
less_op (That (This u)) = binary_of.LessEqual
less_op (That (That (This p))) = binary_of.GreaterEqual
less_op (That (That (That u))) = binary_of.Greater

-- `<<`, `>>>`, `>>`
abbrev pub shift_op : Either (Unit {0}) (Unit {0} × Either (Unit {0} × Unit {0}) (Unit {0})) → BinaryOp
shift_op (This u) = binary_of.ShiftLeft
shift_op (That (u, This p)) = binary_of.ShiftRightZero
shift_op (That (u, That v)) = binary_of.ShiftRight

-- `+`, `-`
abbrev pub plus_op : Either (Unit {0}) (Unit {0}) → BinaryOp
plus_op (This u) = binary_of.Plus
plus_op (That u) = binary_of.Minus

-- `*`, `/`, `%`
abbrev pub times_op : Either (Unit {0}) (Either (Unit {0}) (Unit {0})) → BinaryOp
times_op (This u) = binary_of.Times
times_op (That (This u)) = binary_of.Divide
times_op (That (That u)) = binary_of.Remainder

-- `>=` is a `>` that touches a `=`, and where that can't be read `>` is read alone (JLS 15.20.1)
unfoldable pub less_run : Run BinaryOp
less_run =
    as_new less_op (either (sign_code sign_of.Less ∷ []) (of_kind (sign_code sign_of.Less))
    (either (sign_code sign_of.LessEqual ∷ []) (of_kind (sign_code sign_of.LessEqual))
    (preferring (in_turn touching_run (of_kind (sign_code sign_of.Assign))) (of_kind (sign_code sign_of.Greater)))))

-- `>>>` and `>>` are signs `>` that touch each other: three of them before two (JLS 15.19)
unfoldable pub shift_run : Run BinaryOp
shift_run =
    as_new shift_op (either (sign_code sign_of.ShiftLeft ∷ []) (of_kind (sign_code sign_of.ShiftLeft))
    (in_turn touching_run (preferring (in_turn touching_run (of_kind (sign_code sign_of.Greater))) (of_kind (sign_code sign_of.Greater)))))

-- the operators of one token, level by level (JLS 15.22 to 15.24)
unfoldable pub or_else_run : Run BinaryOp
or_else_run = as_new or_else_op (of_kind (sign_code sign_of.OrOr))

unfoldable pub and_also_run : Run BinaryOp
and_also_run = as_new and_also_op (of_kind (sign_code sign_of.AndAnd))

unfoldable pub or_run : Run BinaryOp
or_run = as_new or_op (of_kind (sign_code sign_of.Or))

unfoldable pub xor_run : Run BinaryOp
xor_run = as_new xor_op (of_kind (sign_code sign_of.Caret))

unfoldable pub and_run : Run BinaryOp
and_run = as_new and_op (of_kind (sign_code sign_of.And))

-- those of levels with two or three, each of one token (JLS 15.17, 15.18, 15.21)
unfoldable pub equal_run : Run BinaryOp
equal_run = as_new equal_op (either (sign_code sign_of.Equal ∷ []) (of_kind (sign_code sign_of.Equal)) (of_kind (sign_code sign_of.NotEqual)))

unfoldable pub plus_run : Run BinaryOp
plus_run = as_new plus_op (either (sign_code sign_of.Plus ∷ []) (of_kind (sign_code sign_of.Plus)) (of_kind (sign_code sign_of.Minus)))

unfoldable pub times_run : Run BinaryOp
times_run =
    as_new times_op (either (sign_code sign_of.Star ∷ []) (of_kind (sign_code sign_of.Star))
    (either (sign_code sign_of.Slash ∷ []) (of_kind (sign_code sign_of.Slash)) (of_kind (sign_code sign_of.Percent))))

-- a value is too high to stand inside of one of height h + 1
abbrev pub is_tall : ℕ → Expr → Bool
is_tall h e = not (nat_le (expr_height e) h)

-- an operator with its right operand
abbrev pub operand_made : (BinaryOp × Expr) → Operand
operand_made p = operand_of.Binary p.0 p.1

-- a first operand alone where no operator stands behind it, and else a chain
abbrev pub chain_made : (Expr × List (BinaryOp × Expr)) → Expr
chain_made (first, []) = first
chain_made (first, p ∷ more) = expr_of.Chain first (map operand_made (p ∷ more))

-- a binary level of height h + 1: the first operand, of the next level, and behind one that is not too high any number of operators with operands
unfoldable pub chain_run : ℕ → Run BinaryOp → Run Expr → Run Expr → Run Expr
chain_run zero op first next = first
chain_run (suc k) op first next = as_new chain_made (followed (is_tall (suc k)) [] first (any_number (in_turn op next)))

-- prefix operators

-- `+`, `-`, `++`, `--`, `!` and `~`, and None for all other tokens (JLS 15.15)
abbrev pub prefix_of_sign : Sign → Option PrefixSign
prefix_of_sign sign_of.Plus = Some prefix_of.Plus
prefix_of_sign sign_of.Minus = Some prefix_of.Minus
prefix_of_sign sign_of.Increment = Some prefix_of.Increment
prefix_of_sign sign_of.Decrement = Some prefix_of.Decrement
prefix_of_sign sign_of.Not = Some prefix_of.Not
prefix_of_sign sign_of.Tilde = Some prefix_of.Complement
prefix_of_sign _ = None

abbrev pub prefix_of_kind : TokenKind → Option PrefixSign
prefix_of_kind (kind_of.Sign s) = prefix_of_sign s
prefix_of_kind _ = None

-- an operator at the place of its token
abbrev pub prefix_placed : ℕ → Option PrefixSign → Option PrefixOp
prefix_placed at None = None
prefix_placed at (Some s) = Some (record { at = at; sign = s })

abbrev pub picks_prefix : Token → Option PrefixOp
picks_prefix t = prefix_placed t.from (prefix_of_kind t.kind)

abbrev pub prefix_op_run : Run PrefixOp
prefix_op_run = picking picks_prefix

-- `!` at its place, or `~`
abbrev pub plain_op : Either ℕ ℕ → PrefixOp
plain_op (This at) = record { at = at; sign = prefix_of.Not }
plain_op (That at) = record { at = at; sign = prefix_of.Complement }

-- `!` or `~`
unfoldable pub plain_op_run : Run PrefixOp
plain_op_run = as_new plain_op (either (sign_code sign_of.Not ∷ []) (at_kind (sign_code sign_of.Not)) (at_kind (sign_code sign_of.Tilde)))

-- a first prefix operator, more of them and the operand behind them all
abbrev pub prefix_made : (PrefixOp × (List PrefixOp × Expr)) → Expr
prefix_made p = expr_of.Prefix p.0 p.1.0 p.1.1

-- the codes of the prefix operators
abbrev pub prefix_codes : List ℕ
prefix_codes = sign_code sign_of.Plus ∷ sign_code sign_of.Minus ∷ sign_code sign_of.Increment ∷ sign_code sign_of.Decrement ∷ sign_code sign_of.Not ∷ sign_code sign_of.Tilde ∷ []

-- a chain of prefix operators before what is none, of height h
abbrev pub prefix_run : Run PrefixOp → Run Expr → Run Expr
prefix_run first bare = as_new prefix_made (in_turn first (in_turn (any_number prefix_op_run) bare))

-- Plain of height h + 1, of Bare of height h + 1 and of height h
unfoldable pub plain_run : ℕ → Run Expr → Run Expr → Run Expr
plain_run zero bare lower = bare
plain_run (suc k) bare lower = as_new either_one (either (sign_code sign_of.Not ∷ sign_code sign_of.Tilde ∷ []) (prefix_run plain_op_run lower) bare)

-- Unary
unfoldable pub unary_run : ℕ → Run Expr → Run Expr → Run Expr
unary_run zero bare lower = bare
unary_run (suc k) bare lower = as_new either_one (either prefix_codes (prefix_run prefix_op_run lower) bare)

-- casts: behind a primitive type stands a Unary, behind another type a Plain

-- what stands behind a cast, told by whether its type is primitive
abbrev pub operand_for : Bool → Run Expr → Run Expr → Run Expr
operand_for true unary plain = unary
operand_for false unary plain = plain

-- "(" Type ")" and the operand, with the place of the first parenthesis (JLS 15.16)
abbrev pub CastParts : Type 0
CastParts = ℕ × ((TypeTree × Unit {0}) × Expr)

abbrev pub cast_run : ℕ → Run Expr → Run Expr → Run CastParts
cast_run h unary plain =
    in_turn (at_kind (sign_code sign_of.LeftParen)) (by_value (in_turn (type_run h) (of_kind (sign_code sign_of.RightParen))) (λ p. operand_for (is_primitive p.0) unary plain))

-- a cast, or a value of the postfix level
abbrev pub bare_made : Either CastParts Expr → Expr
bare_made (This p) = expr_of.Cast p.0 p.1.0.0 p.1.1
bare_made (That e) = e

-- Bare = Cast | Post, of height h + 1, of Unary and Plain of height h and of Post of height h + 1
unfoldable pub bare_run : ℕ → Run Expr → Run Expr → Run Expr → Run Expr
bare_run zero unary plain post = post
bare_run (suc k) unary plain post = as_new bare_made (preferring (cast_run (suc k) unary plain) post)

-- conditionals and assignments

-- ["?" Expr ":" Cond] behind a test, which without branches stands alone (JLS 15.25)
abbrev pub Branches : Type 0
Branches = Option (Unit {0} × (Expr × (Unit {0} × Expr)))

abbrev pub conditional_made : (Expr × Branches) → Expr
conditional_made (test, None) = test
conditional_made (test, Some p) = expr_of.Conditional test p.1.0 p.1.1.1

-- Cond of height h + 1, of level 2 of height h + 1, and expressions and Cond of height h
unfoldable pub conditional_run : ℕ → Run Expr → Run Expr → Run Expr → Run Expr
conditional_run zero test expr conditional = test
conditional_run (suc k) test expr conditional =
    as_new conditional_made (followed (is_tall (suc k)) None test (perhaps (in_turn (of_kind (sign_code sign_of.Question)) (in_turn expr (in_turn (of_kind (sign_code sign_of.Colon)) conditional)))))

-- `>>=` or `>>>=`: runs of tokens that touch
abbrev pub Touched : Type 0
Touched = Unit {0} × (Unit {0} × Either (Unit {0}) (Unit {0} × Unit {0}))

abbrev pub touched_assign_run : Run Touched
touched_assign_run = in_turn touching_run (in_turn touching_run (either (sign_code sign_of.Assign ∷ []) (of_kind (sign_code sign_of.Assign)) (in_turn touching_run (of_kind (sign_code sign_of.Assign)))))

-- `=`, `+=`, `-=`, `*=`, `/=`, `%=`, `&=`, `|=`, `^=`, `<<=`, and else `>>=` or `>>>=` (JLS 15.26)
abbrev pub AssignSign : Type 0
AssignSign = Either (Unit {0}) (Either (Unit {0}) (Either (Unit {0}) (Either (Unit {0}) (Either (Unit {0}) (Either (Unit {0}) (Either (Unit {0}) (Either (Unit {0}) (Either (Unit {0}) (Either (Unit {0}) Touched)))))))))

abbrev pub assign_op : AssignSign → AssignOp
assign_op (This u) = assign_of.Plain
assign_op (That (This u)) = assign_of.Plus
assign_op (That (That (This u))) = assign_of.Minus
assign_op (That (That (That (This u)))) = assign_of.Times
assign_op (That (That (That (That (This u))))) = assign_of.Divide
assign_op (That (That (That (That (That (This u)))))) = assign_of.Remainder
assign_op (That (That (That (That (That (That (This u))))))) = assign_of.And
assign_op (That (That (That (That (That (That (That (This u)))))))) = assign_of.Or
assign_op (That (That (That (That (That (That (That (That (This u))))))))) = assign_of.Xor
assign_op (That (That (That (That (That (That (That (That (That (This u)))))))))) = assign_of.ShiftLeft
assign_op (That (That (That (That (That (That (That (That (That (That ((u, (v, This w))))))))))))) = assign_of.ShiftRight
assign_op (That (That (That (That (That (That (That (That (That (That ((u, (v, That p))))))))))))) = assign_of.ShiftRightZero

unfoldable pub assign_run : Run AssignOp
assign_run = as_new assign_op (either (sign_code sign_of.Assign ∷ []) (of_kind (sign_code sign_of.Assign)) (either (sign_code sign_of.PlusAssign ∷ []) (of_kind (sign_code sign_of.PlusAssign)) (either (sign_code sign_of.MinusAssign ∷ []) (of_kind (sign_code sign_of.MinusAssign)) (either (sign_code sign_of.StarAssign ∷ []) (of_kind (sign_code sign_of.StarAssign)) (either (sign_code sign_of.SlashAssign ∷ []) (of_kind (sign_code sign_of.SlashAssign)) (either (sign_code sign_of.PercentAssign ∷ []) (of_kind (sign_code sign_of.PercentAssign)) (either (sign_code sign_of.AndAssign ∷ []) (of_kind (sign_code sign_of.AndAssign)) (either (sign_code sign_of.OrAssign ∷ []) (of_kind (sign_code sign_of.OrAssign)) (either (sign_code sign_of.CaretAssign ∷ []) (of_kind (sign_code sign_of.CaretAssign)) (either (sign_code sign_of.ShiftLeftAssign ∷ []) (of_kind (sign_code sign_of.ShiftLeftAssign)) (touched_assign_run)))))))))))

-- an assignment needs a target of the postfix level that is not too high
abbrev pub no_target : ℕ → Expr → Bool
no_target h e = not (nat_le (expr_height e) h && stands post_level (expr_shape e))

-- an assignment, or what could be its target alone where no operator stands behind it
abbrev pub assign_made : (Expr × Option (AssignOp × Expr)) → Expr
assign_made (target, None) = target
assign_made (target, Some p) = expr_of.Assign target p.0 p.1

-- Expr of height h + 1, of Cond of height h + 1 and Expr of height h
unfoldable pub expr_run : ℕ → Run Expr → Run Expr → Run Expr
expr_run zero conditional expr = conditional
expr_run (suc k) conditional expr = as_new assign_made (followed (no_target (suc k)) None conditional (perhaps (in_turn assign_run expr)))

-- the readers of all levels, of one height
pub record Levels : Type 0 where
  pub bare : Run Expr
  pub plain : Run Expr
  pub unary : Run Expr
  pub times : Run Expr
  pub plus : Run Expr
  pub shift : Run Expr
  pub compared : Run Expr
  pub equal : Run Expr
  pub bit_and : Run Expr
  pub bit_xor : Run Expr
  pub bit_or : Run Expr
  pub and_also : Run Expr
  pub or_else : Run Expr
  pub conditional : Run Expr
  pub expr : Run Expr

-- those of height h + 1, of those of height h and of the postfix level of height h + 1; the level of `<` and `instanceof` is read by `compare`
unfoldable pub next_levels : (ℕ → Run Expr → Run Expr → Run Expr) → ℕ → Levels → Run Expr → Levels
next_levels compare h low post =
    let bare : Run Expr = bare_run h low.unary low.plain post in
    let unary : Run Expr = unary_run h bare low.bare in
    let times : Run Expr = chain_run h times_run unary low.unary in
    let plus : Run Expr = chain_run h plus_run times low.times in
    let shift : Run Expr = chain_run h shift_run plus low.plus in
    let compared : Run Expr = compare h shift low.shift in
    let equal : Run Expr = chain_run h equal_run compared low.compared in
    let bit_and : Run Expr = chain_run h and_run equal low.equal in
    let bit_xor : Run Expr = chain_run h xor_run bit_and low.bit_and in
    let bit_or : Run Expr = chain_run h or_run bit_xor low.bit_xor in
    let and_also : Run Expr = chain_run h and_also_run bit_or low.bit_or in
    let or_else : Run Expr = chain_run h or_else_run and_also low.and_also in
    let conditional : Run Expr = conditional_run h or_else low.expr low.conditional in
    record {
      bare = bare;
      plain = plain_run h bare low.bare;
      unary = unary;
      times = times;
      plus = plus;
      shift = shift;
      compared = compared;
      equal = equal;
      bit_and = bit_and;
      bit_xor = bit_xor;
      bit_or = bit_or;
      and_also = and_also;
      or_else = or_else;
      conditional = conditional;
      expr = expr_run h conditional low.expr;
    }

-- of no height nothing is read, and the reach is the first token
abbrev pub none_at : {A : Type 0} → Run A
none_at ts = Stopped (length ts)

abbrev pub no_levels : Levels
no_levels = record {
  bare = none_at;
  plain = none_at;
  unary = none_at;
  times = none_at;
  plus = none_at;
  shift = none_at;
  compared = none_at;
  equal = none_at;
  bit_and = none_at;
  bit_xor = none_at;
  bit_or = none_at;
  and_also = none_at;
  or_else = none_at;
  conditional = none_at;
  expr = none_at;
}
