-- Trees of small sources, with their tokens, their heights and whether the grammar has them: checks of the definitions.
use Rattle.std.specs.Prelude.{◌≡◌, ℕ, ◌+◌, Bool, true, false, List, [], ◌∷◌}
use Rattle.jc_lexer.specs.declared.token.Key.TheVariants as key_of
use Rattle.jc_lexer.specs.declared.token.Sign.{Sign}
use Rattle.jc_lexer.specs.declared.token.Sign.TheVariants as sign_of
use Rattle.jc_lexer.specs.declared.token.Token.{Token}
use Rattle.jc_lexer.specs.declared.token.TokenKind.TheVariants as kind_of
use Rattle.jc_tree.specs.declared.name.Ident.{Ident}
use Rattle.jc_tree.specs.declared.types.BaseTree.TheVariants as aBase
use Rattle.jc_tree.specs.declared.types.ClassTree.{ClassTree, roll-ClassTree}
use Rattle.jc_tree.specs.declared.types.PrimitiveWord.TheVariants as word_of
use Rattle.jc_tree.specs.declared.types.TypeArg.{TypeArg}
use Rattle.jc_tree.specs.declared.types.TypeArg.TheVariants as anArg
use Rattle.jc_tree.specs.declared.types.TypePart.{TypePart, roll-TypePart}
use Rattle.jc_tree.specs.declared.types.TypeTree.{TypeTree, roll-TypeTree}
use Rattle.jc_tree.specs.declared.expression.AssignOp.TheVariants as assign_of
use Rattle.jc_tree.specs.declared.expression.BinaryOp.{BinaryOp}
use Rattle.jc_tree.specs.declared.expression.BinaryOp.TheVariants as binary_of
use Rattle.jc_tree.specs.declared.expression.Creation.TheVariants as aCreation
use Rattle.jc_tree.specs.declared.expression.Expr.{Expr}
use Rattle.jc_tree.specs.declared.expression.Expr.TheVariants as an
use Rattle.jc_tree.specs.declared.expression.Operand.TheVariants as anOperand
use Rattle.jc_tree.specs.declared.expression.PrefixSign.TheVariants as prefix_of
use Rattle.jc_tree.specs.declared.statement.Clause.{Clause, roll-Clause}
use Rattle.jc_tree.specs.declared.statement.ClauseHead.TheVariants as clause_of
use Rattle.jc_tree.specs.declared.statement.Stmt.{Stmt}
use Rattle.jc_tree.specs.declared.statement.Stmt.TheVariants as a
use Rattle.jc_tree.specs.Heights.{type_height, expr_height, stmt_height}
use Rattle.jc_grammar.specs.Told.{ident, sign, sign_at, key, key_at}
use Rattle.jc_grammar.specs.Types.{type_tokens}
use Rattle.jc_grammar.specs.Expressions.{expr_tokens}
use Rattle.jc_grammar.specs.Statements.{stmt_tokens}
use Rattle.jc_grammar.specs.Shapes.{is_expr, is_effect}
use Rattle.jc_grammar.specs.Units.{stmt_shape}
use Rattle.jc_grammar.specs.Spelling.{AreTold}

-- an identifier of one letter
abbrev pub letter : ℕ → ℕ → Ident
letter code at = record { at = at; text = code ∷ [] }

-- an expression that is a name of one letter, by the code of the letter and the offset
abbrev pub name : ℕ → ℕ → Expr
name code at = an.Name (letter code at)

-- a chain of one operator
abbrev pub binary : Expr → BinaryOp → Expr → Expr
binary left op right = an.Chain left (anOperand.Binary op right ∷ [])

-- a type of one part
abbrev pub named : ℕ → ℕ → List TypeArg → TypeTree
named code at args =
    let part : TypePart = roll-TypePart (record { name = letter code at; args = args }) in
    let class : ClassTree = roll-ClassTree (record { first = part; more = [] }) in
    roll-TypeTree (record { base = aBase.Class class; dims = 0 })

-- `int` at an offset
abbrev pub int_at : ℕ → TypeTree
int_at at = roll-TypeTree (record { base = aBase.Primitive at word_of.Int; dims = 0 })

-- `a + b * c`
abbrev pub sum : Expr
sum = binary (name 97 0) binary_of.Plus (binary (name 98 4) binary_of.Times (name 99 8))

-- `(int) x`
abbrev pub cast : Expr
cast = an.Cast 0 (int_at 1) (name 120 6)

-- `-x`
abbrev pub minus : Expr
minus = an.Prefix (record { at = 8; sign = prefix_of.Minus }) [] (name 120 9)

-- `a >> b`
abbrev pub shift : Expr
shift = binary (name 97 0) binary_of.ShiftRight (name 98 5)

-- `L<L<S>>`
abbrev pub lists : TypeTree
lists = named 76 0 (anArg.Exact (named 76 2 (anArg.Exact (named 83 4 []) ∷ [])) ∷ [])

-- `new int[n][0]`, were the last brackets a selector
abbrev pub indexed_creation : Expr
indexed_creation = an.Index (an.New 0 (aCreation.Sized (aBase.Primitive 4 word_of.Int) (name 110 8) [] 0)) (name 48 11)

-- `a.new int[n][0]`, were the last brackets a selector
abbrev pub indexed_inner : Expr
indexed_inner = an.Index (an.InnerNew (name 97 0) (aCreation.Sized (aBase.Primitive 6 word_of.Int) (name 110 10) [] 0)) (name 48 13)

-- a part of an `if` at an offset, whose test is the name of one letter, four further on
abbrev pub arm : ℕ → ℕ → List Stmt → Clause
arm at code items = roll-Clause (record { at = at; head = clause_of.If (name code (at + 4)); items = items })

-- `if (a) ; else if (b) ; else ;`
abbrev pub branches : Stmt
branches = a.If (arm 0 97 (a.Empty 7 ∷ []) ∷ arm 14 98 (a.Empty 21 ∷ []) ∷ []) (a.Empty 28 ∷ [])

-- `if (a) if (b) ; else ;` with the `else` at the inner `if`, and at the outer one
abbrev pub inner_else : Stmt
inner_else = a.If (arm 0 97 (a.If (arm 7 98 (a.Empty 14 ∷ []) ∷ []) (a.Empty 21 ∷ []) ∷ []) ∷ []) []

abbrev pub outer_else : Stmt
outer_else = a.If (arm 0 97 (a.If (arm 7 98 (a.Empty 14 ∷ []) ∷ []) [] ∷ []) ∷ []) (a.Empty 21 ∷ [])

-- a token of one unit: its offset, and whether the next token touches it
abbrev pub word_token : ℕ → ℕ → Bool → Token
word_token code from touches = record { kind = kind_of.Word (code ∷ []); from = from; to = from + 1; touches = touches }

abbrev pub sign_token : Sign → ℕ → Bool → Token
sign_token s from touches = record { kind = kind_of.Sign s; from = from; to = from + 1; touches = touches }

-- the tokens of `a >> b`, and of `a > > b`
abbrev pub shift_source : List Token
shift_source = word_token 97 0 false ∷ sign_token sign_of.Greater 2 true ∷ sign_token sign_of.Greater 3 false ∷ word_token 98 5 false ∷ []

abbrev pub apart_source : List Token
apart_source = word_token 97 0 false ∷ sign_token sign_of.Greater 2 false ∷ sign_token sign_of.Greater 4 false ∷ word_token 98 6 false ∷ []

-- the tokens of `L<L<S>>`
abbrev pub lists_source : List Token
lists_source =
    word_token 76 0 true ∷ sign_token sign_of.Less 1 true ∷ word_token 76 2 true ∷ sign_token sign_of.Less 3 true ∷ word_token 83 4 true
    ∷ sign_token sign_of.Greater 5 true ∷ sign_token sign_of.Greater 6 false ∷ []

-- what comes out for these trees
pub record WorkedTrees : Type 0 where
  -- `*` is tighter than `+`
  pub sum_tokens : expr_tokens sum [] ≡ ident (letter 97 0) ∷ sign sign_of.Plus ∷ ident (letter 98 4) ∷ sign sign_of.Star ∷ ident (letter 99 8) ∷ []
  pub sum_is : is_expr sum ≡ true
  pub sum_height : expr_height sum ≡ 3
  pub loose_left : is_expr (binary (binary (name 97 0) binary_of.Plus (name 98 4)) binary_of.Times (name 99 8)) ≡ false
  -- a chain of one level is one node, and groups to the left
  pub chain_is : is_expr (an.Chain (name 97 0) (anOperand.Binary binary_of.Minus (name 98 4) ∷ anOperand.Binary binary_of.Minus (name 99 8) ∷ [])) ≡ true
  pub right_chain : is_expr (binary (name 97 0) binary_of.Minus (binary (name 98 4) binary_of.Minus (name 99 8))) ≡ false
  -- an assignment groups to the right
  pub assign_is : is_expr (an.Assign (name 97 0) assign_of.Plain (an.Assign (name 98 4) assign_of.Plain (name 99 8))) ≡ true
  pub left_assign : is_expr (an.Assign (an.Assign (name 97 0) assign_of.Plain (name 98 4)) assign_of.Plain (name 99 8)) ≡ false
  -- a cast to a primitive type takes `-x`, and one to a class does not
  pub cast_tokens : expr_tokens cast [] ≡ sign_at sign_of.LeftParen 0 ∷ key_at key_of.Int 1 ∷ sign sign_of.RightParen ∷ ident (letter 120 6) ∷ []
  pub cast_is : is_expr cast ≡ true
  pub cast_height : expr_height cast ≡ 2
  pub cast_of_minus : is_expr (an.Cast 0 (int_at 1) minus) ≡ true
  pub class_cast_of_minus : is_expr (an.Cast 0 (named 65 1 []) minus) ≡ false
  -- `>>` is an operator where its signs touch, and two brackets wherever they stand
  pub shift_is : is_expr shift ≡ true
  pub shift_told : AreTold false (expr_tokens shift []) shift_source
  pub apart_not_told : AreTold false (expr_tokens shift []) apart_source → ⊥
  pub lists_told : AreTold false (type_tokens lists []) lists_source
  pub lists_height : type_height lists ≡ 3
  -- after a creation with lengths a bracket is no selector
  pub creation_takes_no_selector : is_expr indexed_creation ≡ false
  pub inner_creation_takes_no_selector : is_expr indexed_inner ≡ false
  -- a chain of `else if` is one node, and an `else` belongs to the nearest `if`
  pub branches_tokens : stmt_tokens branches [] ≡ key_at key_of.If 0 ∷ sign sign_of.LeftParen ∷ ident (letter 97 4) ∷ sign sign_of.RightParen ∷ sign_at sign_of.Semicolon 7 ∷ key key_of.Else ∷ key_at key_of.If 14 ∷ sign sign_of.LeftParen ∷ ident (letter 98 18) ∷ sign sign_of.RightParen ∷ sign_at sign_of.Semicolon 21 ∷ key key_of.Else ∷ sign_at sign_of.Semicolon 28 ∷ []
  pub branches_good : (stmt_shape branches).good ≡ true
  pub branches_height : stmt_height branches ≡ 2
  pub inner_else_good : (stmt_shape inner_else).good ≡ true
  pub outer_else_bad : (stmt_shape outer_else).good ≡ false
  -- a name is no statement
  pub name_no_effect : is_effect (name 97 0) ≡ false
