-- How primaries with postfix operators are read (JLS 15.14).
use Rattle.std.specs.Prelude.{ℕ, Bool, true, false, nat_le, List, length, Option, Some, None}
use Rattle.jc_lexer.specs.declared.token.Sign.{Sign}
use Rattle.jc_lexer.specs.declared.token.Sign.TheVariants as sign_of
use Rattle.jc_lexer.specs.declared.token.Token.{Token}
use Rattle.jc_lexer.specs.declared.token.TokenKind.{TokenKind}
use Rattle.jc_lexer.specs.declared.token.TokenKind.TheVariants as kind_of
use Rattle.jc_tree.specs.declared.expression.ArrayInit.{ArrayInit}
use Rattle.jc_tree.specs.declared.expression.PostfixOp.{PostfixOp}
use Rattle.jc_tree.specs.declared.expression.PostfixOp.TheVariants as postfix_of
use Rattle.jc_tree.specs.declared.expression.Expr.{Expr}
use Rattle.jc_tree.specs.declared.expression.Expr.TheVariants as expr_of
use Rattle.jc_tree.specs.Heights.{expr_height}
use Rattle.jc_reading.specs.Reading.{Stopped, Run, as_new, picking}
use Rattle.jc_reading.specs.Growing.{growing, grown}
use Rattle.jc_expr_laws.specs.StartReading.{prime_run}

-- a token that is a postfix operator: `++` or `--`, and None for all others (JLS 15.14.2, 15.14.3)
abbrev pub op_of_sign : Sign → Option PostfixOp
op_of_sign sign_of.Increment = Some postfix_of.Increment
op_of_sign sign_of.Decrement = Some postfix_of.Decrement
op_of_sign _ = None

abbrev pub op_of_kind : TokenKind → Option PostfixOp
op_of_kind (kind_of.Sign s) = op_of_sign s
op_of_kind _ = None

abbrev pub picks_op : Token → Option PostfixOp
picks_op t = op_of_kind t.kind

-- with room for a value that the operator changes
abbrev pub op_run : Bool → Run PostfixOp
op_run true = picking picks_op
op_run false = λ ts. Stopped (length ts)

-- a value with a postfix operator behind it
abbrev pub changed : Expr → PostfixOp → Expr
changed v op = expr_of.Postfix v op

-- one operator behind v: none where v has more than h heights
abbrev pub ops_run : ℕ → Expr → Run PostfixOp
ops_run h v = op_run (nat_le (expr_height v) h)

-- the value that the operators make, the first of them innermost
abbrev pub changed_by : (Expr × List PostfixOp) → Expr
changed_by g = grown changed g.0 g.1

-- a primary and postfix operators behind it: of height at most one more than h
unfoldable pub post_run : ℕ → Run Expr → Run ArrayInit → Run Expr
post_run h expr array = as_new changed_by (growing (prime_run h expr array) changed (ops_run h))
