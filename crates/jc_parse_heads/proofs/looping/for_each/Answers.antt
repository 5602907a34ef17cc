use Rattle.std.proofs.Common.{sym, subst, arith}
use Rattle.std.proofs.lemmas.Result.{err_from_is_err_and}
use Rattle.jc_lexer.specs.declared.token.Sign.TheVariants as sign_of
use Rattle.jc_reading.specs.Giving.{Gives, Halts}
use Rattle.jc_reading.specs.Reading.{Read}
use Rattle.jc_parse_heads.proofs.Joinings.{two_halts}
use Rattle.jc_tree.specs.declared.expression.Expr.{Expr}
use Rattle.jc_reading.specs.Reading.{of_kind}
use Rattle.jc_reading.specs.Kinds.{sign_code}
use Rattle.jc_parse_heads.specs.HeadCode.{closed_expr_run}
use Rattle.jc_parse_heads.proofs.ForForms.{for_each_is, for_each_found}
use Rattle.jc_parse_heads.proofs.looping.for_each.Goals as goal

pub returns-in_err-colon : goal.returns-in_err-colon
returns-in_err-colon c = let p = err_from_is_err_and c.from_residual.result c.from_residual.ensures.1 in rw (p.1, p.2) (subst (λ (v : Read (Expr)). Halts c.in_err-colon.field-0.0 v) (sym (for_each_is c.args.height c.args.tokens.now)) (two_halts (λ (p : Unit {0} × Expr). p.1) (of_kind (sign_code sign_of.Colon) c.args.tokens.now) (closed_expr_run c.args.height) c.in_err-colon.field-0.0 (c.in_err-colon.ensures.read)))

pub returns : goal.returns
returns c = let o = c.in_ok-colon.colon in subst (λ (v : Read (Expr)). Gives c.reaching.result v) (sym (for_each_found c.args.height c.args.tokens.now o.rest.now o.left c.in_ok-colon.ensures.read)) (c.reaching.ensures.read (closed_expr_run c.args.height o.rest.now) c.closed_expr.ensures)
