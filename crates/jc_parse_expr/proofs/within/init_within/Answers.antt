use Rattle.std.proofs.Common.{◌∙◌, sym}
use Rattle.std.proofs.lemmas.Result.{err_from_is_err_and}
use Rattle.jc_parse_expr.proofs.Bounds.{array_rest, expr_rest, nested_found, nested_halts, value_found, value_halts}
use Rattle.jc_parse_expr.proofs.within.init_within.Goals as goal

pub returns-in_err-array-clause-read : goal.returns-in_err-array-clause-read
returns-in_err-array-clause-read c =
    let p = err_from_is_err_and c.from_residual.result c.from_residual.ensures.1 in
    rw (p.1, p.2) (nested_halts c.args.height c.args.tokens.now _ (sym c.is_at.ensures ∙ c.if-is_at.true) c.in_err-array.ensures)

pub returns-then-is_at-clause-read : goal.returns-then-is_at-clause-read
returns-then-is_at-clause-read c =
    let v = c.in_ok-array.array in
    nested_found c.args.height c.args.tokens.now v.value v.rest.now v.left (sym c.is_at.ensures ∙ c.if-is_at.true) c.in_ok-array.ensures

pub returns-then-is_at-clause-shorter : goal.returns-then-is_at-clause-shorter
returns-then-is_at-clause-shorter c =
    let v = c.in_ok-array.array in
    array_rest c.args.height c.args.tokens.now v.value v.rest.now v.left c.in_ok-array.ensures

pub returns-in_err-value-clause-read : goal.returns-in_err-value-clause-read
returns-in_err-value-clause-read c =
    let p = err_from_is_err_and c.from_residual-in_err-value.result c.from_residual-in_err-value.ensures.1 in
    rw (p.1, p.2) (value_halts c.args.height c.args.tokens.now _ (sym c.is_at.ensures ∙ c.if-is_at.false) c.in_err-value.ensures)

pub returns-clause-read : goal.returns-clause-read
returns-clause-read c =
    let v = c.in_ok-value.value in
    value_found c.args.height c.args.tokens.now v.value v.rest.now v.left (sym c.is_at.ensures ∙ c.if-is_at.false) c.in_ok-value.ensures

pub returns-clause-shorter : goal.returns-clause-shorter
returns-clause-shorter c =
    let v = c.in_ok-value.value in
    expr_rest c.args.height c.args.tokens.now v.value v.rest.now v.left c.in_ok-value.ensures
