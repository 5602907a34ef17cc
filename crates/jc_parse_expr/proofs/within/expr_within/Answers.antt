use Rattle.std.proofs.Common.{◌≤◌, length, sym, subst}
use Rattle.std.proofs.lemmas.Result.{err_from_is_err_and}
use Rattle.jc_expr_laws.specs.ExprReading.{exprs}
use Rattle.jc_parse_expr.proofs.Bounds.{expr_rest}
use Rattle.jc_parse_expr.proofs.JoinedSteps.{found_same}
use Rattle.jc_parse_expr.proofs.WithinCode.{plain_found, plain_halts}
use Rattle.jc_parse_expr.proofs.within.expr_within.Goals as goal

pub returns-in_err-found-clause-read : goal.returns-in_err-found-clause-read
returns-in_err-found-clause-read c =
    let p = err_from_is_err_and c.from_residual.result c.from_residual.ensures.1 in
    rw (p.1, p.2) (plain_halts (exprs.expr c.args.height c.args.tokens.now) _ c.in_err-found.ensures)

pub returns-clause-read : goal.returns-clause-read
returns-clause-read c =
    let v = c.in_ok-found.found in
    let same = c.without_height.ensures in
    found_same (exprs.expr c.args.height c.args.tokens.now) v.value.tree _ v.rest.now _ v.left _ (plain_found (exprs.expr c.args.height c.args.tokens.now) v.value v.rest.now v.left c.in_ok-found.ensures) same.0 same.1 same.2

pub returns-clause-shorter : goal.returns-clause-shorter
returns-clause-shorter c =
    let v = c.in_ok-found.found in
    let w = expr_rest c.args.height c.args.tokens.now v.value v.rest.now v.left c.in_ok-found.ensures in
    subst (λ q. length q ≤ length c.args.tokens.now) (sym c.without_height.ensures.1) w
