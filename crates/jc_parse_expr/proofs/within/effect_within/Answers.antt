use Rattle.std.proofs.Common.{◌≤◌, List, length, sym, subst, arith}
use Rattle.std.proofs.lemmas.Result.{err_from_is_err_and}
use Rattle.jc_lexer.specs.declared.token.Token.{Token}
use Rattle.jc_tree.specs.declared.expression.Expr.{Expr}
use Rattle.jc_reading.specs.Giving.{Gives}
use Rattle.jc_reading.specs.Reading.{Read}
use Rattle.jc_expr_laws.specs.ExprReading.{strict_effect}
use Rattle.jc_parse_expr.specs.BinaryLevels.{levels_at, post_at}
use Rattle.jc_parse_expr.proofs.Bounds.{crement_rest, prefixed_rest}
use Rattle.jc_parse_expr.proofs.EffectCode.{effect_changing}
use Rattle.jc_parse_expr.proofs.JoinedSteps.{found_same}
use Rattle.jc_parse_expr.proofs.WithinCode.{effect_prefix_found, effect_prefix_halts}
use Rattle.jc_parse_expr.proofs.within.effect_within.Goals as goal

pub prefixed-requires : goal.prefixed-requires
prefixed-requires c =
    let w = crement_rest c.args.tokens.now c.in-Some.op c.in-Some.after.now c.in-Some.ensures.read in
    omega (arith, w)

pub returns-in_err-found-in-Some-clause-read : goal.returns-in_err-found-in-Some-clause-read
returns-in_err-found-in-Some-clause-read c =
    let l = levels_at c.args.height in
    let p = err_from_is_err_and c.from_residual.result c.from_residual.ensures.1 in
    rw (p.1, p.2) (effect_prefix_halts l.bare (post_at c.args.height) l.expr c.args.tokens.now c.in-Some.after.now c.in-Some.op _ c.in-Some.ensures.front c.in-Some.ensures.read c.in_err-found-in-Some.ensures)

pub returns-in_ok-found-in-Some-clause-read : goal.returns-in_ok-found-in-Some-clause-read
returns-in_ok-found-in-Some-clause-read c =
    let l = levels_at c.args.height in
    let v = c.in_ok-found-in-Some.found in
    let same = c.without_height.ensures in
    found_same (strict_effect c.args.height c.args.tokens.now) v.value.tree _ v.rest.now _ v.left _ (effect_prefix_found l.bare (post_at c.args.height) l.expr c.args.tokens.now c.in-Some.after.now c.in-Some.op v.value v.rest.now v.left c.in-Some.ensures.front c.in-Some.ensures.read c.in_ok-found-in-Some.ensures) same.0 same.1 same.2

pub returns-in_ok-found-in-Some-clause-shorter : goal.returns-in_ok-found-in-Some-clause-shorter
returns-in_ok-found-in-Some-clause-shorter c =
    let v = c.in_ok-found-in-Some.found in
    let w = prefixed_rest c.args.height c.in-Some.op c.in-Some.after.now v.value v.rest.now v.left c.in_ok-found-in-Some.ensures in
    let x = crement_rest c.args.tokens.now c.in-Some.op c.in-Some.after.now c.in-Some.ensures.read in
    subst (λ (q : List Token). length q ≤ length c.args.tokens.now) (sym c.without_height.ensures.1) (omega (arith, w, x))

pub returns-in-None-clause-read : goal.returns-in-None-clause-read
returns-in-None-clause-read c =
    let l = levels_at c.args.height in
    subst (λ (m : Read Expr). Gives c.changing.result m) (sym (effect_changing l.bare (post_at c.args.height) l.expr c.args.tokens.now c.in-None.ensures.front)) c.changing.ensures.read
