use Rattle.std.proofs.Common.{◌≡◌, ◌≤◌, min, cond, List, length, sym, subst, arith}
use Rattle.std.proofs.lemmas.Result.{IfOk-weaker, err_from_is_err_and}
use Rattle.jc_lexer.specs.declared.token.Token.{Token}
use Rattle.jc_reading.specs.declared.reading.Found as its
use Rattle.jc_tree.specs.declared.expression.Expr.{Expr}
use Rattle.jc_grammar.specs.Shapes.{is_effect}
use Rattle.jc_reading.specs.declared.reading.Halt.{Halt}
use Rattle.jc_reading.specs.Giving.{Gives, Halts}
use Rattle.jc_reading.specs.Reading.{Read, Found, Stopped, becoming, in_turn}
use Rattle.jc_expr_laws.specs.LevelReading.{assign_run}
use Rattle.jc_parse_expr.specs.BinaryLevels.{levels_at, measured_right, post_at}
use Rattle.jc_parse_expr.proofs.Bounds.{assigned_rest}
use Rattle.jc_parse_expr.proofs.EffectCode.{changing_alone, changing_assigns, changing_halts}
use Rattle.jc_parse_expr.proofs.WithinCode.{post_rest}
use Rattle.jc_parse_expr.proofs.within.changing.Goals as goal

pub returns-in_err-value-clause-read : goal.returns-in_err-value-clause-read
returns-in_err-value-clause-read c =
    let p = err_from_is_err_and c.from_residual.result c.from_residual.ensures.1 in
    rw (p.1, p.2) (changing_halts (post_at c.args.height) c.args.height c.args.tokens.now _ c.in_err-value.ensures)

pub assigned-requires : goal.assigned-requires
assigned-requires c =
    let v = c.in_ok-value.value in
    let w = post_rest c.args.height c.args.tokens.now v.value v.rest.now v.left c.in_ok-value.ensures in
    omega (arith, w)

pub returns-in-Ok-clause-read : goal.returns-in-Ok-clause-read
returns-in-Ok-clause-read c =
    let v = c.in_ok-value.value in
    let more = c.in-Ok.more in
    subst (λ (m : Read Expr). Gives c.changed.result m)
    (sym (changing_assigns (post_at c.args.height) c.args.height c.args.tokens.now v.value v.rest.now v.left more.left more.value.0 more.value.1 more.rest.now c.in_ok-value.ensures c.in-Ok.ensures)) c.changed.ensures.read

pub returns-in-Err-Stopped-clause-read : goal.returns-in-Err-Stopped-clause-read
returns-in-Err-Stopped-clause-read c =
    let v = c.in_ok-value.value in
    let read = becoming measured_right (in_turn assign_run (levels_at c.args.height).expr v.rest.now) in
    let stop : read ≡ Stopped c.in-Err-Stopped.left = subst (λ (h : Halt). Halts h read) c.in-Err-Stopped.field-0-is c.in-Err-Stopped.ensures in
    let told = subst (λ k. Gives c.effect_alone.result (cond (is_effect v.value.tree) (Found v.value.tree v.rest.now (min v.left k)) (Stopped (min v.left k)))) c.in-Err-Stopped.left-is c.effect_alone.ensures.read in
    subst (λ (m : Read Expr). Gives c.effect_alone.result m)
    (sym (changing_alone (post_at c.args.height) c.args.height c.args.tokens.now v.value v.rest.now v.left c.in-Err-Stopped.left c.in_ok-value.ensures stop)) told

pub returns-in-Ok-clause-shorter : goal.returns-in-Ok-clause-shorter
returns-in-Ok-clause-shorter c =
    let v = c.in_ok-value.value in
    let more = c.in-Ok.more in
    let w = post_rest c.args.height c.args.tokens.now v.value v.rest.now v.left c.in_ok-value.ensures in
    let x = assigned_rest c.args.height v.rest.now more.value more.rest.now more.left c.in-Ok.ensures in
    let y : length more.rest.now ≤ length c.args.tokens.now = omega (arith, w, x) in
    IfOk-weaker c.changed.result (λ (f : its.Found Expr). f.rest.now ≡ more.rest.now) (λ (f : its.Found Expr). length f.rest.now ≤ length c.args.tokens.now)
    (λ f e. subst (λ (q : List Token). length q ≤ length c.args.tokens.now) (sym e) y) c.changed.ensures.rest

pub returns-in-Err-Stopped-clause-shorter : goal.returns-in-Err-Stopped-clause-shorter
returns-in-Err-Stopped-clause-shorter c =
    let v = c.in_ok-value.value in
    let w = post_rest c.args.height c.args.tokens.now v.value v.rest.now v.left c.in_ok-value.ensures in
    IfOk-weaker c.effect_alone.result (λ (f : its.Found Expr). f.rest.now ≡ v.rest.now) (λ (f : its.Found Expr). length f.rest.now ≤ length c.args.tokens.now)
    (λ f e. subst (λ (q : List Token). length q ≤ length c.args.tokens.now) (sym e) w) c.effect_alone.ensures.rest
