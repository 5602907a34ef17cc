use Rattle.std.proofs.Common.{◌≡◌, ℕ, List, sym, subst, arith}
use Rattle.jc_reading.specs.Giving.{Halts}
use Rattle.jc_reading.specs.declared.reading.Halt.{Halt}
use Rattle.jc_reading.specs.declared.reading.Halt.TheVariants as halt_of
use Rattle.jc_reading.specs.Reading.{Stopped}
use Rattle.jc_lexer.specs.declared.token.Token.{Token}
use Rattle.jc_expr_laws.specs.ExprAnswers.{ExprStands, IsExprReach, IsOnlyExpr}
use Rattle.jc_expr_laws.specs.ExprReading.{exprs}
use Rattle.jc_expr_laws.proofs.ExprPlaces.{bound_here, bounds_here, found_here, longest_here, none_here, only_here, reach_here}
use Rattle.jc_parse_expr.proofs.parsing.expr_at.Goals as goal

stop : (rest : List Token) (h : Halt) (left : ℕ) → h ≡ halt_of.Stopped left → Halts h (exprs.expr 200 rest) → exprs.expr 200 rest ≡ Stopped left
stop rest h left e f = subst (λ (h : Halt). Halts h (exprs.expr 200 rest)) e f

pub place-requires : goal.place-requires
place-requires c = ((bounds_here c.args.tokens.now c.split_at.result.1.now c.args.at c.requires.0 c.split_at.ensures.back c.in-Ok.found.value c.in-Ok.found.rest.now c.in-Ok.found.left c.in-Ok.ensures.read).0, c.requires.1)

pub place-requires-in-Ok : goal.place-requires-in-Ok
place-requires-in-Ok c = ((bounds_here c.args.tokens.now c.split_at.result.1.now c.args.at c.requires.0 c.split_at.ensures.back c.in-Ok.found.value c.in-Ok.found.rest.now c.in-Ok.found.left c.in-Ok.ensures.read).1, c.requires.1)

pub place-requires-in-Err-Stopped : goal.place-requires-in-Err-Stopped
place-requires-in-Err-Stopped c = (bound_here c.args.tokens.now c.split_at.result.1.now c.args.at c.requires.0 c.split_at.ensures.back c.in-Err-Stopped.left (stop c.split_at.result.1.now c.in-Err-Stopped.field-0 c.in-Err-Stopped.left c.in-Err-Stopped.field-0-is c.in-Err-Stopped.ensures.read), c.requires.1)

pub returns-in-Ok-clause-found : goal.returns-in-Ok-clause-found
returns-in-Ok-clause-found c =
    (omega (arith, c.place.ensures), subst (λ n. ExprStands c.args.tokens.now c.args.at c.in-Ok.found.value n) (sym c.place.ensures) (found_here c.args.tokens.now c.split_at.result.1.now c.args.at c.requires.0 c.split_at.ensures.back c.in-Ok.found.value c.in-Ok.found.rest.now c.in-Ok.found.left c.in-Ok.ensures.read))

pub returns-in-Ok-clause-only : goal.returns-in-Ok-clause-only
returns-in-Ok-clause-only c =
    subst (λ n. IsOnlyExpr c.args.tokens.now c.args.at c.in-Ok.found.value n) (sym c.place.ensures) (only_here c.args.tokens.now c.split_at.result.1.now c.args.at c.requires.0 c.split_at.ensures.back c.in-Ok.found.value c.in-Ok.found.rest.now c.in-Ok.found.left c.in-Ok.ensures.read)

pub returns-in-Ok-clause-longest : goal.returns-in-Ok-clause-longest
returns-in-Ok-clause-longest c = λ other rest p. let n = longest_here c.args.tokens.now c.split_at.result.1.now c.args.at c.requires.0 c.split_at.ensures.back c.in-Ok.found.value c.in-Ok.found.rest.now c.in-Ok.found.left c.in-Ok.ensures.read other rest p in omega (arith, n, c.place.ensures)

pub returns-in-Ok-clause-reach : goal.returns-in-Ok-clause-reach
returns-in-Ok-clause-reach c = subst (λ n. IsExprReach c.args.tokens.now c.args.at n) (sym c.place-in-Ok.ensures) (reach_here c.args.tokens.now c.split_at.result.1.now c.args.at c.requires.0 c.split_at.ensures.back c.in-Ok.found.value c.in-Ok.found.rest.now c.in-Ok.found.left c.in-Ok.ensures.read)

pub returns-in-Err-Stopped-clause-none : goal.returns-in-Err-Stopped-clause-none
returns-in-Err-Stopped-clause-none c =
    let w = none_here c.args.tokens.now c.split_at.result.1.now c.args.at c.requires.0 c.split_at.ensures.back c.in-Err-Stopped.left (stop c.split_at.result.1.now c.in-Err-Stopped.field-0 c.in-Err-Stopped.left c.in-Err-Stopped.field-0-is c.in-Err-Stopped.ensures.read) in
    (subst (λ n. IsExprReach c.args.tokens.now c.args.at n) (sym c.place-in-Err-Stopped.ensures) w.0, w.1)
