use Rattle.std.proofs.Common.{◌≡◌, ℕ, ◌≤◌, List, [], ◌∷◌, ◌++◌, min, length, sym, ap, ◌∙◌, subst, arith}
use Rattle.jc_lexer.specs.declared.token.Sign.TheVariants as sign_of
use Rattle.jc_lexer.specs.declared.token.Token.{Token}
use Rattle.jc_tree.specs.declared.statement.Formal.{Formal}
use Rattle.jc_reading.specs.declared.reading.Halt.{Halt}
use Rattle.jc_reading.specs.Giving.{Halts}
use Rattle.jc_reading.specs.Kinds.{sign_code}
use Rattle.jc_reading.specs.Reading.{Read, Found, Stopped, as_new, behind_it, in_turn, of_kind}
use Rattle.jc_part_laws.specs.PartReading.{formal_run}
use Rattle.jc_expr_laws.specs.ExprReading.{exprs}
use Rattle.jc_parse_parts.specs.Parts.{some_formals_run}
use Rattle.jc_parse_parts.proofs.FormalSteps.{Continues, ended, formals_first, formals_next, formals_stop}
use Rattle.jc_reading.specs.Reach.{Ahead}
use Rattle.jc_reading.proofs.Turns.{loop_shorter}
use Rattle.jc_reading.proofs.Nears.{ahead_behind}
use Rattle.jc_parse_parts.proofs.PartInsides.{formal_inside}
use Rattle.jc_parse_parts.proofs.variables.some_formals.Goals as goal

comma_formal_reach : (h : ℕ) (ts : List Token) (l : ℕ) → as_new behind_it (in_turn (of_kind (sign_code sign_of.Comma)) (formal_run exprs h)) ts ≡ Stopped l → l ≤ length ts
comma_formal_reach h ts l e = subst (λ (v : Read Formal). Ahead ts v) e (ahead_behind behind_it (sign_code sign_of.Comma) (formal_run exprs h) (formal_inside h) ts)

pub commas-init : goal.commas-init
commas-init c =
    let first = c.in_ok-first.first in
    let held : c.in_ok-formals.formals ≡ first.value ∷ [] = c.in_ok-formals.ensures ∙ ap (λ (l : List Formal). l ++ first.value ∷ []) c.new.ensures in (
      subst (λ (l : List Formal). Continues first.value.variable_arity (formal_run exprs c.args.height) (some_formals_run c.args.height c.args.tokens.now) l first.left first.rest.now) (sym held)
          (formals_first c.args.height c.args.tokens.now first.rest.now first.value first.left c.in_ok-first.ensures.read),
      c.in_ok-first.ensures.shorter,
    )

pub commas-smaller : goal.commas-smaller
commas-smaller c =
    let found = c.in-Ok.found in
    let formal = formal_run exprs c.args.height in
    loop_shorter _ (as_new behind_it (in_turn (of_kind (sign_code sign_of.Comma)) formal)) (ahead_behind behind_it (sign_code sign_of.Comma) formal (formal_inside c.args.height)) c.commas.rest.now found.rest.now found.value found.left c.in-Ok.ensures.read

pub commas-preserved : goal.commas-preserved
commas-preserved c =
    let found = c.in-Ok.found in
    let formal = formal_run exprs c.args.height in
    let whole = some_formals_run c.args.height c.args.tokens.now in
    let lt = loop_shorter _ (as_new behind_it (in_turn (of_kind (sign_code sign_of.Comma)) formal)) (ahead_behind behind_it (sign_code sign_of.Comma) formal (formal_inside c.args.height)) c.commas.rest.now found.rest.now found.value found.left c.in-Ok.ensures.read in
    let s = formals_next c.commas.last formal whole c.commas.formals c.commas.left c.commas.rest.now found.rest.now found.value found.left c.if-last.false c.commas.invariant.0 c.in-Ok.ensures.read lt in
    let held : c.in_ok-formals-in-Ok.formals ≡ c.commas.formals ++ found.value ∷ [] = c.in_ok-formals-in-Ok.ensures in (
      subst (λ (l : List Formal). Continues found.value.variable_arity formal whole l c.min-left.result found.rest.now) (sym held)
          (subst (λ j. Continues found.value.variable_arity formal whole (c.commas.formals ++ found.value ∷ []) j found.rest.now) (sym c.min-left.ensures) s),
      omega (arith, lt, c.commas.invariant.1),
    )

pub returns-then-last-clause-read : goal.returns-then-last-clause-read
returns-then-last-clause-read c =
    ended c.commas.last (formal_run exprs c.args.height) (some_formals_run c.args.height c.args.tokens.now) c.commas.formals c.commas.left c.commas.rest.now c.if-last.true c.commas.invariant.0
    ∙ ap (λ j. Found c.commas.formals c.commas.rest.now j) (sym c.min.ensures)

pub returns-in-Err-Stopped-clause-read : goal.returns-in-Err-Stopped-clause-read
returns-in-Err-Stopped-clause-read c =
    let formal = formal_run exprs c.args.height in
    let comma = as_new behind_it (in_turn (of_kind (sign_code sign_of.Comma)) formal) in
    let stop : comma c.commas.rest.now ≡ Stopped c.in-Err-Stopped.reach = subst (λ (h : Halt). Halts h (comma c.commas.rest.now)) c.in-Err-Stopped.field-0-is c.in-Err-Stopped.ensures.read in
    formals_stop c.commas.last formal (some_formals_run c.args.height c.args.tokens.now) c.commas.formals c.commas.left c.commas.rest.now c.in-Err-Stopped.reach c.if-last.false c.commas.invariant.0 stop (comma_formal_reach c.args.height c.commas.rest.now c.in-Err-Stopped.reach stop)
    ∙ ap (λ j. Found c.commas.formals c.commas.rest.now j) (sym (c.min-in-Err-Stopped.ensures ∙ ap (λ k. min c.commas.left k) c.in-Err-Stopped.reach-is))
