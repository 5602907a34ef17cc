use Rattle.std.proofs.Common.{◌≡◌, ◌-◌, min, max, [], ◌∷◌, ◌++◌, refl, sym, ap, ◌∙◌, subst, arith, rules, ◌<◌, ◌^◌, List, length}
use Rattle.std.proofs.lemmas.Bool.Decides.{nat_tests}
use Rattle.std.proofs.lemmas.Result.{err_from_is_err_and}
use Rattle.jc_reading.specs.declared.reading.Halt.{Halt}
use Rattle.jc_reading.specs.declared.reading.Found as its
use Rattle.jc_reading.specs.Giving.{Gives, Halts, Is}
use Rattle.jc_reading.specs.Kinds.{sign_code}
use Rattle.jc_reading.specs.Reading.{Run, Read, Stopped, becoming, Found, any_number, as_new, behind_it, commas_run, in_turn, of_kind, times}
use Rattle.jc_tree.specs.declared.expression.Expr.{Expr}
use Rattle.jc_tree.specs.declared.expression.Operand.{Operand}
use Rattle.jc_tree.specs.Heights.{operand_height, capped, creation_height, expr_height, init_height}
use Rattle.jc_expr_laws.specs.LevelReading.{cast_run, operand_for}
use Rattle.jc_parse_expr.specs.declared.measured.Measured.{Measured}
use Rattle.jc_parse_expr.specs.declared.operators.Level.{Level}
use Rattle.jc_parse_expr.specs.BinaryLevels.{cast_made, level_run, levels_at, measured_operand, next_operand_run, operand_run, post_at, then_run, tighter_run}
use Rattle.jc_parse_expr.specs.Measuring.{measured}
use Rattle.jc_parse_expr.proofs.BinarySteps.{binary_tall, conditional_halts, conditional_tall}
use Rattle.jc_parse_expr.proofs.Climbing.{chain_answers, level_quiet, levels_halt}
use Rattle.jc_parse_expr.proofs.LoneNames.{bare_plain, unary_name}
use Rattle.jc_parse_expr.proofs.Bounds.{conditional_rest, level_rest, operator_rest, plain_rest, prefix_rest, tighter_rest}
use Rattle.jc_parse_expr.proofs.CastCode.{bare_cast, bare_low, bare_post, cast_first, cast_halts}
use Rattle.jc_parse_expr.proofs.ConditionalCode.{conditional_chosen, conditional_left, then_first, then_is}
use Rattle.jc_parse_expr.proofs.JoinedSteps.{assigned_gives, cast_gives, expr_gives, operand_gives, prefixed_gives}
use Rattle.jc_parse_expr.proofs.LevelCode.{assigned_first, otherwise_first, otherwise_is}
use Rattle.jc_parse_expr.proofs.LoopSteps.{assign_rest, cast_type_rest, kind_rest, link_begin, link_end, link_shorter, link_turn, more_tall, none_tall, ops_rest, place_rest, row_first, row_next, row_shorter, row_stop, then_rest}
use Rattle.jc_parse_expr.proofs.MeasuredRead.{measured_found}
use Rattle.jc_parse_expr.proofs.OperandCode.{comparison_barred, comparison_binary, comparison_instance, operand_first}
use Rattle.jc_parse_expr.proofs.PrefixCode.{plain_bare, plain_low, plain_prefix, unary_bare, unary_low, unary_prefix}
use Rattle.jc_parse_expr.proofs.RungSteps.{expr_halts, expr_tall, expr_untargeted}
use Rattle.jc_tree.specs.declared.expression.Init.{Init}
use Rattle.jc_expr_laws.specs.PrimeReading.{array_creation, array_tail_run, creation_run}
use Rattle.jc_expr_laws.specs.StartReading.{keyed_run, parens_run}
use Rattle.jc_reading.proofs.Turns.{loop_first, loop_next, loop_stop, loop_shorter}
use Rattle.jc_reading.specs.Reach.{onto}
use Rattle.jc_reading.proofs.Nears.{ahead_near}
use Rattle.jc_lexer.specs.declared.token.Token.{Token}
use Rattle.jc_parse_expr.specs.PrimeCode.{IsMeasured, array_in, expr_in, exprs_height, init_in, keyed_made, length_run, of_selector, parens_made, selected_on, selector_at, sized_made, sized_run}
use Rattle.jc_parse_expr.specs.declared.parts.SelectorTree.{SelectorTree}
use Rattle.jc_parse_expr.proofs.CreationSteps.{tail_low, tail_open, tail_sized}
use Rattle.jc_parse_expr.proofs.MemberSteps.{keyed_new, parens_inside}
use Rattle.jc_parse_expr.proofs.GrowCode.{grows_same}
use Rattle.jc_parse_expr.proofs.Grows.{grows_first, grows_next, grows_stop}
use Rattle.jc_parse_expr.proofs.MeasuredSteps.{measured_as, stop_of_near}
use Rattle.jc_parse_expr.proofs.Tallies.{commas_begin, found_left, more_top, one_pushed, one_top, resumes_same}
use Rattle.jc_parse_expr.proofs.Rests.{rest_args, rest_class, rest_dims, rest_expr, rest_index, rest_init, rest_plain, rest_special}
use Rattle.jc_parse_expr.proofs.Shorters.{comma_exprs, comma_inits, length_steps, selector_advances}
use Rattle.jc_lexer.specs.declared.token.Sign.TheVariants as sign_of
use Rattle.jc_parse_expr.specs.declared.operators.Level.TheVariants as level_of
use Rattle.jc_tree.specs.declared.expression.Expr.TheVariants as expr_of
use Rattle.jc_parse_expr.proofs.+expressions.Goals as goal
use Rattle.jc_parse_expr.proofs.+expressions.Goals.{levels::binary-then-may_operate+in_ok-found-2, levels::binary-else-may_operate}

-- assignments

pub levels::expr-with_assignment-requires : goal.levels::expr-with_assignment-requires
levels::expr-with_assignment-requires t c =
    let v = c.in-Ok.target in
    let w = conditional_rest c.args.height c.args.tokens.now v.value v.rest.now v.left c.in-Ok.ensures in
    (omega arith, omega (arith, w))

pub levels::expr-returns-in-Ok : goal.levels::expr-returns-in-Ok
levels::expr-returns-in-Ok t c = c.with_assignment.ensures c.args.tokens.now c.in-Ok.ensures

pub levels::expr-returns-in-Err : goal.levels::expr-returns-in-Err
levels::expr-returns-in-Err t c = expr_halts c.args.height c.args.tokens.now c.in-Err.halt c.in-Err.ensures

pub levels::with_assignment-returns-then-target-height : goal.levels::with_assignment-returns-then-target-height
levels::with_assignment-returns-then-target-height t c =
    λ ts e. let v = c.args.target in
    expr_tall c.args.height ts v.value v.rest.now v.left e c.if-target-height.true

pub levels::with_assignment-returns-then-not-may_be_target : goal.levels::with_assignment-returns-then-not-may_be_target
levels::with_assignment-returns-then-not-may_be_target t c =
    λ ts e. let v = c.args.target in
    expr_untargeted c.args.height ts v.value v.rest.now v.left e (sym c.may_be_target.ensures ∙ c.if-not-may_be_target.true)

pub levels::with_assignment-returns : goal.levels::with_assignment-returns
levels::with_assignment-returns t c =
    λ ts e. expr_gives c.args.height ts c.args.target c.assigned-more.result c.with_value.result e (omega arith) (omega arith) (sym c.may_be_target.ensures ∙ c.if-not-may_be_target.false) c.assigned-more.ensures c.with_value.ensures

pub levels::assigned-returns-in_err-op : goal.levels::assigned-returns-in_err-op
levels::assigned-returns-in_err-op t c = Prim.search (rules, assigned_first)

pub levels::assigned-expr-more-requires : goal.levels::assigned-expr-more-requires
levels::assigned-expr-more-requires t c =
    let op = c.in_ok-op.op in
    let w = assign_rest c.args.tokens.now op.value op.rest.now op.left c.in_ok-op.ensures in
    (omega arith, omega (arith, w))

pub levels::assigned-returns : goal.levels::assigned-returns
levels::assigned-returns t c =
    assigned_gives c.args.height c.args.tokens.now c.in_ok-op.op c.expr-more.result c.with_right.result c.in_ok-op.ensures c.expr-more.ensures c.with_right.ensures

-- conditionals

pub levels::conditional-with_choice-requires : goal.levels::conditional-with_choice-requires
levels::conditional-with_choice-requires t c =
    let v = c.in-Ok.test in
    let w = level_rest level_of.OrElse c.args.height c.args.tokens.now v.value v.rest.now v.left c.in-Ok.ensures in
    (omega arith, omega (arith, w))

pub levels::conditional-returns-in-Ok : goal.levels::conditional-returns-in-Ok
levels::conditional-returns-in-Ok t c = c.with_choice.ensures c.args.tokens.now c.in-Ok.ensures

pub levels::conditional-returns-in-Err : goal.levels::conditional-returns-in-Err
levels::conditional-returns-in-Err t c = conditional_halts c.args.height c.args.tokens.now c.in-Err.halt c.in-Err.ensures

pub levels::with_choice-returns-then-test-height : goal.levels::with_choice-returns-then-test-height
levels::with_choice-returns-then-test-height t c =
    λ ts e. let v = c.args.test in
    conditional_tall c.args.height ts v.value v.rest.now v.left e c.if-test-height.true

pub levels::with_choice-otherwise-other-requires : goal.levels::with_choice-otherwise-other-requires
levels::with_choice-otherwise-other-requires t c =
    let v = c.args.test in
    let chosen = c.in-Ok.chosen in
    let x = then_rest (c.args.height - 1) v.rest.now chosen.value chosen.rest.now chosen.left c.in-Ok.ensures in
    (omega arith, omega (arith, x, c.requires))

pub levels::with_choice-returns-in-Ok : goal.levels::with_choice-returns-in-Ok
levels::with_choice-returns-in-Ok t c =
    λ ts e. conditional_chosen c.args.height ts c.args.test c.in-Ok.chosen c.otherwise-other.result c.with_branches.result e (omega arith) (omega arith) c.in-Ok.ensures c.otherwise-other.ensures c.with_branches.ensures

pub levels::with_choice-returns-in-Err-Stopped : goal.levels::with_choice-returns-in-Err-Stopped
levels::with_choice-returns-in-Err-Stopped t c =
    let v = c.args.test in
    let read = becoming measured (then_run (levels_at (c.args.height - 1)) v.rest.now) in
    let stop : read ≡ Stopped c.in-Err-Stopped.left = subst (λ (h : Halt). Halts h read) c.in-Err-Stopped.field-0-is c.in-Err-Stopped.ensures in
    λ ts e. conditional_left c.args.height ts v c.in-Err-Stopped.left c.alone.result e (omega arith) (omega arith) stop (c.alone.ensures.0, c.alone.ensures.1, c.alone.ensures.2 ∙ ap (λ k. min v.left k) c.in-Err-Stopped.left-is)

pub levels::first_branch-expr-requires : goal.levels::first_branch-expr-requires
levels::first_branch-expr-requires t c =
    let w = kind_rest (sign_code sign_of.Question) c.args.tokens.now c.in-Some.after.now c.in-Some.ensures.read in
    (omega arith, omega (arith, w))

pub levels::first_branch-returns-in-Some : goal.levels::first_branch-returns-in-Some
levels::first_branch-returns-in-Some t c =
    subst (λ (m : Read Expr). Gives c.expr.result (becoming measured m)) (sym (then_is c.args.height c.args.tokens.now c.in-Some.after.now c.in-Some.ensures.read)) c.expr.ensures

pub levels::first_branch-returns-in-None : goal.levels::first_branch-returns-in-None
levels::first_branch-returns-in-None t c = then_first c.args.height c.args.tokens.now c.in-None.ensures.read

pub levels::otherwise-conditional-requires : goal.levels::otherwise-conditional-requires
levels::otherwise-conditional-requires t c =
    let w = kind_rest (sign_code sign_of.Colon) c.args.tokens.now c.in-Some.after.now c.in-Some.ensures.read in
    (omega arith, omega (arith, w))

pub levels::otherwise-returns-in-Some : goal.levels::otherwise-returns-in-Some
levels::otherwise-returns-in-Some t c =
    subst (λ (m : Read Expr). Gives c.conditional.result (becoming measured m)) (sym (otherwise_is c.args.height c.args.tokens.now c.in-Some.after.now c.in-Some.ensures.read)) c.conditional.ensures

pub levels::otherwise-returns-in-None : goal.levels::otherwise-returns-in-None
levels::otherwise-returns-in-None t c = otherwise_first c.args.height c.args.tokens.now c.in-None.ensures.read

-- binary levels

pub levels::chained-returns-then-first-height : goal.levels::chained-returns-then-first-height
levels::chained-returns-then-first-height t c =
    λ ts e. let v = c.args.first in
    binary_tall c.args.level c.args.height ts v.value v.rest.now v.left e c.if-first-height.true

pub levels::chained-returns-in-Ok : goal.levels::chained-returns-in-Ok
levels::chained-returns-in-Ok t c =
    chain_answers c.args.level c.args.height c.args.first c.in-Ok.more c.with_operands.result c.if-first-height.false (omega arith) c.in-Ok.ensures c.with_operands.ensures

pub levels::binary-returns-in_err-found : goal.levels::binary-returns-in_err-found
levels::binary-returns-in_err-found t c =
    let p = err_from_is_err_and c.from_residual.result c.from_residual.ensures.1 in
    rw (p.1, p.2) (levels_halt c.args.height c.args.tokens.now _ c.in_err-found.ensures c.args.level)

pub levels::binary-levels-init : goal.levels::binary-levels-init
levels::binary-levels-init t c = record { read = c.in_ok-found.ensures; tighter = omega arith }

pub levels::binary-chained-requires : goal.levels::binary-chained-requires
levels::binary-chained-requires t c =
    let v = c.levels.found in
    let w = tighter_rest c.levels.next c.args.height c.args.tokens.now v.value v.rest.now v.left c.levels.invariant.read in
    (omega arith, omega (arith, w))

pub levels::binary-levels-preserved : goal.levels::binary-levels-preserved
levels::binary-levels-preserved t c =
    let level = c.levels.next in
    let h = c.args.height in
    let ts = c.args.tokens.now in
    let v = c.levels.found in
    let found = c.if-may_operate.found in
    let reads = λ (f : its.Found (Measured Expr)). Is f (becoming measured (level_run level (levels_at h) ts)) in
    let step : Is found (becoming measured (level_run level (levels_at h) ts)) =
    elim c.if-may_operate.branch [
      | levels::binary-then-may_operate+in_ok-found-2 w ↦ subst reads (sym w.found-is) (w.in_ok-found-2.ensures ts c.levels.invariant.read)
      | levels::binary-else-may_operate w ↦ subst reads (sym w.found-is) (level_quiet level h ts v.value v.rest.now v.left c.levels.invariant.read (omega arith) (sym c.may_operate.ensures ∙ w.if-may_operate.false))
    ] in record {
      read = subst (λ (run : Run Expr). becoming measured (run ts) ≡ Found found.value found.rest.now found.left) (sym (c.in-Some.ensures.2 (levels_at h))) step;
      tighter = c.in-Some.ensures.1;
    }

pub levels::binary-returns-in-None : goal.levels::binary-returns-in-None
levels::binary-returns-in-None t c =
    let level = c.levels.next in
    let h = c.args.height in
    let ts = c.args.tokens.now in
    let v = c.levels.found in
    let found = c.if-may_operate.found in
    let reads = λ (f : its.Found (Measured Expr)). Is f (becoming measured (level_run level (levels_at h) ts)) in
    let step : Is found (becoming measured (level_run level (levels_at h) ts)) =
    elim c.if-may_operate.branch [
      | levels::binary-then-may_operate+in_ok-found-2 w ↦ subst reads (sym w.found-is) (w.in_ok-found-2.ensures ts c.levels.invariant.read)
      | levels::binary-else-may_operate w ↦ subst reads (sym w.found-is) (level_quiet level h ts v.value v.rest.now v.left c.levels.invariant.read (omega arith) (sym c.may_operate.ensures ∙ w.if-may_operate.false))
    ] in
    subst (λ (last : Level). Is found (becoming measured (level_run last (levels_at h) ts))) c.in-None.ensures step

pub levels::tighter-returns-in-Some : goal.levels::tighter-returns-in-Some
levels::tighter-returns-in-Some t c =
    subst (λ (run : Run Expr). Gives c.binary.result (becoming measured (run c.args.tokens.now))) (sym (c.in-Some.ensures.1 (levels_at c.args.height))) c.binary.ensures

pub levels::tighter-returns-in-None : goal.levels::tighter-returns-in-None
levels::tighter-returns-in-None t c =
    subst (λ (level : Level). Gives c.unary.result (becoming measured (tighter_run level (levels_at c.args.height) c.args.tokens.now))) (sym c.in-None.ensures) c.unary.ensures

pub levels::operand-returns-in_err-op : goal.levels::operand-returns-in_err-op
levels::operand-returns-in_err-op t c =
    let p = err_from_is_err_and c.from_residual.result c.from_residual.ensures.1 in
    rw (p.1, p.2) (operand_first c.args.level (tighter_run c.args.level (levels_at c.args.height)) c.args.tokens.now _ c.in_err-op.ensures)

pub levels::operand-tighter-right-requires : goal.levels::operand-tighter-right-requires
levels::operand-tighter-right-requires t c =
    let op = c.in_ok-op.op in
    let w = operator_rest c.args.level c.args.tokens.now op.value op.rest.now op.left c.in_ok-op.ensures in
    (omega arith, omega (arith, w))

pub levels::operand-returns : goal.levels::operand-returns
levels::operand-returns t c =
    operand_gives c.args.level (tighter_run c.args.level (levels_at c.args.height)) c.args.tokens.now c.in_ok-op.op c.tighter-right.result c.with_operand.result c.in_ok-op.ensures c.tighter-right.ensures c.with_operand.ensures

-- comparisons

pub levels::comparison-returns-then-is_barred : goal.levels::comparison-returns-then-is_barred
levels::comparison-returns-then-is_barred t c =
    comparison_barred c.args.height (levels_at c.args.height).shift c.args.opened c.args.touched c.args.tokens.now (c.is_barred.ensures ∙ c.if-is_barred.true)

pub levels::comparison-returns-in-Some : goal.levels::comparison-returns-in-Some
levels::comparison-returns-in-Some t c =
    subst (λ (m : Read Operand). Gives c.instance.result (becoming measured_operand m))
    (sym (comparison_instance c.args.height (levels_at c.args.height).shift c.args.opened c.args.touched c.args.tokens.now c.in-Some.after.now (c.is_barred.ensures ∙ c.if-is_barred.false) c.in-Some.ensures.front c.in-Some.ensures.read)) c.instance.ensures

pub levels::comparison-returns-in-None : goal.levels::comparison-returns-in-None
levels::comparison-returns-in-None t c =
    subst (λ (m : Read Operand). Gives c.operand.result (becoming measured_operand m))
    (sym (comparison_binary c.args.height (levels_at c.args.height).shift c.args.opened c.args.touched c.args.tokens.now (c.is_barred.ensures ∙ c.if-is_barred.false) c.in-None.ensures.front)) c.operand.ensures

-- prefix operators

pub unaries::unary-returns-then-height-lt2 : goal.unaries::unary-returns-then-height-lt2
unaries::unary-returns-then-height-lt2 t c =
    subst (λ (m : Read Expr). Gives c.bare.result (becoming measured m)) (sym (unary_low c.args.height c.args.tokens.now (omega arith))) c.bare.ensures

pub unaries::unary-returns-then-is_lone_name : goal.unaries::unary-returns-then-is_lone_name
unaries::unary-returns-then-is_lone_name t c =
    subst (λ (m : Read (Measured Expr)). Gives c.lone_name.result m) (sym (unary_name c.args.height c.args.tokens.now (omega arith) (sym c.is_lone_name.ensures ∙ c.if-is_lone_name.true))) c.lone_name.ensures

pub unaries::unary-prefixed-requires : goal.unaries::unary-prefixed-requires
unaries::unary-prefixed-requires t c =
    let w = prefix_rest c.args.tokens.now c.in-Some.op c.in-Some.after.now c.in-Some.ensures.read in
    (omega arith, omega (arith, w))

pub unaries::unary-returns-in-Some : goal.unaries::unary-returns-in-Some
unaries::unary-returns-in-Some t c =
    subst (λ (m : Read Expr). Gives c.prefixed.result (becoming measured m))
    (sym (unary_prefix c.args.height (c.args.height - 2) c.args.tokens.now c.in-Some.after.now c.in-Some.op (omega arith) c.in-Some.ensures.front c.in-Some.ensures.read)) c.prefixed.ensures

pub unaries::unary-returns-in-None : goal.unaries::unary-returns-in-None
unaries::unary-returns-in-None t c =
    subst (λ (m : Read Expr). Gives c.bare-in-None.result (becoming measured m)) (sym (unary_bare c.args.height c.args.tokens.now c.in-None.ensures.front)) c.bare-in-None.ensures

pub unaries::plain-returns-then-height-lt2 : goal.unaries::plain-returns-then-height-lt2
unaries::plain-returns-then-height-lt2 t c =
    subst (λ (m : Read Expr). Gives c.bare.result (becoming measured m)) (sym (plain_low c.args.height c.args.tokens.now (omega arith))) c.bare.ensures

pub unaries::plain-prefixed-requires : goal.unaries::plain-prefixed-requires
unaries::plain-prefixed-requires t c =
    let w = plain_rest c.args.tokens.now c.in-Some.op c.in-Some.after.now c.in-Some.ensures.read in
    (omega arith, omega (arith, w))

pub unaries::plain-returns-in-Some : goal.unaries::plain-returns-in-Some
unaries::plain-returns-in-Some t c =
    subst (λ (m : Read Expr). Gives c.prefixed.result (becoming measured m))
    (sym (plain_prefix c.args.height (c.args.height - 2) c.args.tokens.now c.in-Some.after.now c.in-Some.op (omega arith) c.in-Some.ensures.front c.in-Some.ensures.read)) c.prefixed.ensures

pub unaries::plain-returns-in-None : goal.unaries::plain-returns-in-None
unaries::plain-returns-in-None t c =
    subst (λ (m : Read Expr). Gives c.bare-in-None.result (becoming measured m)) (sym (plain_bare c.args.height c.args.tokens.now c.in-None.ensures.front)) c.bare-in-None.ensures

pub unaries::prefixed-bare-operand-requires : goal.unaries::prefixed-bare-operand-requires
unaries::prefixed-bare-operand-requires t c =
    let ops = c.in_ok-ops.ops in
    let w = ops_rest c.args.tokens.now ops.value ops.rest.now ops.left c.in_ok-ops.ensures in
    (omega arith, omega (arith, w))

pub unaries::prefixed-returns : goal.unaries::prefixed-returns
unaries::prefixed-returns t c =
    prefixed_gives c.args.first (levels_at c.args.height).bare c.args.tokens.now c.in_ok-ops.ops c.bare-operand.result c.with_prefixes.result c.in_ok-ops.ensures c.bare-operand.ensures c.with_prefixes.ensures

-- casts

pub unaries::bare-returns-then-height-lt2 : goal.unaries::bare-returns-then-height-lt2
unaries::bare-returns-then-height-lt2 t c =
    subst (λ (m : Read Expr). Gives c.post.result (becoming measured m)) (sym (bare_low c.args.height c.args.tokens.now (omega arith))) c.post.ensures

pub unaries::bare-returns-then-not-is_at : goal.unaries::bare-returns-then-not-is_at
unaries::bare-returns-then-not-is_at t c =
    subst (λ (m : Read (Measured Expr)). Gives c.post-then-not-is_at.result m) (sym (bare_plain c.args.height c.args.tokens.now (sym c.is_at.ensures ∙ c.if-not-is_at.true))) c.post-then-not-is_at.ensures

pub unaries::bare-returns-in-Ok : goal.unaries::bare-returns-in-Ok
unaries::bare-returns-in-Ok t c =
    let found = c.in-Ok.found in
    bare_cast c.args.height (c.args.height - 2) c.args.tokens.now found.value found.rest.now found.left (omega arith) c.in-Ok.ensures

pub unaries::bare-returns-in-Err-Stopped : goal.unaries::bare-returns-in-Err-Stopped
unaries::bare-returns-in-Err-Stopped t c =
    let read = becoming measured (becoming cast_made (cast_run (c.args.height - 1) (levels_at (c.args.height - 1)).unary (levels_at (c.args.height - 1)).plain c.args.tokens.now)) in
    let stop : read ≡ Stopped c.in-Err-Stopped.left = subst (λ (h : Halt). Halts h read) c.in-Err-Stopped.field-0-is c.in-Err-Stopped.ensures in
    subst (λ (m : Read (Measured Expr)). Gives c.noting.result m) (sym (bare_post c.args.height (c.args.height - 2) c.args.tokens.now c.in-Err-Stopped.left (omega arith) stop))
    (c.noting.ensures (becoming measured (post_at c.args.height c.args.tokens.now)) c.post-in-Err-Stopped.ensures)

pub unaries::cast-returns-in_default : goal.unaries::cast-returns-in_default
unaries::cast-returns-in_default t c = cast_first c.args.height c.args.tokens.now c.in_default.ensures.read

pub unaries::cast-cast_type-requires : goal.unaries::cast-cast_type-requires
unaries::cast-cast_type-requires t c =
    let w = place_rest (sign_code sign_of.LeftParen) c.args.tokens.now c.in-Some.after.now c.in-Some.at c.in-Some.ensures.read in
    omega (arith, w)

pub unaries::cast-returns-in_err-ty : goal.unaries::cast-returns-in_err-ty
unaries::cast-returns-in_err-ty t c =
    let p = err_from_is_err_and c.from_residual.result c.from_residual.ensures.1 in
    rw (p.1, p.2) (cast_halts c.args.height c.in-Some.at c.args.tokens.now c.in-Some.after.now _ c.in-Some.ensures.read c.in_err-ty.ensures)

pub unaries::cast-cast_operand-operand-requires : goal.unaries::cast-cast_operand-operand-requires
unaries::cast-cast_operand-operand-requires t c =
    let ty = c.in_ok-ty.ty in
    let w = place_rest (sign_code sign_of.LeftParen) c.args.tokens.now c.in-Some.after.now c.in-Some.at c.in-Some.ensures.read in
    let x = cast_type_rest c.args.height c.in-Some.after.now ty.value ty.rest.now ty.left c.in_ok-ty.ensures in
    (omega arith, omega (arith, w, x))

pub unaries::cast-returns : goal.unaries::cast-returns
unaries::cast-returns t c =
    let ty = c.in_ok-ty.ty in
    let operand = subst (λ b. Gives c.cast_operand-operand.result (becoming measured (operand_for b (levels_at c.args.height).unary (levels_at c.args.height).plain ty.rest.now))) c.is_primitive.ensures c.cast_operand-operand.ensures in
    cast_gives c.args.height c.args.tokens.now c.in-Some.at c.in-Some.after.now ty c.cast_operand-operand.result c.with_type.result c.in-Some.ensures.read c.in_ok-ty.ensures operand c.with_type.ensures

-- loops

pub levels::same_operands-operands-init : goal.levels::same_operands-operands-init
levels::same_operands-operands-init t c = record {
  read = row_first c.args.level c.args.height c.args.tokens.now c.new-list.result c.new-list.ensures;
  high = none_tall 0 c.new-list.result refl c.new-list.ensures;
  few = c.requires;
}

pub levels::same_operands-operands-smaller : goal.levels::same_operands-operands-smaller
levels::same_operands-operands-smaller t c =
    row_shorter c.args.level c.args.height c.operands.rest.now c.in-Ok.found.rest.now c.in-Ok.found.value c.in-Ok.found.left c.in-Ok.ensures

pub levels::same_operands-operands-preserved : goal.levels::same_operands-operands-preserved
levels::same_operands-operands-preserved t c =
    let level = c.args.level in
    let height = c.args.height in
    let rest = c.operands.rest.now in
    let found = c.in-Ok.found in
    let lt = row_shorter level height rest found.rest.now found.value found.left c.in-Ok.ensures in
    let kept = measured_found operand_height (operand_run level (tighter_run level (levels_at height)) rest) found.value found.rest.now found.left c.in-Ok.ensures in
    let top : c.max-most.result ≡ max c.operands.most found.value.height = grind (arith, nat_tests) in
    let held : c.in_ok-list-in-Ok.list ≡ c.operands.list ++ found.value.tree ∷ [] = c.in_ok-list-in-Ok.ensures in record {
      read = row_next level height _ c.operands.list c.in_ok-list-in-Ok.list c.operands.left c.min-left.result rest found.rest.now found.value found.left c.operands.invariant.read c.in-Ok.ensures held c.min-left.ensures;
      high = more_tall c.operands.most found.value.height c.max-most.result c.operands.list c.in_ok-list-in-Ok.list found.value.tree c.operands.invariant.high kept.1 top held;
      few = omega (arith, lt, c.operands.invariant.few);
    }

pub levels::same_operands-returns-in-Err-Stopped : goal.levels::same_operands-returns-in-Err-Stopped
levels::same_operands-returns-in-Err-Stopped t c =
    let level = c.args.level in
    let height = c.args.height in
    let rest = c.operands.rest.now in
    let read = becoming measured_operand (operand_run level (tighter_run level (levels_at height)) rest) in
    let stop : read ≡ Stopped c.in-Err-Stopped.reach = subst (λ (h : Halt). Halts h read) c.in-Err-Stopped.field-0-is c.in-Err-Stopped.ensures in
    row_stop level height _ (record { tree = c.operands.list; height = c.operands.most }) c.operands.left c.min.result rest c.in-Err-Stopped.reach c.operands.invariant.read stop c.operands.invariant.high (c.min.ensures ∙ ap (λ k. min c.operands.left k) c.in-Err-Stopped.reach-is)

pub levels::comparisons-links-init : goal.levels::comparisons-links-init
levels::comparisons-links-init t c = record {
  read = link_begin c.args.height c.args.tokens.now c.new-list.result c.new-list.ensures;
  high = none_tall 0 c.new-list.result refl c.new-list.ensures;
  few = c.requires;
}

pub levels::comparisons-links-smaller : goal.levels::comparisons-links-smaller
levels::comparisons-links-smaller t c =
    link_shorter c.args.height c.links.opened c.links.touched c.links.rest.now c.in-Ok.found.rest.now c.in-Ok.found.value c.in-Ok.found.left c.in-Ok.ensures

pub levels::comparisons-links-preserved : goal.levels::comparisons-links-preserved
levels::comparisons-links-preserved t c =
    let height = c.args.height in
    let opened = c.links.opened in
    let touched = c.links.touched in
    let rest = c.links.rest.now in
    let found = c.in-Ok.found in
    let lt = link_shorter height opened touched rest found.rest.now found.value found.left c.in-Ok.ensures in
    let kept = measured_found operand_height (next_operand_run height (levels_at height).shift opened touched rest) found.value found.rest.now found.left c.in-Ok.ensures in
    let top : c.max-most.result ≡ max c.links.most found.value.height = grind (arith, nat_tests) in
    let held : c.in_ok-list-in-Ok.list ≡ c.links.list ++ found.value.tree ∷ [] = c.in_ok-list-in-Ok.ensures in record {
      read = link_turn height _ c.links.list c.in_ok-list-in-Ok.list c.links.left c.min-left.result opened touched c.ends_open-opened.result c.touched_before-touched.result rest found.rest.now found.value found.left c.links.invariant.read c.in-Ok.ensures held c.min-left.ensures c.ends_open-opened.ensures c.touched_before-touched.ensures;
      high = more_tall c.links.most found.value.height c.max-most.result c.links.list c.in_ok-list-in-Ok.list found.value.tree c.links.invariant.high kept.1 top held;
      few = omega (arith, lt, c.links.invariant.few);
    }

pub levels::comparisons-returns-in-Err-Stopped : goal.levels::comparisons-returns-in-Err-Stopped
levels::comparisons-returns-in-Err-Stopped t c =
    let height = c.args.height in
    let rest = c.links.rest.now in
    let read = becoming measured_operand (next_operand_run height (levels_at height).shift c.links.opened c.links.touched rest) in
    let stop : read ≡ Stopped c.in-Err-Stopped.reach = subst (λ (h : Halt). Halts h read) c.in-Err-Stopped.field-0-is c.in-Err-Stopped.ensures in
    link_end height _ (record { tree = c.links.list; height = c.links.most }) c.links.left c.min.result c.links.opened c.links.touched rest c.in-Err-Stopped.reach c.links.invariant.read stop c.links.invariant.high (c.min.ensures ∙ ap (λ k. min c.links.left k) c.in-Err-Stopped.reach-is)

pub lists::exprs-commas-init : goal.lists::exprs-commas-init
lists::exprs-commas-init t c =
    let run = expr_in c.args.height in
    let first = c.in_ok-first.first in
    let one : run c.args.tokens.now ≡ Found first.value.tree first.rest.now first.left = c.in_ok-first.ensures.0 in
    let lt = rest_expr c.args.height c.args.tokens.now first.rest.now first.value.tree first.left one in
    let held : c.in_ok-list.list ≡ first.value.tree ∷ [] = one_pushed c.new.result c.in_ok-list.list first.value.tree c.in_ok-list.ensures c.new.ensures in (
      commas_begin run c.args.tokens.now first.rest.now first.value.tree first.left c.in_ok-list.list one held,
      one_top expr_height first.value.tree c.in_ok-list.list first.value.height c.in_ok-first.ensures.1 held,
      omega (arith, lt),
    )

pub lists::exprs-commas-smaller : goal.lists::exprs-commas-smaller
lists::exprs-commas-smaller t c =
    let found = c.in-Ok.found in
    let next : as_new behind_it (in_turn (of_kind (sign_code sign_of.Comma)) (expr_in c.args.height)) c.commas.rest.now ≡ Found found.value.tree found.rest.now found.left = c.in-Ok.ensures.0 in
    loop_shorter Expr _ (comma_exprs c.args.height) c.commas.rest.now found.rest.now found.value.tree found.left next

pub lists::exprs-commas-preserved : goal.lists::exprs-commas-preserved
lists::exprs-commas-preserved t c =
    let run = expr_in c.args.height in
    let m = as_new behind_it (in_turn (of_kind (sign_code sign_of.Comma)) run) in
    let whole = commas_run run c.args.tokens.now in
    let found = c.in-Ok.found in
    let next : m c.commas.rest.now ≡ Found found.value.tree found.rest.now found.left = c.in-Ok.ensures.0 in
    let lt = loop_shorter Expr m (comma_exprs c.args.height) c.commas.rest.now found.rest.now found.value.tree found.left next in
    let s = loop_next Expr m (comma_exprs c.args.height) whole c.commas.list c.commas.left c.commas.rest.now found.rest.now found.value.tree found.left c.commas.invariant.0 next in
    let top : c.max-most.result ≡ max c.commas.most found.value.height = grind (arith, nat_tests) in
    let held : c.in_ok-list-in-Ok.list ≡ c.commas.list ++ found.value.tree ∷ [] = c.in_ok-list-in-Ok.ensures in (
      resumes_same whole (c.commas.list ++ found.value.tree ∷ []) c.in_ok-list-in-Ok.list (min c.commas.left found.left) c.min-left.result m found.rest.now s held c.min-left.ensures,
      more_top expr_height c.commas.list c.in_ok-list-in-Ok.list found.value.tree c.commas.most found.value.height c.max-most.result c.commas.invariant.1 c.in-Ok.ensures.1 top held,
      omega (arith, lt, c.commas.invariant.2),
    )

pub lists::exprs-returns-in-Err-Stopped : goal.lists::exprs-returns-in-Err-Stopped
lists::exprs-returns-in-Err-Stopped t c =
    let run = expr_in c.args.height in
    let m = as_new behind_it (in_turn (of_kind (sign_code sign_of.Comma)) run) in
    let stop : m c.commas.rest.now ≡ Stopped c.in-Err-Stopped.reach = subst (λ (h : Halt). Halts h (m c.commas.rest.now)) c.in-Err-Stopped.field-0-is c.in-Err-Stopped.ensures in (
      found_left (commas_run run c.args.tokens.now) c.commas.list c.commas.rest.now (min c.commas.left c.in-Err-Stopped.reach) c.min.result
          (loop_stop Expr m (comma_exprs c.args.height) (commas_run run c.args.tokens.now) c.commas.list c.commas.left c.commas.rest.now c.in-Err-Stopped.reach c.commas.invariant.0 stop) (c.min.ensures ∙ ap (λ k. min c.commas.left k) c.in-Err-Stopped.reach-is),
      c.commas.invariant.1,
    )

pub lists::inits-commas-init : goal.lists::inits-commas-init
lists::inits-commas-init t c =
    let run = init_in c.args.height in
    let first = c.in_ok-first.first in
    let one : run c.args.tokens.now ≡ Found first.value.tree first.rest.now first.left = c.in_ok-first.ensures.0 in
    let lt = rest_init c.args.height c.args.tokens.now first.rest.now first.value.tree first.left one in
    let held : c.in_ok-list.list ≡ first.value.tree ∷ [] = one_pushed c.new.result c.in_ok-list.list first.value.tree c.in_ok-list.ensures c.new.ensures in (
      commas_begin run c.args.tokens.now first.rest.now first.value.tree first.left c.in_ok-list.list one held,
      one_top init_height first.value.tree c.in_ok-list.list first.value.height c.in_ok-first.ensures.1 held,
      omega (arith, lt),
    )

pub lists::inits-commas-smaller : goal.lists::inits-commas-smaller
lists::inits-commas-smaller t c =
    let found = c.in-Ok.found in
    let next : as_new behind_it (in_turn (of_kind (sign_code sign_of.Comma)) (init_in c.args.height)) c.commas.rest.now ≡ Found found.value.tree found.rest.now found.left = c.in-Ok.ensures.0 in
    loop_shorter Init _ (comma_inits c.args.height) c.commas.rest.now found.rest.now found.value.tree found.left next

pub lists::inits-commas-preserved : goal.lists::inits-commas-preserved
lists::inits-commas-preserved t c =
    let run = init_in c.args.height in
    let m = as_new behind_it (in_turn (of_kind (sign_code sign_of.Comma)) run) in
    let whole = commas_run run c.args.tokens.now in
    let found = c.in-Ok.found in
    let next : m c.commas.rest.now ≡ Found found.value.tree found.rest.now found.left = c.in-Ok.ensures.0 in
    let lt = loop_shorter Init m (comma_inits c.args.height) c.commas.rest.now found.rest.now found.value.tree found.left next in
    let s = loop_next Init m (comma_inits c.args.height) whole c.commas.list c.commas.left c.commas.rest.now found.rest.now found.value.tree found.left c.commas.invariant.0 next in
    let top : c.max-most.result ≡ max c.commas.most found.value.height = grind (arith, nat_tests) in
    let held : c.in_ok-list-in-Ok.list ≡ c.commas.list ++ found.value.tree ∷ [] = c.in_ok-list-in-Ok.ensures in (
      resumes_same whole (c.commas.list ++ found.value.tree ∷ []) c.in_ok-list-in-Ok.list (min c.commas.left found.left) c.min-left.result m found.rest.now s held c.min-left.ensures,
      more_top init_height c.commas.list c.in_ok-list-in-Ok.list found.value.tree c.commas.most found.value.height c.max-most.result c.commas.invariant.1 c.in-Ok.ensures.1 top held,
      omega (arith, lt, c.commas.invariant.2),
    )

pub lists::inits-returns-in-Err-Stopped : goal.lists::inits-returns-in-Err-Stopped
lists::inits-returns-in-Err-Stopped t c =
    let run = init_in c.args.height in
    let m = as_new behind_it (in_turn (of_kind (sign_code sign_of.Comma)) run) in
    let stop : m c.commas.rest.now ≡ Stopped c.in-Err-Stopped.reach = subst (λ (h : Halt). Halts h (m c.commas.rest.now)) c.in-Err-Stopped.field-0-is c.in-Err-Stopped.ensures in (
      found_left (commas_run run c.args.tokens.now) c.commas.list c.commas.rest.now (min c.commas.left c.in-Err-Stopped.reach) c.min.result
          (loop_stop Init m (comma_inits c.args.height) (commas_run run c.args.tokens.now) c.commas.list c.commas.left c.commas.rest.now c.in-Err-Stopped.reach c.commas.invariant.0 stop) (c.min.ensures ∙ ap (λ k. min c.commas.left k) c.in-Err-Stopped.reach-is),
      c.commas.invariant.1,
    )

pub creations::lengths-lengths-init : goal.creations::lengths-lengths-init
creations::lengths-lengths-init t c =
    let run = length_run (expr_in c.args.height) in
    let s = loop_first Expr run (length_steps c.args.height) c.args.tokens.now in (
      (s.0, s.1, s.2 ∙ ap (λ (l : List Expr). onto l (length c.args.tokens.now) (times s.0 run c.args.tokens.now)) (sym c.new-list.ensures)),
      sym (ap (λ (l : List Expr). capped (exprs_height l)) c.new-list.ensures),
      c.requires,
    )

pub creations::lengths-lengths-smaller : goal.creations::lengths-lengths-smaller
creations::lengths-lengths-smaller t c =
    let found = c.in-Ok.found in
    let next : length_run (expr_in c.args.height) c.lengths.rest.now ≡ Found found.value.tree found.rest.now found.left = c.in-Ok.ensures.0 in
    loop_shorter Expr _ (length_steps c.args.height) c.lengths.rest.now found.rest.now found.value.tree found.left next

pub creations::lengths-lengths-preserved : goal.creations::lengths-lengths-preserved
creations::lengths-lengths-preserved t c =
    let m = length_run (expr_in c.args.height) in
    let whole = any_number m c.args.tokens.now in
    let found = c.in-Ok.found in
    let next : m c.lengths.rest.now ≡ Found found.value.tree found.rest.now found.left = c.in-Ok.ensures.0 in
    let lt = loop_shorter Expr m (length_steps c.args.height) c.lengths.rest.now found.rest.now found.value.tree found.left next in
    let s = loop_next Expr m (length_steps c.args.height) whole c.lengths.list c.lengths.left c.lengths.rest.now found.rest.now found.value.tree found.left c.lengths.invariant.0 next in
    let top : c.max-most.result ≡ max c.lengths.most found.value.height = grind (arith, nat_tests) in
    let held : c.in_ok-list-in-Ok.list ≡ c.lengths.list ++ found.value.tree ∷ [] = c.in_ok-list-in-Ok.ensures in (
      resumes_same whole (c.lengths.list ++ found.value.tree ∷ []) c.in_ok-list-in-Ok.list (min c.lengths.left found.left) c.min-left.result m found.rest.now s held c.min-left.ensures,
      more_top expr_height c.lengths.list c.in_ok-list-in-Ok.list found.value.tree c.lengths.most found.value.height c.max-most.result c.lengths.invariant.1 c.in-Ok.ensures.1 top held,
      omega (arith, lt, c.lengths.invariant.2),
    )

pub creations::lengths-returns-in-Err-Stopped-clause-read : goal.creations::lengths-returns-in-Err-Stopped-clause-read
creations::lengths-returns-in-Err-Stopped-clause-read t c =
    let m = length_run (expr_in c.args.height) in
    let stop : m c.lengths.rest.now ≡ Stopped c.in-Err-Stopped.reach = subst (λ (h : Halt). Halts h (m c.lengths.rest.now)) c.in-Err-Stopped.field-0-is c.in-Err-Stopped.ensures in (
      loop_stop Expr m (length_steps c.args.height) (any_number m c.args.tokens.now) c.lengths.list c.lengths.left c.lengths.rest.now c.in-Err-Stopped.reach c.lengths.invariant.0 stop
          ∙ ap (λ j. Found c.lengths.list c.lengths.rest.now j) (sym (c.min.ensures ∙ ap (λ k. min c.lengths.left k) c.in-Err-Stopped.reach-is)),
      c.lengths.invariant.1,
    )

pub members::selectors-parts-init : goal.members::selectors-parts-init
members::selectors-parts-init t c =
    let first = c.args.first in
    (grows_first of_selector (selector_at c.args.height) first.value.tree first.rest.now first.left, c.requires.measured, c.requires.short)

pub members::selectors-parts-smaller : goal.members::selectors-parts-smaller
members::selectors-parts-smaller t c =
    let v = c.parts.value in
    let part = c.in-Ok.part in
    let lt = loop_shorter SelectorTree (selector_at c.args.height v.value.tree) (selector_advances c.args.height v.value.tree) v.rest.now part.rest.now part.value.tree part.left c.in-Ok.ensures.0 in
    subst (λ (r : List Token). length r < length v.rest.now) (sym c.in_ok-next-in-Ok.ensures.1) lt

pub members::selectors-parts-preserved : goal.members::selectors-parts-preserved
members::selectors-parts-preserved t c =
    let v = c.parts.value in
    let first = c.args.first in
    let whole = selected_on c.args.height first.value.tree first.rest.now first.left in
    let run = selector_at c.args.height in
    let part = c.in-Ok.part in
    let next = c.in_ok-next-in-Ok.next in
    let w = c.in_ok-next-in-Ok.ensures in
    let lt = loop_shorter SelectorTree (run v.value.tree) (selector_advances c.args.height v.value.tree) v.rest.now part.rest.now part.value.tree part.left c.in-Ok.ensures.0 in
    let g = grows_next of_selector run whole v.value.tree v.left v.rest.now part.rest.now part.value.tree part.left c.parts.invariant.0 c.in-Ok.ensures.0 lt in
    let short : length next.rest.now < length v.rest.now = subst (λ (r : List Token). length r < length v.rest.now) (sym w.1) lt in (
      grows_same of_selector run whole (of_selector v.value.tree part.value.tree) next.value.tree (min v.left part.left) next.left part.rest.now next.rest.now g w.0 w.1 w.2,
      w.3,
      omega (arith, short, c.parts.invariant.2),
    )

pub members::selectors-returns-in-Err-Stopped : goal.members::selectors-returns-in-Err-Stopped
members::selectors-returns-in-Err-Stopped t c =
    let v = c.parts.value in
    let first = c.args.first in
    let whole = selected_on c.args.height first.value.tree first.rest.now first.left in
    let run = selector_at c.args.height in
    let reach = c.in-Err-Stopped.reach in
    let stop : run v.value.tree v.rest.now ≡ Stopped reach = subst (λ (h : Halt). Halts h (run v.value.tree v.rest.now)) c.in-Err-Stopped.field-0-is c.in-Err-Stopped.ensures in
    let far = stop_of_near (run v.value.tree) v.rest.now reach (ahead_near (run v.value.tree) (selector_advances c.args.height v.value.tree)) stop in (
      grows_stop of_selector run whole v.value.tree v.left v.rest.now reach c.parts.invariant.0 stop far ∙ ap (λ j. Found v.value.tree v.rest.now j) (sym (c.min.ensures ∙ ap (λ k. min v.left k) c.in-Err-Stopped.reach-is)),
      c.parts.invariant.1,
    )

pub creations::array_tail-returns-then-height-eq0 : goal.creations::array_tail-returns-then-height-eq0
creations::array_tail-returns-then-height-eq0 t c =
    let h = c.args.height in
    let read = as_new (array_creation c.args.element) (array_tail_run h (expr_in h) (array_in h)) c.args.tokens.now in
    subst (λ (halt : Halt). Halts halt read) (sym c.without.ensures) (tail_low h c.args.element c.args.tokens.now (omega arith))

pub creations::array_tail-returns-in_default : goal.creations::array_tail-returns-in_default
creations::array_tail-returns-in_default t c =
    let h = c.args.height in
    let read = as_new (array_creation c.args.element) (array_tail_run h (expr_in h) (array_in h)) c.args.tokens.now in
    subst (λ (halt : Halt). Halts halt read) (sym c.without-in_default.ensures) (tail_open h c.args.element c.args.tokens.now (omega arith) c.in_default.ensures.read)

pub creations::array_tail-returns-in-None : goal.creations::array_tail-returns-in-None
creations::array_tail-returns-in-None t c =
    let element = c.args.element in
    let h = c.args.height in
    let ts = c.args.tokens.now in
    let inside = c.in-Some.inside.now in
    measured_as creation_height c.with_lengths.result (as_new (sized_made element) (sized_run (expr_in h)) inside) (as_new (array_creation element) (array_tail_run h (expr_in h) (array_in h)) ts)
    (tail_sized h element ts inside (omega arith) c.in-Some.ensures.read c.in-None.ensures.front) c.with_lengths.ensures

pub creations::creation-class_tail-creation-requires : goal.creations::creation-class_tail-creation-requires
creations::creation-class_tail-creation-requires t c =
    let class = c.in-Ok.class in
    let lt = rest_class c.args.height c.args.tokens.now class.rest.now class.value class.left c.in-Ok.ensures in
    (omega arith, omega (arith, lt))

pub creations::initial-array_init-requires : goal.creations::initial-array_init-requires
creations::initial-array_init-requires t c =
    let dims = c.dims-dims.result in
    let lt = rest_dims c.args.tokens.now dims.rest.now dims.value dims.left c.dims-dims.ensures in
    (omega arith, omega (arith, lt))

pub creations::with_lengths-lengths-more-requires : goal.creations::with_lengths-lengths-more-requires
creations::with_lengths-lengths-more-requires t c =
    let first = c.in-Ok.first in
    let lt = rest_index c.args.height c.args.tokens.now first.rest.now first.value.tree first.left c.in-Ok.ensures.0 in
    (omega arith, omega (arith, lt))

pub members::member-called-called-requires : goal.members::member-called-called-requires
members::member-called-called-requires t c =
    let args = c.in-Ok.args in
    let lt = rest_args c.args.height c.args.tokens.now args.rest.now args.value args.left c.in-Ok.ensures in
    (omega arith, omega (arith, lt))

pub primes::keyed-returns-in-Some-place_of_key : goal.primes::keyed-returns-in-Some-place_of_key
primes::keyed-returns-in-Some-place_of_key t c =
    let h = c.args.height in
    let ts = c.args.tokens.now in
    let it = c.in-Some-place_of_key in
    measured_as expr_height c.created_at.result (as_new (expr_of.New it.at) (creation_run h (expr_in h) (array_in h)) it.inside.now) (as_new keyed_made (keyed_run h (expr_in h) (array_in h)) ts)
    (keyed_new h ts it.inside.now it.at c.in_default.ensures.front it.ensures.front it.ensures.read) c.created_at.ensures

pub primes::parens-returns-in-Some : goal.primes::parens-returns-in-Some
primes::parens-returns-in-Some t c =
    let h = c.args.height in
    let ts = c.args.tokens.now in
    let it = c.in-Some in
    measured_as expr_height c.closed.result (as_new (λ (p : Expr × Unit {0}). expr_of.Paren it.at p.0) (in_turn (expr_in h) (of_kind (sign_code sign_of.RightParen))) it.inside.now) (as_new parens_made (parens_run h (expr_in h)) ts)
    (parens_inside h it.at ts it.inside.now (omega arith) it.ensures.read) c.closed.ensures

pub primes::plain_prime-selectors-requires : goal.primes::plain_prime-selectors-requires
primes::plain_prime-selectors-requires t c =
    let start = c.in-Ok.start in
    let lt = rest_plain c.args.height c.args.tokens.now start.rest.now start.value.tree start.left c.in-Ok.ensures.0 in
    let short : length c.noting_start.result.rest.now < 2 ^ 32 = omega (arith, lt, ap length c.noting_start.ensures.1) in
    let measured : IsMeasured expr_height c.noting_start.result.value = subst (λ (m : Measured Expr). IsMeasured expr_height m) (sym c.noting_start.ensures.0) c.in-Ok.ensures.1 in
    (omega arith, (short, (measured, c.requires.room)))

pub primes::prime-selectors-requires : goal.primes::prime-selectors-requires
primes::prime-selectors-requires t c =
    let start = c.in-Ok.start in
    let lt = rest_special c.args.height c.args.tokens.now start.rest.now start.value.tree start.left c.in-Ok.ensures.0 in
    let short : length start.rest.now < 2 ^ 32 = omega (arith, lt) in
    (omega arith, (short, (c.in-Ok.ensures.1, c.requires.room)))
