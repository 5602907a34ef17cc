use Rattle.std.proofs.Common.{sym, subst, rules, arith}
use Rattle.jc_reading.specs.Giving.{Gives}
use Rattle.jc_part_laws.specs.PartReading.{value_run}
use Rattle.jc_expr_laws.specs.ExprReading.{exprs}
use Rattle.jc_parse_parts.proofs.PartInsides.{value_inside}
use Rattle.jc_parse_parts.proofs.PartSteps.{value_low, value_list, value_plain}
use Rattle.jc_parse_parts.proofs.annotations.+values.Goals as goal

pub some_values-separated-requires : goal.some_values-separated-requires
some_values-separated-requires t c κs = (search rules, (λ ts h. (search rules, omega (arith, h)), (value_run exprs c.args.height, value_inside c.args.height, λ ts r p. search rules)))

pub some_values-returns-clause-read : goal.some_values-returns-clause-read
some_values-returns-clause-read t c = c.separated.ensures.read (value_run exprs c.args.height) (value_inside c.args.height) (λ ts r p. search rules)

pub value_within-returns-then-height-eq0-clause-read : goal.value_within-returns-then-height-eq0-clause-read
value_within-returns-then-height-eq0-clause-read t c = value_low c.args.height c.args.tokens.now (omega arith)

pub value_within-returns-in-Some-clause-read : goal.value_within-returns-in-Some-clause-read
value_within-returns-in-Some-clause-read t c =
    subst (λ v. Gives c.list_of.result v) (sym (value_list c.args.height c.args.tokens.now c.in-Some.inside.now c.in-Some.at (omega arith) c.in-Some.ensures.front c.in-Some.ensures.read)) (c.list_of.ensures.read _ c.value_row.ensures.read)

pub value_within-returns-in-None-clause-read : goal.value_within-returns-in-None-clause-read
value_within-returns-in-None-clause-read t c = subst (λ v. Gives c.plain_value.result v) (sym (value_plain c.args.height c.args.tokens.now (omega arith) c.in-None.ensures.front)) c.plain_value.ensures.read
