use Rattle.std.proofs.Common.{◌∙◌, List, sym, subst, arith, rules}
use Rattle.std.proofs.lemmas.Result.{err_from_is_err_and}
use Rattle.jc_tree.specs.declared.statement.Modifier.{Modifier}
use Rattle.jc_reading.specs.Giving.{Halts, Is}
use Rattle.jc_reading.specs.Reading.{Read}
use Rattle.jc_expr_laws.specs.ExprReading.{exprs}
use Rattle.jc_part_laws.specs.PartReading.{modifier_run, modifiers_run}
use Rattle.jc_parse_heads.specs.UnitCode.{listed}
use Rattle.jc_parse_parts.proofs.PartInsides.{modifier_ahead}
use Rattle.jc_parse_heads.proofs.Effects.{modifiers_none, modifiers_there}
use Rattle.jc_parse_heads.proofs.Joinings.{cut, two_halts}
use Rattle.jc_parse_heads.proofs.locals.some_modifiers.Goals as goal

pub returns-then-height-eq0-clause-read : goal.returns-then-height-eq0-clause-read
returns-then-height-eq0-clause-read c = modifiers_none c.args.height c.args.tokens.now (search rules)

pub returns-in_err-first-clause-read : goal.returns-in_err-first-clause-read
returns-in_err-first-clause-read c =
    let p = err_from_is_err_and c.from_residual.result c.from_residual.ensures.1 in rw (p.1, p.2) (subst (λ (v : Read (List Modifier)). Halts c.in_err-first.field-0.0 v) (sym (modifiers_there c.args.height c.args.tokens.now c.if-height-eq0.false))
    (two_halts listed (modifier_run exprs c.args.height c.args.tokens.now) (modifiers_run exprs c.args.height) c.in_err-first.field-0.0 c.in_err-first.ensures.read))

pub row-requires : goal.row-requires
row-requires c κs = (search rules, (λ ts h. omega (arith, h, c.requires, c.in_ok-first.ensures.shorter), (modifier_run exprs c.args.height, modifier_ahead c.args.height, λ ts r p. search rules)))

pub returns-clause-read : goal.returns-clause-read
returns-clause-read c =
    let first = c.in_ok-first.first in
    subst (λ (v : Read (List Modifier)). Is c.in_ok-row.field-0 v)
    (sym (modifiers_there c.args.height c.args.tokens.now c.if-height-eq0.false ∙ cut listed (modifier_run exprs c.args.height) (modifiers_run exprs c.args.height) c.args.tokens.now first.rest.now first.value first.left c.in_ok-first.ensures.read))
    (c.in_ok-row.ensures.read (modifier_run exprs c.args.height) (modifier_ahead c.args.height) (λ ts r p. search rules))
