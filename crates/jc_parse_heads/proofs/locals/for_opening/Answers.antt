use Rattle.std.proofs.Common.{sym, subst, arith}
use Rattle.std.proofs.lemmas.Result.{err_from_is_err_and}
use Rattle.jc_lexer.specs.declared.token.Key.TheVariants as key_of
use Rattle.jc_reading.specs.Giving.{Gives, Halts}
use Rattle.jc_reading.specs.Reading.{Read}
use Rattle.jc_parse_nodes.specs.declared.pieces.ForOpening.{ForOpening}
use Rattle.jc_parse_heads.proofs.Joinings.{two_gives, two_halts}
use Rattle.jc_parse_heads.specs.UnitCode.{for_opening_run}
use Rattle.jc_parse_heads.specs.HeadCode.{for_ended_run, opened_run}
use Rattle.jc_parse_heads.proofs.ForForms.{for_opening_is, for_opening_node}
use Rattle.jc_parse_heads.proofs.ForUpdates.{positive}
use Rattle.jc_parse_heads.proofs.ForInsides.{for_inside}
use Rattle.jc_parse_parts.proofs.Insides.{shorter_by}
use Rattle.jc_parse_heads.proofs.locals.for_opening.Goals as goal

pub for_ended-requires : goal.for_ended-requires
for_ended-requires c = (omega (arith, c.requires, c.in_ok-at.ensures.shorter), positive c.args.height c.if-height-eq0.false)

pub returns-in_err-at-clause-read : goal.returns-in_err-at-clause-read
returns-in_err-at-clause-read c = let p = err_from_is_err_and c.from_residual.result c.from_residual.ensures.1 in rw (p.1, p.2) (subst (λ (v : Read ForOpening). Halts c.in_err-at.field-0.0 v) (sym (for_opening_is c.args.height c.args.tokens.now c.if-height-eq0.false)) (two_halts (for_opening_node c.args.height c.args.tokens.now) (opened_run key_of.For c.args.tokens.now) (for_ended_run c.args.height) c.in_err-at.field-0.0 (c.in_err-at.ensures.read)))

pub returns-clause-read : goal.returns-clause-read
returns-clause-read c = subst (λ (v : Read ForOpening). Gives c.for_opening_of.result v) (sym (for_opening_is c.args.height c.args.tokens.now c.if-height-eq0.false)) (two_gives (for_opening_node c.args.height c.args.tokens.now) (opened_run key_of.For c.args.tokens.now) (for_ended_run c.args.height) c.in_ok-at.at c.for_ended.result c.for_opening_of.result (c.in_ok-at.ensures.read) (c.for_ended.ensures) c.for_opening_of.ensures)

pub returns-clause-shorter : goal.returns-clause-shorter
returns-clause-shorter c = shorter_by (for_opening_run c.args.height) c.args.tokens.now c.for_opening_of.result (for_inside c.args.height) (returns-clause-read c)
