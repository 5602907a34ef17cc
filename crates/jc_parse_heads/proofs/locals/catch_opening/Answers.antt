use Rattle.std.proofs.Common.{sym, subst, arith}
use Rattle.std.proofs.lemmas.Result.{err_from_is_err_and}
use Rattle.jc_lexer.specs.declared.token.Key.TheVariants as key_of
use Rattle.jc_reading.specs.Giving.{Gives, Halts}
use Rattle.jc_reading.specs.Reading.{Read}
use Rattle.jc_parse_nodes.specs.declared.pieces.Opening.{Opening}
use Rattle.jc_parse_heads.proofs.Joinings.{two_gives, two_halts}
use Rattle.jc_parse_heads.specs.UnitCode.{catch_opening_run}
use Rattle.jc_parse_heads.specs.HeadCode.{catch_head_run, opened_run}
use Rattle.jc_parse_heads.proofs.CatchForms.{catch_opening_is, catch_node}
use Rattle.jc_parse_heads.proofs.HeadInsides.{catch_inside}
use Rattle.jc_parse_parts.proofs.Insides.{shorter_by}
use Rattle.jc_parse_heads.proofs.locals.catch_opening.Goals as goal

pub returns-in_err-at-clause-read : goal.returns-in_err-at-clause-read
returns-in_err-at-clause-read c = let p = err_from_is_err_and c.from_residual.result c.from_residual.ensures.1 in rw (p.1, p.2) (subst (λ (v : Read Opening). Halts c.in_err-at.field-0.0 v) (sym (catch_opening_is c.args.height c.args.tokens.now)) (two_halts catch_node (opened_run key_of.Catch c.args.tokens.now) (catch_head_run c.args.height) c.in_err-at.field-0.0 (c.in_err-at.ensures.read)))

pub returns-clause-read : goal.returns-clause-read
returns-clause-read c = subst (λ (v : Read Opening). Gives c.catch_opening_of.result v) (sym (catch_opening_is c.args.height c.args.tokens.now)) (two_gives catch_node (opened_run key_of.Catch c.args.tokens.now) (catch_head_run c.args.height) c.in_ok-at.at c.catch_head.result c.catch_opening_of.result (c.in_ok-at.ensures.read) (c.catch_head.ensures) c.catch_opening_of.ensures)

pub returns-clause-shorter : goal.returns-clause-shorter
returns-clause-shorter c = shorter_by (catch_opening_run c.args.height) c.args.tokens.now c.catch_opening_of.result (catch_inside c.args.height) (returns-clause-read c)
