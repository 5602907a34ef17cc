use Rattle.std.proofs.Common.{sym, subst, arith}
use Rattle.std.proofs.lemmas.Result.{err_from_is_err_and}
use Rattle.jc_tree.specs.declared.statement.Resources.{Resources}
use Rattle.jc_reading.specs.Giving.{Gives}
use Rattle.jc_reading.specs.Reading.{Read}
use Rattle.jc_parse_heads.specs.UnitCode.{roomy_resources_run}
use Rattle.jc_parse_heads.specs.HeadCode.{some_resources_run}
use Rattle.jc_parse_heads.proofs.ResourceForms.{resources_found, resources_halts}
use Rattle.jc_parse_heads.proofs.HeadInsides.{resources_inside}
use Rattle.jc_parse_parts.proofs.Insides.{shorter_by}
use Rattle.jc_parse_heads.proofs.locals.resources.Goals as goal

pub returns-in_err-open-clause-read : goal.returns-in_err-open-clause-read
returns-in_err-open-clause-read c = let p = err_from_is_err_and c.from_residual.result c.from_residual.ensures.1 in rw (p.1, p.2) (resources_halts c.args.height c.args.tokens.now c.in_err-open.field-0.0 c.if-height-eq0.false c.in_err-open.ensures.read)

pub returns-clause-read : goal.returns-clause-read
returns-clause-read c = let o = c.in_ok-open.open in subst (λ (v : Read Resources). Gives c.reaching.result v) (sym (resources_found c.args.height c.args.tokens.now o.rest.now o.left c.if-height-eq0.false c.in_ok-open.ensures.read)) (c.reaching.ensures.read (some_resources_run c.args.height o.rest.now) c.some_resources.ensures)

pub returns-clause-shorter : goal.returns-clause-shorter
returns-clause-shorter c = shorter_by (roomy_resources_run c.args.height) c.args.tokens.now c.reaching.result (resources_inside c.args.height) (returns-clause-read c)
