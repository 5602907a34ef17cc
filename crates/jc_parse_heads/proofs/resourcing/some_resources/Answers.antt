use Rattle.std.proofs.Common.{sym, subst, arith}
use Rattle.std.proofs.lemmas.Result.{err_from_is_err_and}
use Rattle.jc_tree.specs.declared.statement.Resources.{Resources}
use Rattle.jc_reading.specs.Giving.{Gives, Halts}
use Rattle.jc_reading.specs.Reading.{Read}
use Rattle.jc_reading.proofs.Nears.{near_left}
use Rattle.jc_parse_heads.proofs.Joinings.{two_gives, two_halts}
use Rattle.jc_parse_heads.specs.HeadCode.{more_resources_run, one_resource_run}
use Rattle.jc_parse_heads.proofs.ResourceForms.{some_resources_is, some_resources_node}
use Rattle.jc_parse_heads.proofs.HeadInsides.{resource_inside}
use Rattle.jc_parse_heads.proofs.resourcing.some_resources.Goals as goal

pub more_resources-requires : goal.more_resources-requires
more_resources-requires c = let lt = near_left (one_resource_run c.args.height) c.args.tokens.now c.in_ok-first.first.rest.now c.in_ok-first.first.value c.in_ok-first.first.left (resource_inside c.args.height) c.in_ok-first.ensures in omega (arith, lt, c.requires)

pub returns-in_err-first : goal.returns-in_err-first
returns-in_err-first c = let p = err_from_is_err_and c.from_residual.result c.from_residual.ensures.1 in rw (p.1, p.2) (subst (λ (v : Read Resources). Halts c.in_err-first.field-0.0 v) (sym (some_resources_is c.args.height c.args.tokens.now)) (two_halts some_resources_node (one_resource_run c.args.height c.args.tokens.now) (more_resources_run c.args.height) c.in_err-first.field-0.0 (c.in_err-first.ensures)))

pub returns : goal.returns
returns c = subst (λ (v : Read Resources). Gives c.resources_of.result v) (sym (some_resources_is c.args.height c.args.tokens.now)) (two_gives some_resources_node (one_resource_run c.args.height c.args.tokens.now) (more_resources_run c.args.height) c.in_ok-first.first c.more_resources.result c.resources_of.result (c.in_ok-first.ensures) (c.more_resources.ensures) c.resources_of.ensures)
