use Rattle.std.proofs.Common.{arith, rules}
use Rattle.jc_expr_laws.specs.ExprReading.{exprs}
use Rattle.jc_unit_laws.specs.UnitReading.{expr_in_run}
use Rattle.jc_parse_heads.proofs.Aheads.{expr_in_inside}
use Rattle.jc_parse_heads.proofs.ends.exprs.Goals as goal

pub separated-requires : goal.separated-requires
separated-requires c κs = (search rules, (λ ts h. omega (arith, h, c.requires), (expr_in_run exprs c.args.height, expr_in_inside c.args.height, λ ts r p. search rules)))

pub returns-clause-read : goal.returns-clause-read
returns-clause-read c = c.separated.ensures.read (expr_in_run exprs c.args.height) (expr_in_inside c.args.height) (λ ts r p. search rules)
