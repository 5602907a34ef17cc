use Rattle.std.proofs.Common.{rules, arith}
use Rattle.jc_part_laws.specs.PartReading.{var_run}
use Rattle.jc_expr_laws.specs.ExprReading.{exprs}
use Rattle.jc_parse_parts.proofs.PartInsides.{var_inside}
use Rattle.jc_parse_parts.proofs.variables.more_vars_within.Goals as goal

pub each-requires : goal.each-requires
each-requires c κs = (search rules, (λ ts h. omega (arith, h), (var_run exprs c.args.height, var_inside c.args.height, λ ts r p. search rules)))

pub returns-clause-read : goal.returns-clause-read
returns-clause-read c = c.each.ensures.read (var_run exprs c.args.height) (var_inside c.args.height) (λ ts r p. search rules)
