use Rattle.std.proofs.Common.{rules, arith}
use Rattle.jc_part_laws.specs.PartReading.{pair_run}
use Rattle.jc_expr_laws.specs.ExprReading.{exprs}
use Rattle.jc_parse_parts.proofs.PartInsides.{pair_inside}
use Rattle.jc_parse_parts.proofs.annotations.some_pairs.Goals as goal

pub separated-requires : goal.separated-requires
separated-requires c κs = (search rules, (λ ts h. omega (arith, h), (pair_run exprs c.args.height, pair_inside c.args.height, λ ts r p. search rules)))

pub returns-clause-read : goal.returns-clause-read
returns-clause-read c = c.separated.ensures.read (pair_run exprs c.args.height) (pair_inside c.args.height) (λ ts r p. search rules)
