use Rattle.std.proofs.Common.{rules, arith}
use Rattle.jc_parse_type.specs.TypeReading.{class_run}
use Rattle.jc_parse_expr.proofs.PrimeNears.{near_class}
use Rattle.jc_parse_parts.proofs.params.classes.Goals as goal

pub separated-requires : goal.separated-requires
separated-requires c κs = (search rules, (λ ts h. omega (arith, h), (class_run c.args.height, near_class c.args.height, λ ts r p. search rules)))

pub returns-clause-read : goal.returns-clause-read
returns-clause-read c = c.separated.ensures.read (class_run c.args.height) (near_class c.args.height) (λ ts r p. search rules)
