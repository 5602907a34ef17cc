use Rattle.std.proofs.Common.{rules, arith}
use Rattle.jc_parse_type.specs.TypeReading.{class_run}
use Rattle.jc_part_laws.specs.PartReading.{param_run}
use Rattle.jc_parse_parts.proofs.PartInsides.{param_inside}
use Rattle.jc_parse_parts.proofs.params.some_params.Goals as goal

pub separated-requires : goal.separated-requires
separated-requires c κs = (search rules, (λ ts h. omega (arith, h), (param_run (class_run c.args.height), param_inside c.args.height, λ ts r p. search rules)))

pub returns-clause-read : goal.returns-clause-read
returns-clause-read c = c.separated.ensures.read (param_run (class_run c.args.height)) (param_inside c.args.height) (λ ts r p. search rules)
