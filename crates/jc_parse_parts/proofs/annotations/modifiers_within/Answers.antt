use Rattle.std.proofs.Common.{rules, arith}
use Rattle.jc_part_laws.specs.PartReading.{modifier_run}
use Rattle.jc_expr_laws.specs.ExprReading.{exprs}
use Rattle.jc_parse_parts.proofs.PartInsides.{modifier_ahead}
use Rattle.jc_parse_parts.proofs.annotations.modifiers_within.Goals as goal

pub many-requires : goal.many-requires
many-requires c κs = (search rules, (λ ts h. omega (arith, h), (modifier_run exprs c.args.height, modifier_ahead c.args.height, λ ts r p. search rules)))

pub returns-clause-read : goal.returns-clause-read
returns-clause-read c = c.many.ensures.read (modifier_run exprs c.args.height) (modifier_ahead c.args.height) (λ ts r p. search rules)
