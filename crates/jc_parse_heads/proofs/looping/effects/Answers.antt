use Rattle.std.proofs.Common.{arith, rules}
use Rattle.jc_expr_laws.specs.ExprReading.{strict_effect}
use Rattle.jc_parse_heads.proofs.ForUpdates.{strict_inside}
use Rattle.jc_parse_heads.proofs.looping.effects.Goals as goal

pub separated-requires : goal.separated-requires
separated-requires c κs = (search rules, (λ ts h. omega (arith, h, c.requires.0), ((strict_effect c.args.height), (strict_inside c.args.height c.requires.1), λ ts r p. search rules)))

pub returns-clause-read : goal.returns-clause-read
returns-clause-read c = c.separated.ensures.read (strict_effect c.args.height) (strict_inside c.args.height c.requires.1) (λ ts r p. search rules)
