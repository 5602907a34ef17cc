use Rattle.std.proofs.Common.{rules, arith}
use Rattle.jc_expr_laws.specs.ExprReading.{exprs}
use Rattle.jc_unit_laws.specs.MemberReading.{top_run}
use Rattle.jc_parse_heads.proofs.LevelAdvances.{top_advances}
use Rattle.jc_parse_unit.proofs.files.tops.Goals as goal

pub many-requires : goal.many-requires
many-requires c κs = (search rules, (λ ts h. omega (arith, h, c.requires), (top_run exprs 199, top_advances 199, λ ts r p. search rules)))

pub returns : goal.returns
returns c = c.many.ensures.read (top_run exprs 199) (top_advances 199) (λ ts r p. search rules)
