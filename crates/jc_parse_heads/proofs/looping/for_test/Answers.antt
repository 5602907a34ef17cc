use Rattle.std.proofs.Common.{sym, subst, arith}
use Rattle.jc_reading.specs.Giving.{Gives}
use Rattle.jc_reading.specs.Reading.{Read}
use Rattle.jc_expr_laws.specs.ExprReading.{exprs}
use Rattle.jc_parse_heads.proofs.Joinings.{two_gives}
use Rattle.jc_parse_nodes.specs.declared.head_parts.ForTail.{ForTail}
use Rattle.jc_reading.specs.Reading.{perhaps}
use Rattle.jc_unit_laws.specs.UnitReading.{expr_in_run}
use Rattle.jc_parse_heads.specs.HeadCode.{for_update_run}
use Rattle.jc_parse_heads.proofs.ForForms.{for_tail_node, for_test_is}
use Rattle.jc_parse_heads.proofs.looping.for_test.Goals as goal

pub returns : goal.returns
returns c = subst (λ (v : Read ForTail). Gives c.for_tail_of.result v) (sym (for_test_is c.args.height c.args.tokens.now)) (two_gives (for_tail_node c.args.height c.args.tokens.now) (perhaps (expr_in_run exprs c.args.height) c.args.tokens.now) (for_update_run c.args.height) c.in_ok-test.test c.for_update.result c.for_tail_of.result (c.in_ok-test.ensures.read) (c.for_update.ensures) c.for_tail_of.ensures)
