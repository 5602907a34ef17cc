use Rattle.std.proofs.Common.{sym, subst, arith}
use Rattle.jc_tree.specs.declared.statement.ClauseHead.{ClauseHead}
use Rattle.jc_reading.specs.Giving.{Gives}
use Rattle.jc_reading.specs.Reading.{Read}
use Rattle.jc_part_laws.specs.PartReading.{modifiers_run}
use Rattle.jc_expr_laws.specs.ExprReading.{exprs}
use Rattle.jc_parse_heads.proofs.Joinings.{two_gives}
use Rattle.jc_parse_heads.specs.HeadCode.{caught_types_run}
use Rattle.jc_parse_heads.proofs.CatchForms.{catch_head_is, catch_head_node}
use Rattle.jc_parse_heads.proofs.catching.catch_head.Goals as goal

pub returns : goal.returns
returns c = subst (λ (v : Read ClauseHead). Gives c.catch_head_of.result v) (sym (catch_head_is c.args.height c.args.tokens.now)) (two_gives catch_head_node (modifiers_run exprs c.args.height c.args.tokens.now) (caught_types_run c.args.height) c.in_ok-modifiers.modifiers c.caught_types.result c.catch_head_of.result (c.in_ok-modifiers.ensures.read) (c.caught_types.ensures) c.catch_head_of.ensures)
