use Rattle.std.proofs.Common.{sym, subst, arith}
use Rattle.jc_tree.specs.declared.statement.Resource.{Resource}
use Rattle.jc_reading.specs.Giving.{Gives}
use Rattle.jc_reading.specs.Reading.{Read}
use Rattle.jc_part_laws.specs.PartReading.{modifiers_run}
use Rattle.jc_expr_laws.specs.ExprReading.{exprs}
use Rattle.jc_parse_heads.proofs.Joinings.{two_gives}
use Rattle.jc_parse_heads.specs.HeadCode.{typed_value_run}
use Rattle.jc_parse_heads.proofs.ResourceForms.{resource_is, resource_node}
use Rattle.jc_parse_heads.proofs.resourcing.one_resource.Goals as goal

pub returns : goal.returns
returns c = subst (λ (v : Read Resource). Gives c.resource_of.result v) (sym (resource_is c.args.height c.args.tokens.now)) (two_gives resource_node (modifiers_run exprs c.args.height c.args.tokens.now) (typed_value_run c.args.height) c.in_ok-modifiers.modifiers c.typed_value.result c.resource_of.result (c.in_ok-modifiers.ensures.read) (c.typed_value.ensures) c.resource_of.ensures)
