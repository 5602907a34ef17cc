use Rattle.std.proofs.Common.{sym, subst, arith}
use Rattle.jc_reading.specs.Giving.{Gives}
use Rattle.jc_reading.specs.Reading.{Read}
use Rattle.jc_expr_laws.specs.ExprReading.{exprs}
use Rattle.jc_parse_heads.proofs.Joinings.{two_gives}
use Rattle.jc_part_laws.specs.PartReading.{modifiers_run}
use Rattle.jc_tree.specs.declared.statement.TopLevel.{TopLevel}
use Rattle.jc_parse_heads.specs.UnitCode.{declaration_rest_run}
use Rattle.jc_parse_unit.proofs.Filing.{declared_is, top_node}
use Rattle.jc_parse_unit.proofs.files.declared.Goals as goal

pub returns : goal.returns
returns c =
    subst (λ (v : Read TopLevel). Gives c.top_of.result v) (sym (declared_is c.args.tokens.now))
    (two_gives top_node (modifiers_run exprs 198 c.args.tokens.now) (declaration_rest_run 198) c.in_ok-modifiers.modifiers c.rest_at.result c.top_of.result c.in_ok-modifiers.ensures.read c.rest_at.ensures c.top_of.ensures)
