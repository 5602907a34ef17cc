use Rattle.std.proofs.Common.{sym, subst, arith}
use Rattle.std.proofs.lemmas.Result.{err_from_is_err_and}
use Rattle.jc_reading.specs.Giving.{Gives, Halts}
use Rattle.jc_reading.specs.Reading.{Read}
use Rattle.jc_expr_laws.specs.ExprReading.{exprs}
use Rattle.jc_parse_heads.proofs.Joinings.{two_gives, two_halts}
use Rattle.jc_parse_nodes.specs.declared.head_parts.Valued.{Valued}
use Rattle.jc_parse_heads.specs.HeadCode.{assigned_name_run}
use Rattle.jc_parse_heads.proofs.ResourceForms.{valued_is, valued_node}
use Rattle.jc_parse_heads.proofs.resourcing.valued.Goals as goal

pub returns-in_err-label : goal.returns-in_err-label
returns-in_err-label c = let p = err_from_is_err_and c.from_residual.result c.from_residual.ensures.1 in rw (p.1, p.2) (subst (λ (v : Read Valued). Halts c.in_err-label.field-0.0 v) (sym (valued_is c.args.height c.args.tokens.now)) (two_halts valued_node (assigned_name_run c.args.tokens.now) (exprs.expr c.args.height) c.in_err-label.field-0.0 (c.in_err-label.ensures.read)))

pub returns : goal.returns
returns c = subst (λ (v : Read Valued). Gives c.valued_of.result v) (sym (valued_is c.args.height c.args.tokens.now)) (two_gives valued_node (assigned_name_run c.args.tokens.now) (exprs.expr c.args.height) c.in_ok-label.label c.expr_within.result c.valued_of.result (c.in_ok-label.ensures.read) (c.expr_within.ensures.read) c.valued_of.ensures)
