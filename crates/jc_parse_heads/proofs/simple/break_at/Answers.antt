use Rattle.std.proofs.Common.{sym, subst, arith}
use Rattle.std.proofs.lemmas.Result.{err_from_is_err_and}
use Rattle.jc_lexer.specs.declared.token.Key.TheVariants as key_of
use Rattle.jc_tree.specs.declared.statement.Stmt.{Stmt}
use Rattle.jc_reading.specs.Giving.{Gives, Halts}
use Rattle.jc_reading.specs.Kinds.{key_code}
use Rattle.jc_reading.specs.Reading.{Read, at_kind}
use Rattle.jc_expr_laws.specs.ExprReading.{exprs}
use Rattle.jc_unit_laws.specs.MemberReading.{levels}
use Rattle.jc_parse_heads.proofs.Joinings.{two_gives, two_halts}
use Rattle.jc_parse_heads.specs.UnitCode.{ended_label_run}
use Rattle.jc_parse_heads.proofs.Starts.{break_is, break_node}
use Rattle.jc_parse_heads.proofs.simple.break_at.Goals as goal

pub returns-in_err-at : goal.returns-in_err-at
returns-in_err-at c = let p = err_from_is_err_and c.from_residual.result c.from_residual.ensures.1 in rw (p.1, p.2) (subst (λ (v : Read Stmt). Halts c.in_err-at.field-0.0 v) (sym (break_is c.args.height (levels exprs c.args.height) c.args.tokens.now)) (two_halts break_node (at_kind (key_code key_of.Break) c.args.tokens.now) ended_label_run c.in_err-at.field-0.0 (c.in_err-at.ensures.read)))

pub returns : goal.returns
returns c = subst (λ (v : Read Stmt). Gives c.break_of.result v) (sym (break_is c.args.height (levels exprs c.args.height) c.args.tokens.now)) (two_gives break_node (at_kind (key_code key_of.Break) c.args.tokens.now) ended_label_run c.in_ok-at.at c.ended_label.result c.break_of.result (c.in_ok-at.ensures.read) (c.ended_label.ensures) c.break_of.ensures)
