use Rattle.std.proofs.Common.{List, sym, subst, arith}
use Rattle.std.proofs.lemmas.Result.{err_from_is_err_and}
use Rattle.jc_reading.specs.Giving.{Gives, Halts}
use Rattle.jc_reading.specs.Reading.{Read}
use Rattle.jc_parse_heads.proofs.Joinings.{two_halts}
use Rattle.jc_tree.specs.declared.expression.Expr.{Expr}
use Rattle.jc_unit_laws.specs.UnitReading.{semicolon_run}
use Rattle.jc_parse_heads.specs.HeadCode.{updates_run}
use Rattle.jc_parse_heads.proofs.ForForms.{for_update_is, for_update_found}
use Rattle.jc_parse_heads.proofs.looping.for_update.Goals as goal

pub returns-in_err-open : goal.returns-in_err-open
returns-in_err-open c = let p = err_from_is_err_and c.from_residual.result c.from_residual.ensures.1 in rw (p.1, p.2) (subst (λ (v : Read (List Expr)). Halts c.in_err-open.field-0.0 v) (sym (for_update_is c.args.height c.args.tokens.now)) (two_halts (λ (p : Unit {0} × List Expr). p.1) (semicolon_run c.args.tokens.now) (updates_run c.args.height) c.in_err-open.field-0.0 (c.in_err-open.ensures.read)))

pub returns : goal.returns
returns c = let o = c.in_ok-open.open in subst (λ (v : Read (List Expr)). Gives c.reaching.result v) (sym (for_update_found c.args.height c.args.tokens.now o.rest.now o.left c.in_ok-open.ensures.read)) (c.reaching.ensures.read (updates_run c.args.height o.rest.now) c.updates.ensures)
