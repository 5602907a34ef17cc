use Rattle.std.proofs.Common.{sym, subst, arith}
use Rattle.std.proofs.lemmas.Result.{err_from_is_err_and}
use Rattle.jc_reading.specs.Giving.{Gives, Halts}
use Rattle.jc_reading.specs.Reading.{Read}
use Rattle.jc_tree.specs.declared.statement.Stmt.{Stmt}
use Rattle.jc_parse_heads.proofs.Joinings.{two_gives, two_halts}
use Rattle.jc_parse_heads.specs.UnitCode.{roomy_modifiers_run, typed_run}
use Rattle.jc_parse_heads.proofs.Effects.{local_is, local_node}
use Rattle.jc_parse_heads.proofs.locals.local.Goals as goal

pub returns-in_err-modifiers : goal.returns-in_err-modifiers
returns-in_err-modifiers c = let p = err_from_is_err_and c.from_residual.result c.from_residual.ensures.1 in rw (p.1, p.2) (subst (λ (v : Read Stmt). Halts c.in_err-modifiers.field-0.0 v) (sym (local_is c.args.height c.args.tokens.now)) (two_halts local_node (roomy_modifiers_run c.args.height c.args.tokens.now) (typed_run c.args.height) c.in_err-modifiers.field-0.0 c.in_err-modifiers.ensures.read))

pub returns : goal.returns
returns c =
    subst (λ (v : Read Stmt). Gives c.local_of.result v) (sym (local_is c.args.height c.args.tokens.now))
    (two_gives local_node (roomy_modifiers_run c.args.height c.args.tokens.now) (typed_run c.args.height) c.in_ok-modifiers.modifiers c.typed.result c.local_of.result c.in_ok-modifiers.ensures.read c.typed.ensures c.local_of.ensures)
