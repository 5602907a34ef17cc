use Rattle.std.proofs.Common.{sym, subst, arith}
use Rattle.std.proofs.lemmas.Result.{err_from_is_err_and}
use Rattle.jc_tree.specs.declared.statement.ForHead.{ForHead}
use Rattle.jc_reading.specs.Giving.{Gives, Halts}
use Rattle.jc_reading.specs.Reading.{Read}
use Rattle.jc_parse_heads.proofs.Joinings.{two_gives, two_halts}
use Rattle.jc_parse_heads.specs.HeadCode.{effects_run, for_tail_run}
use Rattle.jc_parse_heads.proofs.ForForms.{for_effects_is, for_effects_node}
use Rattle.jc_parse_heads.proofs.looping.for_effects.Goals as goal

pub returns-in_err-first : goal.returns-in_err-first
returns-in_err-first c = let p = err_from_is_err_and c.from_residual.result c.from_residual.ensures.1 in rw (p.1, p.2) (subst (λ (v : Read ForHead). Halts c.in_err-first.field-0.0 v) (sym (for_effects_is c.args.height c.args.tokens.now)) (two_halts (for_effects_node c.args.height c.args.tokens.now) (effects_run c.args.height c.args.tokens.now) (for_tail_run c.args.height) c.in_err-first.field-0.0 (c.in_err-first.ensures.read)))

pub returns : goal.returns
returns c = subst (λ (v : Read ForHead). Gives c.for_effects_of.result v) (sym (for_effects_is c.args.height c.args.tokens.now)) (two_gives (for_effects_node c.args.height c.args.tokens.now) (effects_run c.args.height c.args.tokens.now) (for_tail_run c.args.height) c.in_ok-first.first c.for_tail.result c.for_effects_of.result (c.in_ok-first.ensures.read) (c.for_tail.ensures) c.for_effects_of.ensures)
