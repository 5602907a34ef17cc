use Rattle.std.proofs.Common.{◌≡◌, List, sym, subst, arith}
use Rattle.jc_reading.specs.Giving.{Gives, Halts}
use Rattle.jc_reading.specs.Reading.{Read}
use Rattle.jc_tree.specs.declared.expression.Expr.{Expr}
use Rattle.jc_reading.specs.Reading.{Stopped, becoming}
use Rattle.jc_reading.specs.declared.reading.Halt.{Halt}
use Rattle.jc_parse_heads.specs.HeadCode.{effects_in_run, no_updates, parens_end}
use Rattle.jc_parse_heads.proofs.ForUpdates.{updates_found, updates_stop}
use Rattle.jc_parse_heads.proofs.looping.updates.Goals as goal

pub returns-in-Ok : goal.returns-in-Ok
returns-in-Ok c = let f = c.in-Ok.found in subst (λ (v : Read (List Expr)). Gives c.closed.result v) (sym (updates_found c.args.height c.args.tokens.now f.rest.now f.value f.left c.in-Ok.ensures)) c.closed.ensures.read

pub returns-in-Err-Stopped : goal.returns-in-Err-Stopped
returns-in-Err-Stopped c =
    let stop : effects_in_run c.args.height c.args.tokens.now ≡ Stopped c.in-Err-Stopped.left = subst (λ (h : Halt). Halts h (effects_in_run c.args.height c.args.tokens.now)) c.in-Err-Stopped.field-0-is c.in-Err-Stopped.ensures in
    subst (λ (v : Read (List Expr)). Gives c.reaching.result v) (sym (updates_stop c.args.height c.args.tokens.now c.in-Err-Stopped.left stop)) (c.reaching.ensures.read (becoming no_updates (parens_end c.args.tokens.now)) c.without_updates.ensures)
