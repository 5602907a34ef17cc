use Rattle.std.proofs.Common.{◌≡◌, ◌-◌, true, arith, rules, sym, ap, ◌∙◌}
use Rattle.jc_clashes.specs.Spreading.{are_as_many, spread, widened}
use Rattle.jc_clashes.proofs.Rounds.{step_on, stopped}
use Rattle.jc_clashes.proofs.spreading.spread.Goals as goal

pub returns-then-are_as_many : goal.returns-then-are_as_many
returns-then-are_as_many c =
    let belows = c.args.belows.now in
    let same : c.are_as_many.result ≡ true = search rules in
    stopped belows (c.args.steps - c.loop-step.step) c.loop-step.sets c.in_ok-next.next (spread belows c.args.steps c.args.own)
    (c.in_ok-next.ensures ∙ ap (λ ss. widened belows ss ss) c.slice.ensures) (sym same ∙ c.are_as_many.ensures ∙ ap (λ ss. are_as_many ss c.slice-in-loop-step-2.result.now) c.slice-in-loop-step.ensures ∙ ap (are_as_many c.loop-step.sets) c.slice-in-loop-step-2.ensures)
    c.loop-step.invariant

pub loop-step-preserved : goal.loop-step-preserved
loop-step-preserved c =
    let belows = c.args.belows.now in
    step_on belows c.loop-step.step c.args.steps c.loop-step.sets c.in_ok-next.next (spread belows c.args.steps c.args.own) (omega arith) (c.in_ok-next.ensures ∙ ap (λ ss. widened belows ss ss) c.slice.ensures) c.loop-step.invariant
