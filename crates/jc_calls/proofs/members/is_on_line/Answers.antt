use Rattle.std.proofs.Common.{◌-◌, ◌+◌, ◌∙◌, ℕ, length, sym, ap, arith}
use Rattle.std.specs.declared.option.Option.{Option}
use Rattle.jc_calls.proofs.OnLine.{is_on, on_found, on_more, on_end, on_over}
use Rattle.jc_calls.proofs.members.is_on_line.Goals as goal

pub returns : goal.returns
returns c = on_over c.args.classes.now c.args.class (length c.args.classes.now - c.loop-done.done) c.loop-done.here _ (omega arith) c.loop-done.invariant

pub returns-in-None : goal.returns-in-None
returns-in-None c = on_end c.args.classes.now c.args.class (length c.args.classes.now - c.loop-done.done) c.loop-done.here _ c.in-None.is c.loop-done.invariant

pub returns-then-number-class : goal.returns-then-number-class
returns-then-number-class c =
    on_found c.args.classes.now c.args.class (length c.args.classes.now) c.loop-done.done c.in-Some.number _ (omega (arith, c.loop-done-test.true, c.len-done-end.ensures)) c.if-number-class.true
    (ap (λ (here : Option ℕ). is_on c.args.classes.now c.args.class (length c.args.classes.now - c.loop-done.done) here) (sym c.in-Some.is) ∙ c.loop-done.invariant)

pub loop-done-preserved : goal.loop-done-preserved
loop-done-preserved c =
    ap (λ (here : Option ℕ). is_on c.args.classes.now c.args.class (length c.args.classes.now - (c.loop-done.done + 1)) here) c.superclass-here.ensures
    ∙ on_more c.args.classes.now c.args.class (length c.args.classes.now) c.loop-done.done c.in-Some.number _ (omega (arith, c.loop-done-test.true, c.len-done-end.ensures)) c.if-number-class.false
    (ap (λ (here : Option ℕ). is_on c.args.classes.now c.args.class (length c.args.classes.now - c.loop-done.done) here) (sym c.in-Some.is) ∙ c.loop-done.invariant)
