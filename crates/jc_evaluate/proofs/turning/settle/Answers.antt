use Rattle.std.proofs.Common.{◌≡◌, ◌-◌, ℕ, Err, rules, subst, sym}
use Rattle.jc_running.specs.Outcomes.{Val}
use Rattle.jc_pending.specs.Frames.{all_to_do, at_the_end, begun, left_to_do}
use Rattle.jc_pending.specs.Level.{nodes_of}
use Rattle.jc_pending.specs.declared.todo.Next.TheVariants as x
use Rattle.jc_evaluate.proofs.Onward.{step_in, step_is}
use Rattle.jc_evaluate.proofs.turning.settle.Goals as goal

pub returns-in-Err : goal.returns-in-Err
returns-in-Err c = λ P r w h. step_is P (nodes_of P c.args.level.method) c.args.level.depth (all_to_do P at_the_end c.args.stack.now) c.args.next (Err c.in-Err.h) r w c.in-Err.is h

pub returns-in-Ok-Give : goal.returns-in-Ok-Give
returns-in-Ok-Give c = λ P r w h. step_in P (nodes_of P c.args.level.method) c.args.level.depth (all_to_do P at_the_end c.args.stack.now) c.args.next c.in-Ok-Give.field-0 (x.Give c.in-Ok-Give.given) r w c.in-Ok-Give.is c.in-Ok-Give.field-0-is h

pub returns-in-Ok-Begin : goal.returns-in-Ok-Begin
returns-in-Ok-Begin c = λ P r w h. c.begin.ensures P r w (step_in P (nodes_of P c.args.level.method) c.args.level.depth (all_to_do P at_the_end c.args.stack.now) c.args.next c.in-Ok-Begin.field-0 (x.Begin c.in-Ok-Begin.task) r w c.in-Ok-Begin.is c.in-Ok-Begin.field-0-is h)

pub returns-in-Ok-At : goal.returns-in-Ok-At
returns-in-Ok-At c = λ P r w h. c.begin-in-Ok-At.ensures P r w (step_in P (nodes_of P c.args.level.method) c.args.level.depth (all_to_do P at_the_end c.args.stack.now) c.args.next c.in-Ok-At.field-0 (x.At c.in-Ok-At.other c.in-Ok-At.task) r w c.in-Ok-At.is c.in-Ok-At.field-0-is h)

pub returns-in-Ok-Then : goal.returns-in-Ok-Then
returns-in-Ok-Then c = λ P r w h. c.begin_behind.ensures P r w (step_in P (nodes_of P c.args.level.method) c.args.level.depth (all_to_do P at_the_end c.args.stack.now) c.args.next c.in-Ok-Then.field-0 (x.Then c.in-Ok-Then.todo c.in-Ok-Then.task) r w c.in-Ok-Then.is c.in-Ok-Then.field-0-is h)

pub returns-in-Ok-Deeper : goal.returns-in-Ok-Deeper
returns-in-Ok-Deeper c = λ P r w h.
    let less : c.saturating_sub.result ≡ c.args.level.depth - 1 = search rules in
    c.begin_behind-in-Ok-Deeper.ensures P r w
    (subst (λ (d : ℕ). begun P (nodes_of P c.args.level.method) d c.in-Ok-Deeper.task (left_to_do P (nodes_of P c.args.level.method) c.args.level.depth c.in-Ok-Deeper.todo (all_to_do P at_the_end c.args.stack.now)) (Val tt r.units r.state) ≡ w)
    (sym less) (step_in P (nodes_of P c.args.level.method) c.args.level.depth (all_to_do P at_the_end c.args.stack.now) c.args.next c.in-Ok-Deeper.field-0 (x.Deeper c.in-Ok-Deeper.todo c.in-Ok-Deeper.task) r w c.in-Ok-Deeper.is c.in-Ok-Deeper.field-0-is h))
