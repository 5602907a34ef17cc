use Rattle.std.proofs.Common.{◌+◌, ◌-◌, ◌++◌, ap, ◌∙◌, arith, Ok}
use Rattle.jc_machine.proofs.Running.{after_step, waits_more, put_some, part_put, part_put_more, part_stays, finish_all, finish_ran, at_end}
use Rattle.jc_machine.proofs.machine.Machine.run_for.Goals as goal
use Rattle.jc_machine.proofs.machine.Machine.run_for.Goals.{in-Goes, in-Puts+in_ok-put_byte-in-Puts+else-not-branch}

pub returns-in_err-step-clause-part : goal.returns-in_err-step-clause-part
returns-in_err-step-clause-part g c = part_put _ _ c.loop.invariant.0 _ _ _ _ _ c.loop.invariant.1

pub returns-in_err-put_byte-in-Puts-clause-part : goal.returns-in_err-put_byte-in-Puts-clause-part
returns-in_err-put_byte-in-Puts-clause-part g c = part_stays _ _ _ _ (part_put _ _ c.loop.invariant.0 _ _ _ _ _ c.loop.invariant.1) c.in_err-put_byte-in-Puts.ensures.memory

pub returns-then-not-branch-clause-part : goal.returns-then-not-branch-clause-part
returns-then-not-branch-clause-part g c =
    let far = after_step _ _ _ _ _ _ _ _ _ c.loop.counter _ _ _ _ c.loop.invariant.1 c.loop-test.true c.in_ok-step.ensures.step c.in-Puts.ensures in
    let far = waits_more _ _ _ _ _ c.in-Puts.byte _ _ _ far in
    part_put_more _ _ _ _ _ _ _ _ _ far (c.in_ok-put_byte-in-Puts.ensures.no (ap Ok c.if-not-branch.true)).0

pub returns-in-Ends-clause-ran : goal.returns-in-Ends-clause-ran
returns-in-Ends-clause-ran g c =
    let far = after_step _ _ _ _ _ _ _ _ _ c.loop.counter _ _ _ _ c.loop.invariant.1 c.loop-test.true c.in_ok-step.ensures.step c.in-Ends.ensures in
    finish_ran _ _ _ _ _ _ _ _ _ far _ _ c.finish.ensures.all

pub returns-in-Ends-clause-all : goal.returns-in-Ends-clause-all
returns-in-Ends-clause-all g c =
    let far = after_step _ _ _ _ _ _ _ _ _ c.loop.counter _ _ _ _ c.loop.invariant.1 c.loop-test.true c.in_ok-step.ensures.step c.in-Ends.ensures in
    finish_all _ _ _ _ _ _ _ _ _ far _ _ c.finish.ensures.all

pub returns-in-Ends-clause-part : goal.returns-in-Ends-clause-part
returns-in-Ends-clause-part g c = part_put_more _ _ _ c.loop.invariant.0 _ _ _ _ _ c.loop.invariant.1 c.finish.ensures.part

pub loop-preserved : goal.loop-preserved
loop-preserved g c =
    let keys = c.step.ensures.keys ∙ c.loop.invariant.3 in
    rw c.step.ensures.classes
    (elim c.match-turn_after.branch [
      | in-Goes w ↦
          (let here = after_step _ _ _ _ _ _ _ _ _ c.loop.counter _ _ _ _ c.loop.invariant.1 c.loop-test.true c.in_ok-step.ensures.step w.in-Goes.ensures in
          rw (w.out-is, w.pending-is) (c.loop.invariant.0, here, c.loop.invariant.2, keys))
      | in-Puts+in_ok-put_byte-in-Puts+else-not-branch w ↦
          (let far = after_step _ _ _ _ _ _ _ _ _ c.loop.counter _ _ _ _ c.loop.invariant.1 c.loop-test.true c.in_ok-step.ensures.step w.in-Puts.ensures in
          let here = waits_more _ _ _ _ _ w.in-Puts.byte _ _ _ far in
          let some = w.in_ok-put_byte-in-Puts.ensures.yes (ap Ok w.if-not-branch.false) in
          rw (w.out-is, w.pending-is) (c.loop.invariant.0 ++ some.0, put_some _ _ _ _ _ _ _ _ _ _ _ _ here some.1 some.2 w.put_byte.ensures.later, c.loop.invariant.2, keys))
    ])

pub returns-clause-ran : goal.returns-clause-ran
returns-clause-ran g c =
    let far = at_end _ _ _ _ _ _ _ _ _ c.loop.counter _ c.loop.invariant.1 c.loop-test.false in
    finish_ran _ _ _ _ _ _ _ _ _ far _ _ c.finish-2.ensures.all

pub returns-clause-all : goal.returns-clause-all
returns-clause-all g c =
    let far = at_end _ _ _ _ _ _ _ _ _ c.loop.counter _ c.loop.invariant.1 c.loop-test.false in
    finish_all _ _ _ _ _ _ _ _ _ far _ _ c.finish-2.ensures.all

pub returns-clause-part : goal.returns-clause-part
returns-clause-part g c = part_put_more _ _ _ c.loop.invariant.0 _ _ _ _ _ c.loop.invariant.1 c.finish-2.ensures.part
