use Rattle.std.proofs.Common.{Bool, length, subst}
use Rattle.jc_settling.specs.Steps.{Passed}
use Rattle.jc_settling.proofs.Stepping.{ended}
use Rattle.jc_settling.proofs.settling.settle_all.Goals as goal

pub returns-then-not-branch : goal.returns-then-not-branch
returns-then-not-branch c =
    let heads = c.args.sources.now.declared.heads.now in
    ended heads c.passes.known.items c.pass_over.new.known.items c.passes.invariant.length c.passes.invariant.sound
    (subst (λ (changed : Bool). Passed heads c.passes.known.items c.pass_over.new.known.items (length c.passes.known.items) changed) c.if-not-branch.true c.in_ok-pass_over.ensures.passed)
