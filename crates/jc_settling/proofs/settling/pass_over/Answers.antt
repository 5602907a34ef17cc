use Rattle.std.proofs.Common.{◌<◌, length, arith}
use Rattle.jc_settling.proofs.Stepping.{turn}
use Rattle.jc_settling.proofs.settling.pass_over.Goals as goal

pub loop-class-preserved : goal.loop-class-preserved
loop-class-preserved c =
    let within : c.loop-class.class < length c.loop-class.known.items = omega arith in
    let t = turn c.args.sources.now.declared.heads.now c.args.known.now.items c.loop-class.known.items c.step.new.known.items c.loop-class.class c.in_ok-did.did c.loop-class.changed within c.in_ok-did.ensures (c.loop-class.invariant.length, c.loop-class.invariant.sound, c.loop-class.invariant.passed) in
    record { length = t.0; sound = t.1; passed = rw c.if_did-changed.ensures (t.2) }
