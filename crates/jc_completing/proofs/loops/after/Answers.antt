use Rattle.std.proofs.Common.{ap, sym}
use Rattle.jc_completing.proofs.loops.after.Goals as goal

pub returns : goal.returns
returns c = λ k coherent. sym (ap k.numbered (c.after_element.ensures c.args.run.now.state c.args.run.now.units))
