use Rattle.std.proofs.Common.{ap, sym}
use Rattle.jc_completing.proofs.statements.instead_of.Goals as goal

pub returns : goal.returns
returns c = λ k coherent. sym (ap k.completion (c.instead.ensures c.args.run.now.units c.args.run.now.state))
