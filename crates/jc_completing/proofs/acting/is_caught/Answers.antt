use Rattle.std.proofs.Common.{refl}
use Rattle.jc_completing.proofs.acting.is_caught.Goals as goal

pub returns : goal.returns
returns c = c.in_ok-caught.ensures c.args.program.now refl
