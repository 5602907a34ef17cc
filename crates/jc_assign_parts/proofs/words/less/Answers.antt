use Rattle.jc_assign_parts.proofs.Marking.{worlds_less}
use Rattle.jc_assign_parts.proofs.words.less.Goals as goal

pub returns : goal.returns
returns c = worlds_less c.args.a c.args.b
