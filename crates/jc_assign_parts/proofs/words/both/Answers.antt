use Rattle.jc_assign_parts.proofs.Marking.{worlds_both}
use Rattle.jc_assign_parts.proofs.words.both.Goals as goal

pub returns : goal.returns
returns c = worlds_both c.args.a c.args.b
