use Rattle.jc_assign_parts.proofs.Marking.{worlds_alike}
use Rattle.jc_assign_parts.proofs.words.alike.Goals as goal

pub returns : goal.returns
returns c = worlds_alike c.args.w
