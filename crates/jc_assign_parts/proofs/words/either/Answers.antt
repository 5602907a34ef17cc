use Rattle.jc_assign_parts.proofs.Marking.{worlds_either}
use Rattle.jc_assign_parts.proofs.words.either.Goals as goal

pub returns : goal.returns
returns c = worlds_either c.args.a c.args.b
