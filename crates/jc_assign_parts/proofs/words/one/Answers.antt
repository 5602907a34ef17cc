use Rattle.jc_assign_parts.proofs.Marking.{word_one}
use Rattle.jc_assign_parts.proofs.words.one.Goals as goal

pub returns : goal.returns
returns c = word_one c.args.k c.requires
