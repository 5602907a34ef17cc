use Rattle.jc_assign_parts.proofs.Marking.{marks_put}
use Rattle.jc_assign_parts.proofs.words.put_marks.Goals as goal

pub returns : goal.returns
returns c = marks_put c.args.m c.args.mask c.put.result c.put_worlds.result c.args.is_set c.put.ensures c.put_worlds.ensures
