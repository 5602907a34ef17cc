use Rattle.jc_assign_parts.proofs.Marking.{marks_over}
use Rattle.jc_assign_parts.proofs.words.over_marks.Goals as goal

pub returns : goal.returns
returns c = marks_over c.args.last c.args.came c.both.result c.both.ensures
