use Rattle.jc_assign_parts.proofs.Marking.{marks_meet}
use Rattle.jc_assign_parts.proofs.words.meet_marks.Goals as goal

pub returns : goal.returns
returns c = marks_meet c.args.a c.args.b c.both.result c.both.ensures
