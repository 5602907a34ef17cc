use Rattle.jc_assign_parts.proofs.Marking.{marks_free}
use Rattle.jc_assign_parts.proofs.words.free_marks.Goals as goal

pub returns : goal.returns
returns c = marks_free
