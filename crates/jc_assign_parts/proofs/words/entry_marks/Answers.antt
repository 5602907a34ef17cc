use Rattle.jc_assign_parts.proofs.Marking.{marks_entry}
use Rattle.jc_assign_parts.proofs.words.entry_marks.Goals as goal

pub returns : goal.returns
returns c = marks_entry c.args.m c.args.wrote c.alike.result c.less.result c.alike.ensures c.less.ensures
