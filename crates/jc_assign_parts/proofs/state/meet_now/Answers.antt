use Rattle.jc_assign_parts.proofs.Steps.{met_known}
use Rattle.jc_assign_parts.proofs.state.meet_now.Goals as goal

pub returns : goal.returns
returns c = met_known c.args.s.now c.args.m c.meet_marks-s.result c.meet_marks-s.ensures
