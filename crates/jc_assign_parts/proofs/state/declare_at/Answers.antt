use Rattle.jc_assign_parts.proofs.Steps.{declared_known}
use Rattle.jc_assign_parts.proofs.state.declare_at.Goals as goal

pub returns : goal.returns
returns c = declared_known c.args.s.now c.args.mask c.put-s.result c.args.has_value c.put_marks-s.result c.put_marks-s.ensures c.put-s.ensures
