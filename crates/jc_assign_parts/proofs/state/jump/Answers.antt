use Rattle.jc_assign_parts.proofs.Steps.{jumped_known}
use Rattle.jc_assign_parts.proofs.state.jump.Goals as goal

pub returns : goal.returns
returns c = jumped_known c.args.s.now c.args.jump c.free_marks-s.result c.push.new.self c.in_ok-push.ensures.ok c.free_marks-s.ensures
