use Rattle.jc_assign_parts.proofs.Steps.{given_known}
use Rattle.jc_assign_parts.proofs.state.give_at.Goals as goal

pub returns : goal.returns
returns c = given_known c.args.s.now c.args.mask c.put-s.result c.args.fixed c.put_marks-s.result c.put_marks-s.ensures c.put-s.ensures
