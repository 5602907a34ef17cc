use Rattle.jc_assign_parts.proofs.Steps.{written_known}
use Rattle.jc_assign_parts.proofs.state.write_at.Goals as goal

pub returns : goal.returns
returns c = written_known c.args.s.now c.args.mask c.args.finals c.known.result c.refused-lanes.result c.args.place c.push_found.new.list c.put_marks-s.result c.put-s.result c.known.ensures c.refused-lanes.ensures c.in_ok-push_found.ensures c.put_marks-s.ensures c.put-s.ensures
