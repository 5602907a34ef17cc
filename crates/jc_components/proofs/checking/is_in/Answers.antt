use Rattle.jc_components.proofs.Marks.{next_in}
use Rattle.jc_components.proofs.checking.is_in.Goals as goal

pub returns-then-member-vertex : goal.returns-then-member-vertex
returns-then-member-vertex c t = next_in c.args.vertex c.args.row.now c.loop-member.member-index c.loop-member-test.true c.if-member-vertex.true
