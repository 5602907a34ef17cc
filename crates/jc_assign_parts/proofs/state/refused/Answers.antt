use Rattle.jc_assign_parts.proofs.Steps.{refused_at}
use Rattle.jc_assign_parts.proofs.state.refused.Goals as goal

pub returns : goal.returns
returns c = refused_at c.args.finals c.args.s.now.fixed c.args.s.now.marks.unset c.alike-fixed.result c.alike.result c.less-open.result c.either.result c.alike-fixed.ensures c.alike.ensures c.less-open.ensures c.either.ensures
