use Rattle.jc_assign_parts.proofs.Steps.{set_known}
use Rattle.jc_assign_parts.proofs.state.set_now.Goals as goal

pub returns : goal.returns
returns c = set_known c.args.s.now c.args.m
