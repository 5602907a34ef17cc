use Rattle.jc_assign_parts.proofs.Steps.{used_known, on_ok}
use Rattle.jc_assign_parts.proofs.state.use_at.Goals as goal

pub returns : goal.returns
returns c = on_ok c.push_found.result (used_known c.args.s.now c.args.mask c.known.result c.alike-missing.result c.args.place c.push_found.new.list c.known.ensures c.alike-missing.ensures) c.push_found.ensures
