use Rattle.std.proofs.Common.{ap, ◌∙◌}
use Rattle.jc_assign_parts.specs.Lanes.{broken}
use Rattle.jc_assign_parts.proofs.Steps.{found_if, on_ok}
use Rattle.jc_assign_parts.proofs.state.push_found.Goals as goal

pub returns : goal.returns
returns c = on_ok c.push.result (λ e. ap broken e ∙ found_if c.args.list.now c.args.lanes c.args.rule c.args.place) c.push.ensures.ok
