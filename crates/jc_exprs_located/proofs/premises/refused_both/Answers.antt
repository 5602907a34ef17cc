use Rattle.std.proofs.Common.{ap, ◌∙◌}
use Rattle.jc_exprs_nodes_spec.specs.Gates.{stopped}
use Rattle.jc_exprs_nodes.specs.Walks.{now}
use Rattle.jc_exprs_located.proofs.Gating.{one_stops}
use Rattle.jc_exprs_located.proofs.premises.refused_both.Goals as goal

pub returns-clause-stops : goal.returns-clause-stops
returns-clause-stops c = λ m h. one_stops c.args.first c.args.second m (now c.args.walk.now) h ∙ ap stopped c.note_both.ensures.state
