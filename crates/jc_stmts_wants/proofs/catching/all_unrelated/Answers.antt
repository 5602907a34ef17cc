use Rattle.std.proofs.Common.{refl, ◌∙◌}
use Rattle.jc_stmts_spec.specs.Courses.{all_unrelated, unrelated_to}
use Rattle.jc_stmts_wants.proofs.Turning.{rest_turn}
use Rattle.jc_stmts_wants.proofs.catching.all_unrelated.Goals as goal

pub loop-rest-preserved : goal.loop-rest-preserved
loop-rest-preserved c =
    let T = c.args.clause.now.table.now in
    let place = c.args.clause.now.place in
    rest_turn (all_unrelated T place) (unrelated_to T place) (λ x xs. refl) c.loop-rest.least c.in_ok-least.least c.loop-rest.rest.now
    c.ty-item.result _ c.in-len1-up.len_at_least c.ty-item.is c.in_ok-least.ensures
    ∙ c.loop-rest.invariant
