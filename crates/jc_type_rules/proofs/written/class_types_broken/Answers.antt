use Rattle.std.proofs.Common.{[], refl, ◌∙◌}
use Rattle.jc_judge.specs.Forming.{class_faults}
use Rattle.jc_header_rules.specs.Types.{class_types_broken, faults_broken}
use Rattle.jc_header_rules.proofs.Turning.{both_turn}
use Rattle.jc_type_rules.proofs.written.class_types_broken.Goals as goal

pub loop-rest-preserved : goal.loop-rest-preserved
loop-rest-preserved c =
    let T = c.args.table.now in
    both_turn (class_types_broken T) (λ t p. faults_broken p (class_faults T [] t)) (λ x xs y ys. refl) c.loop-rest.found c.in_ok-found-in-len1-up-left.found c.loop-rest.rest.now c.loop-rest.left.now
    c.t-item.result _ _ _ c.in-len1-up.len_at_least c.in-len1-up-left.len_at_least c.t-item.is refl c.in_ok-found-in-len1-up-left.ensures
    ∙ c.loop-rest.invariant
